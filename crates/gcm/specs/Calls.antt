-- Sealing and opening, offered alone: document 01, "The cipher", and of its stops the rows 3, 4 and 12; and document 02, A.8.
use Rattle.std.specs.Prelude.{◌≡◌, ℕ, ◌≤◌, Result, Bool, true, not, ◌&&◌, ◌||◌, List, [], ◌∷◌, ◌++◌, length, replicate, ◌==◌, nat_lt}
use Rattle.std.specs.Result.{result_unwrap_or}
use Rattle.std.proofs.Math.Option.{Option, none, some}
use Rattle.octets.specs.Limits.{key_lengths, nonce_length, tag_length, text_limit}
use Rattle.octets.specs.Octets.{put, same}
use Rattle.stops.specs.Stops.{first_of}
use Rattle.stops.specs.View.{check_number}
use Rattle.stops.specs.declared.Stop.{Stop}
pub use Rattle.aes_key.specs.Key.{KeyLength}
use Rattle.gcm.specs.Gcm.{encrypted, tag}

-- conditions on lengths in bytes: that of a key is none of those which are taken
unfoldable pub key_wrong : (taken : List ℕ) → ℕ → Bool
key_wrong [] n = true
key_wrong (m ∷ more) n = not (n == m) && key_wrong more n

abbrev pub nonce_wrong : ℕ → Bool
nonce_wrong n = not (n == nonce_length)

abbrev pub tag_wrong : ℕ → Bool
tag_wrong n = not (n == tag_length)

-- a text or associated data above the limit, or an output shorter than the text
abbrev pub buffers_wrong : (aad text out : ℕ) → Bool
buffers_wrong aad text out = nat_lt text_limit aad || nat_lt text_limit text || nat_lt out text

-- lengths that pass, the key's apart
pub record Sizes (nonce aad text out : ℕ) : Type 0 where
  pub nonce_fits : nonce ≡ nonce_length
  pub aad_fits : aad ≤ text_limit
  pub text_fits : text ≤ text_limit
  pub out_holds : text ≤ out

-- ---- sealing

unfoldable pub seal_stop : (key nonce aad text out : ℕ) → Option ℕ
seal_stop key nonce aad text out = first_of ((3, key_wrong key_lengths key || nonce_wrong nonce) ∷ (4, buffers_wrong aad text out) ∷ [])

-- what a sealing answers, and what the output holds afterwards
pub record Sealing : Type 0 where
  pub stop : Option ℕ
  pub tag : List ℕ
  pub out : List ℕ

-- on a stop the output is as it was, and the tag, which document 01 leaves open, is sixteen zeros
unfoldable pub sealing_at : Option ℕ → (key nonce aad text out : List ℕ) → Sealing
sealing_at (some n) key nonce aad text out = record { stop = some n; tag = replicate tag_length 0; out = out }
sealing_at none key nonce aad text out =
    let cipher = encrypted key nonce text in
    record { stop = none; tag = tag key nonce aad cipher; out = put out 0 cipher }

unfoldable pub sealing : (key nonce aad text out : List ℕ) → Sealing
sealing key nonce aad text out = sealing_at (seal_stop (length key) (length nonce) (length aad) (length text) (length out)) key nonce aad text out

-- ---- opening

-- the rows that look at lengths alone, and where these pass the tag's
abbrev pub open_length_rows : (key nonce aad text given out : ℕ) → List (ℕ × Bool)
open_length_rows key nonce aad text given out = (3, key_wrong key_lengths key || nonce_wrong nonce || tag_wrong given) ∷ (4, buffers_wrong aad text out) ∷ []

abbrev pub tag_row : (key nonce aad text given : List ℕ) → List (ℕ × Bool)
tag_row key nonce aad text given = (12, not (same given (tag key nonce aad text))) ∷ []

unfoldable pub open_length_stop : (key nonce aad text given out : ℕ) → Option ℕ
open_length_stop key nonce aad text given out = first_of (open_length_rows key nonce aad text given out)

unfoldable pub open_stop : (key nonce aad text given out : List ℕ) → Option ℕ
open_stop key nonce aad text given out =
    first_of
    (open_length_rows (length key) (length nonce) (length aad) (length text) (length given) (length out) ++ tag_row key nonce aad text given)

-- what an opening answers, and what the output holds afterwards
pub record Opening : Type 0 where
  pub stop : Option ℕ
  pub out : List ℕ

-- on a stop the output is as it was
unfoldable pub opening_at : Option ℕ → (key nonce text out : List ℕ) → Opening
opening_at (some n) key nonce text out = record { stop = some n; out = out }
opening_at none key nonce text out = record { stop = none; out = put out 0 (encrypted key nonce text) }

unfoldable pub opening : (key nonce aad text given out : List ℕ) → Opening
opening key nonce aad text given out = opening_at (open_stop key nonce aad text given out) key nonce text out

-- ---- the code's answers, with what it left in the output

abbrev pub sealed_as : Result (List ℕ) Stop → List ℕ → Sealing
sealed_as r out = record { stop = check_number r; tag = result_unwrap_or r (replicate tag_length 0); out = out }

abbrev pub opened_as : Result Unit Stop → List ℕ → Opening
opened_as r out = record { stop = check_number r; out = out }
