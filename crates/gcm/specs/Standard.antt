-- What `seal` and `open` answer where the lengths pass, by the standards: GCM-AE and GCM-AD of SP 800-38D, under a block cipher CIPH, and the block
-- cipher of FIPS 197 that the key's length names (document 02, A.8).
use Rattle.std.specs.Prelude.{◌≡◌, ℕ, List, length}
use Rattle.std.proofs.Math.Option.{Option, none, some}
use Rattle.octets.specs.Octets.{put}
use Rattle.aes.specs.Cipher.{AES-128, AES-256}
use Rattle.gcm.specs.Gcm.{GCM-AE, GCM-AD}
use Rattle.gcm.specs.Calls.{Sealing, Opening}

abbrev pub sealed_by : (nonce aad text out : List ℕ) → (List ℕ → List ℕ) → Sealing
sealed_by nonce aad text out CIPH = record { stop = none; tag = (GCM-AE CIPH nonce text aad).1; out = put out 0 (GCM-AE CIPH nonce text aad).0 }

-- with the text of GCM-AD, or with its FAIL
abbrev pub answered : Option (List ℕ) → List ℕ → Opening
answered (some P) out = record { stop = none; out = put out 0 P }
answered none out = record { stop = some 12; out = out }

abbrev pub opened_by : (nonce aad text given out : List ℕ) → (List ℕ → List ℕ) → Opening
opened_by nonce aad text given out CIPH = answered (GCM-AD CIPH nonce text aad given) out

-- x is f of the block cipher: AES-128 for a key of 16 bytes, AES-256 for one of 32
abbrev pub ByLength : {A : Type 0} → List ℕ → A → ((List ℕ → List ℕ) → A) → Type 0
ByLength key x f = (length key ≡ 16 → x ≡ f (AES-128 key)) × (length key ≡ 32 → x ≡ f (AES-256 key))
