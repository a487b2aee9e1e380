-- Laws of writing a line: sums of bytes, and what a line is made of. Assumes nothing.
use mathlib.Core.Path.{◌≡◌, refl, sym, ap, ap₂, ◌∙◌}
use mathlib.Core.List.{List, [], ◌∷◌, ◌++◌, append_assoc}
use Prim.Native.Nat.{ℕ, ◌+◌, ◌-◌, ◌*◌, ◌%◌, ◌≤◌}
use native.Mathlib.Nat.{add-zero}
use native.Mathlib.Omega.{arith}
use lib.ListN.{length, set, length-append, take-append-drop}
use Rattle.octets.specs.Octets.{put, bytes}
use Rattle.octets.proofs.Numbers.{length_bytes}
use Rattle.octets.proofs.Lent.{put_on, set_put, set_on, Front, front_on}
use Rattle.hex_digits.specs.Digits.{encoded}
use Rattle.hex_digits.proofs.Laws.{length_encoded, encoded_append}
use Rattle.hex_lines.specs.Format.{mark, line_feed, sum, checksum}
use Rattle.hex_lines.specs.Line.{line_bytes, hex_line}
use Rattle.hex_lines.specs.Inner.{Wrote}
use Rattle.hex_lines.proofs.Sums.{sum_append}

-- ---- bytes written one after the other

pub wrote_none : (text : List ℕ) (at : ℕ) → Wrote text at [] text at
unfolding put
wrote_none text at = record { written = sym (rw (add-zero at) (take-append-drop at text)); ends = omega arith }

pub wrote_as : {text text' bytes bytes' : List ℕ} {at end : ℕ} → bytes ≡ bytes' → Wrote text at bytes text' end → Wrote text at bytes' text' end
wrote_as e w = rw e at w

pub wrote_on : {text text₁ text₂ bytes₁ bytes₂ : List ℕ} {at mid end : ℕ} → at ≤ length text → Wrote text at bytes₁ text₁ mid → Wrote text₁ mid bytes₂ text₂ end
    → Wrote text at (bytes₁ ++ bytes₂) text₂ end
wrote_on {text} {text₁} {text₂} {bytes₁} {bytes₂} {at} {mid} {end} h first then = record {
  written = then.written ∙ ap (λ (t : List ℕ). put t mid bytes₂) first.written ∙ put_on text bytes₁ bytes₂ at mid first.ends h;
  ends = omega (arith, length-append bytes₁ bytes₂);
}

-- ---- a line

-- the bytes before the data
abbrev pub line_head : (kind address : ℕ) → List ℕ → List ℕ
line_head kind address s = length s ∷ (bytes 2 address ++ (kind ∷ []))

module _ (kind address : ℕ) (s : List ℕ) where
  pub line_bytes_are : line_bytes kind address s ≡ line_head kind address s ++ s
  line_bytes_are = ap (λ (t : List ℕ). length s ∷ t) (sym (append_assoc (bytes 2 address) (kind ∷ []) s))

  pub length_hex_line : length (hex_line kind address s) ≡ 12 + 2 * length s
  unfolding hex_line
  length_hex_line = simp (length-append, length_encoded, length_bytes) (omega arith)

  -- piece by piece, as a line is written
  pub hex_line_is : hex_line kind address s
      ≡ mark ∷ (encoded (line_head kind address s) ++ encoded s ++ encoded (checksum (line_head kind address s ++ s) ∷ []) ++ (line_feed ∷ []))
  unfolding hex_line
  hex_line_is =
      let h : List ℕ = line_head kind address s in
      let last : List ℕ = checksum (h ++ s) ∷ [] in
      ap (λ (b : List ℕ). mark ∷ (encoded (b ++ (checksum b ∷ [])) ++ (line_feed ∷ []))) line_bytes_are
      ∙ ap (λ (e : List ℕ). mark ∷ (e ++ (line_feed ∷ []))) (encoded_append (h ++ s) last ∙ ap (λ (e : List ℕ). e ++ encoded last) (encoded_append h s))

  -- the writes of a line, one after the other
  pub line_written : (out out₁ out₂ out₃ head : List ℕ) (a b v : ℕ) → 12 + 2 * length s ≤ length out → head ≡ line_head kind address s
      → a ≡ sum head → b ≡ sum s → v ≡ (256 - (a + b) % 256) % 256
      → out₁ ≡ put (set out 0 mark) 1 (encoded head) → out₂ ≡ put out₁ 9 (encoded s) → out₃ ≡ put out₂ (9 + 2 * length s) (encoded (v ∷ []))
      → Wrote out 0 (hex_line kind address s) (set out₃ (11 + 2 * length s) line_feed) (12 + 2 * length s)
  line_written out out₁ out₂ out₃ head a b v room eh ea eb ev e₁ e₂ e₃ =
      let h : List ℕ = line_head kind address s in
      let lh : length (encoded h) ≡ 8 = length_encoded h ∙ simp (length-append, length_bytes) in
      let total : a + b ≡ sum (h ++ s) = ap₂ (λ (x y : ℕ). x + y) (ea ∙ ap sum eh) eb ∙ sym (sum_append h s) in
      let last : v ≡ checksum (h ++ s) = ev ∙ ap (λ (n : ℕ). (256 - n % 256) % 256) total in
      let marked : Front out (set out 0 mark) (mark ∷ []) 1 = record { written = set_put out 0 mark (omega arith); long = refl } in
      let F₁ = front_on (encoded h) out₁ 8 marked (e₁ ∙ ap (λ (t : List ℕ). put (set out 0 mark) 1 (encoded t)) eh) lh in
      let F₂ = front_on (encoded s) out₂ (2 * length s) F₁ e₂ (length_encoded s) in
      let F₃ = front_on (encoded (v ∷ [])) out₃ 2 F₂ e₃ (length_encoded (v ∷ [])) in
      record {
        written =
            ap (λ (t : List ℕ). set t (11 + 2 * length s) line_feed) F₃.written
            ∙ set_on out _ 0 (11 + 2 * length s) line_feed (omega (arith, F₃.long)) (omega arith)
            ∙ ap (put out 0) (ap (λ (n : ℕ). mark ∷ (encoded h ++ encoded s ++ encoded (n ∷ []) ++ (line_feed ∷ []))) last ∙ sym hex_line_is);
        ends = omega (arith, length_hex_line);
      }
