-- `checkpoint::half::good_tag` meets its contract. Assumes nothing.
use Rattle.std.proofs.Common.{◌≡◌, ℕ, ◌+◌, ◌-◌, Bool, List, ap, ◌∙◌, arith}
use Rattle.octets.specs.Limits.{tag_length, part_limit}
use Rattle.octets.specs.Octets.{part, same}
use Rattle.aes.specs.Cipher.{aes}
use Rattle.gcm.specs.Gcm.{AE_tag, tag}
use Rattle.checkpoint.specs.Checkpoint.{Form, head_length}
use Rattle.checkpoint.specs.Half.{form_of, open_length, secret_length, stored_associated, stored_cipher, stored_tag, good_tag}
use Rattle.checkpoint.proofs.SealedLaws.{head_small}
use Rattle.checkpoint.proofs.StoredLaws.{head_facts}
use Rattle.checkpoint.proofs.half.good_tag.Goals as goal

compared : (form : Form) (key nonce half : List ℕ) (CIPH : List ℕ → List ℕ) (b m n : ℕ) (stored right : List ℕ) (r : Bool) → CIPH ≡ aes key
    → b ≡ head_length form → m ≡ open_length form half → n ≡ secret_length form half
    → right ≡ AE_tag CIPH nonce (part half 0 (b + m)) (part half (b + m) (b + m + n - (b + m)))
    → stored ≡ part half (b + m + n) tag_length → r ≡ same stored right → r ≡ good_tag form key nonce half
unfolding good_tag stored_associated stored_cipher stored_tag tag
compared form key nonce half CIPH b m n stored right r e w x y f g h =
    let k : b + m + n - (b + m) ≡ n = omega arith in
    h ∙ (λ i. same (g i) (f i))
    ∙ ap (λ (l : ℕ). same (part half (b + m + n) tag_length) (AE_tag CIPH nonce (part half 0 (b + m)) (part half (b + m) l))) k
    ∙ (λ i. same (part half (w i + x i + y i) tag_length) (AE_tag (e i) nonce (part half 0 (w i + x i)) (part half (w i + x i) (y i))))

pub overflow_add-i : goal.overflow_add-i
overflow_add-i c =
    let h = c.args.head.now in
    let f = head_facts part_limit (form_of h.half.now) h.half.now h.says.good in
    omega (arith, f.open_small, head_small (form_of h.half.now), h.says.start_is, h.says.open_is)

pub overflow_add-j : goal.overflow_add-j
overflow_add-j c =
    let h = c.args.head.now in
    let f = head_facts part_limit (form_of h.half.now) h.half.now h.says.good in
    omega (arith, f.open_small, head_small (form_of h.half.now), f.secret_small, h.says.start_is, h.says.open_is, h.says.secret_is)

pub tag_at-right-requires : goal.tag_at-right-requires
tag_at-right-requires c =
    let h = c.args.head.now in
    let p = h.says in
    let f = head_facts part_limit (form_of h.half.now) h.half.now p.good in
    (c.requires, omega arith, omega (arith, f.open_small, head_small (form_of h.half.now), f.secret_small, p.start_is, p.open_is, p.secret_is), omega (arith, f.fits, p.start_is, p.open_is, p.secret_is))

pub part-requires : goal.part-requires
part-requires c =
    let h = c.args.head.now in
    let p = h.says in
    omega (arith, (head_facts part_limit (form_of h.half.now) h.half.now p.good).fits, p.start_is, p.open_is, p.secret_is)

pub returns : goal.returns
returns c key e =
    let h = c.args.head.now in
    compared (form_of h.half.now) key c.args.nonce.now h.half.now _ h.start h.open_part h.secret _ _ _ e h.says.start_is h.says.open_is h.says.secret_is c.tag_at-right.ensures c.part.ensures.0 c.same.ensures
