-- `checkpoint::half::open_secret` meets its contract. Assumes nothing.
use Rattle.std.proofs.Common.{◌≡◌, ℕ, ◌+◌, List, ap, ◌∙◌, arith}
use Rattle.octets.specs.Limits.{part_limit}
use Rattle.octets.specs.Octets.{part, put}
use Rattle.aes.specs.Cipher.{aes}
use Rattle.gcm.specs.Gcm.{AE_text, encrypted}
use Rattle.checkpoint.specs.Checkpoint.{Form, head_length}
use Rattle.checkpoint.specs.Half.{form_of, open_length, secret_length, stored_cipher, stored}
use Rattle.checkpoint.proofs.SealedLaws.{head_small}
use Rattle.checkpoint.proofs.StoredLaws.{head_facts}
use Rattle.checkpoint.proofs.half.open_secret.Goals as goal

decrypted : (form : Form) (key nonce half : List ℕ) (CIPH : List ℕ → List ℕ) (b m n : ℕ) (text state out : List ℕ) → CIPH ≡ aes key → b ≡ head_length form
    → m ≡ open_length form half → n ≡ secret_length form half → text ≡ part half (b + m) n → out ≡ put state 0 (AE_text CIPH nonce text)
    → out ≡ put state 0 (stored form key nonce half).secret
unfolding stored stored_cipher encrypted
decrypted form key nonce half CIPH b m n text state out e w x y f g =
    g ∙ ap (λ (t : List ℕ). put state 0 (AE_text CIPH nonce t)) f ∙ (λ i. put state 0 (AE_text (e i) nonce (part half (w i + x i) (y i))))

pub overflow_add-head : goal.overflow_add-head
overflow_add-head c =
    let h = c.args.head.now in
    omega (arith, (head_facts part_limit (form_of h.half.now) h.half.now h.says.good).open_small, head_small (form_of h.half.now), h.says.start_is, h.says.open_is)

pub part-sealed-requires : goal.part-sealed-requires
part-sealed-requires c =
    let h = c.args.head.now in
    omega (arith, (head_facts part_limit (form_of h.half.now) h.half.now h.says.good).fits, h.says.start_is, h.says.open_is, h.says.secret_is)

pub returns : goal.returns
returns c key e =
    let h = c.args.head.now in
    decrypted (form_of h.half.now) key c.args.nonce.now h.half.now _ h.start h.open_part h.secret _ c.args.state.now _ e h.says.start_is h.says.open_is h.says.secret_is c.part-sealed.ensures.0 c.encrypt.ensures
