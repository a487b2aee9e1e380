-- `gcm::seal_prepared` meets its contract: the tag is that of the text as it was written. Assumes nothing.
use Rattle.std.proofs.Common.{◌≡◌, ℕ, List, length, take, drop, ap, ◌∙◌, take_at}
use Rattle.std.proofs.Math.Option.{none}
use Rattle.octets.specs.Octets.{put}
use Rattle.octets.proofs.Laws.{put_front}
use Rattle.gcm.specs.Gcm.{AE_text, AE_tag, GCM-AE}
use Rattle.gcm.specs.Standard.{sealed_by}
use Rattle.gcm.proofs.Laws.{length_text}
use Rattle.gcm.proofs.seal_prepared.Goals as goal

sealed : (CIPH : List ℕ → List ℕ) (nonce aad text out out' T : List ℕ) → out' ≡ put out 0 (AE_text CIPH nonce text) → T ≡ AE_tag CIPH nonce aad (take (length text) out')
    → record { stop = none; tag = T; out = out' } ≡ sealed_by nonce aad text out CIPH
unfolding GCM-AE
sealed CIPH nonce aad text out out' T h k =
    let C : List ℕ = AE_text CIPH nonce text in
    let front : take (length text) out' ≡ C = ap (take (length text)) (h ∙ put_front out C) ∙ take_at C (drop (length C) out) (length text) (length_text CIPH nonce text) in
    λ i. record { stop = none; tag = (k ∙ ap (AE_tag CIPH nonce aad) front) i; out = h i }

pub returns : goal.returns
returns c = sealed _ c.args.nonce.now c.args.aad.now c.args.text.now c.args.out.now _ _ c.encrypt.ensures c.tag_of.ensures
