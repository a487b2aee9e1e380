-- `gcm::tag::hash_steps` meets its contract: the subkey is the block of zeros under the cipher. Assumes nothing.
use Rattle.std.proofs.Common.{◌≡◌, ℕ, List, replicate, ap, ◌∙◌, subst}
use Rattle.octets.specs.Octets.{number}
use Rattle.ghash.specs.Steps.{Steps}
use Rattle.gcm.specs.Gcm.{hash_subkey}
use Rattle.gcm.proofs.tag.hash_steps.Goals as goal

steps_made : (CIPH : List ℕ → List ℕ) (h t : List ℕ) (v : ℕ) → h ≡ CIPH (replicate 16 0) → v ≡ number h 0 16 → Steps v t → Steps (hash_subkey CIPH) t
unfolding hash_subkey
steps_made CIPH h t v hh hv s = subst (λ (x : ℕ). Steps x t) (hv ∙ ap (λ (l : List ℕ). number l 0 16) hh) s

pub returns : goal.returns
returns c =
    steps_made _ _ _ _ c.encrypt_block-h.ensures c.block_of.ensures c.steps-t.ensures
