-- `gcm::tag::tag_of` meets its contract. Assumes nothing.
use Rattle.std.proofs.Common.{◌≡◌, ℕ, List, ◌++◌, length, refl, ap, ◌∙◌, append-nil, arith, drop_of_length-le}
use Rattle.octets.specs.Octets.{put, bytes}
use Rattle.octets.proofs.Laws.{put_front}
use Rattle.ghash.specs.Ghash.{GHASH}
use Rattle.ghash.specs.Input.{hash_input}
use Rattle.gcm.specs.Gcm.{hash_subkey, GCTR, AE_tag}
use Rattle.gcm.proofs.Blocks.{J0_count}
use Rattle.gcm.proofs.Laws.{length_AE_tag}
use Rattle.gcm.proofs.tag.tag_of.Goals as goal

tag_made : (CIPH : List ℕ → List ℕ) (IV A C zeros b s t : List ℕ) (x : ℕ) → length IV ≡ 12 → length zeros ≡ 16
    → x ≡ GHASH (hash_subkey CIPH) (hash_input A C) → s ≡ bytes 16 x → b ≡ IV ++ bytes 4 1 → t ≡ put zeros 0 (GCTR CIPH b s) → t ≡ AE_tag CIPH IV A C
unfolding AE_tag
tag_made CIPH IV A C zeros b s t x twelve long hx hs hb ht =
    let T : List ℕ = AE_tag CIPH IV A C in
    let right : GCTR CIPH b s ≡ T = cc (J0_count IV twelve) in
    let sixteen : length T ≡ 16 = length_AE_tag CIPH IV A C in
    ht ∙ ap (put zeros 0) right ∙ put_front zeros T ∙ ap (λ (l : List ℕ). T ++ l) (drop_of_length-le zeros {i = length T} (omega arith)) ∙ append-nil T

pub returns : goal.returns
returns c =
    tag_made _ c.args.nonce.now _ _ _ _ _ _ _ c.requires.0 refl (c.ghash.ensures _ c.args.prepared.now.steps_right) c.block_bytes-s.ensures c.counter_block.ensures c.gctr.ensures
