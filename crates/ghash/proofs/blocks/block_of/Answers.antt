-- `ghash::blocks::block_of` meets its contract. Assumes nothing.
use Rattle.std.proofs.Common.{◌^◌, ◌∷◌, [], refl, ◌∙◌}
use Rattle.std.proofs.lemmas.Nat.{div-add-mod'}
use Rattle.octets.specs.Octets.{number}
use Rattle.ghash.specs.Steps.{words}
use Rattle.ghash.proofs.Words.{number_is}
use Rattle.ghash.proofs.blocks.block_of.Goals as goal

pub returns : goal.returns
unfolding words number
returns c =
    div-add-mod' c.from_be_bytes-n.result (2 ^ 64) ∙ c.from_be_bytes-n.ensures
    ∙ number_is (c.byte_at.result ∷ c.byte_at-2.result ∷ c.byte_at-3.result ∷ c.byte_at-4.result ∷ c.byte_at-5.result ∷ c.byte_at-6.result ∷ c.byte_at-7.result ∷ c.byte_at-8.result ∷ c.byte_at-9.result ∷ c.byte_at-10.result ∷ c.byte_at-11.result ∷ c.byte_at-12.result ∷ c.byte_at-13.result ∷ c.byte_at-14.result ∷ c.byte_at-15.result ∷ c.byte_at-16.result ∷ [])
    ∙ rw (c.byte_at.ensures, c.byte_at-2.ensures, c.byte_at-3.ensures, c.byte_at-4.ensures, c.byte_at-5.ensures, c.byte_at-6.ensures, c.byte_at-7.ensures, c.byte_at-8.ensures, c.byte_at-9.ensures, c.byte_at-10.ensures, c.byte_at-11.ensures, c.byte_at-12.ensures, c.byte_at-13.ensures, c.byte_at-14.ensures, c.byte_at-15.ensures, c.byte_at-16.ensures) refl
