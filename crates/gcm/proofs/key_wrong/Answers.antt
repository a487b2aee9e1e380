-- `gcm::key_wrong` meets its contract. Assumes nothing.
use Rattle.std.proofs.Common.{Bool, not, ◌&&◌, eqb, sym, ap}
use Rattle.octets.specs.Limits.{short_key, long_key}
use Rattle.gcm.specs.Calls.{key_wrong}
use Rattle.gcm.proofs.Keys.{and_nothing}
use Rattle.gcm.proofs.key_wrong.Goals as goal

pub returns : goal.returns
unfolding key_wrong
returns c = ap (λ (b : Bool). not (eqb c.args.n short_key) && b) (sym (and_nothing (not (eqb c.args.n long_key))))
