-- `aes_key::put_word` meets its contract. Assumes nothing.
use Rattle.std.proofs.Common.{◌*◌, take, append_assoc, sym, ◌∙◌, arith}
use lib.Seq.{sets-eq}
use Rattle.octets.specs.Octets.{put}
use Rattle.aes_key.proofs.put_word.Goals as goal

pub returns : goal.returns
unfolding put
returns c = c.copy_at.ensures ∙ sym (append_assoc (take (4 * c.args.i) c.args.w.now) c.args.u _) ∙ sym (sets-eq c.args.u c.args.w.now (4 * c.args.i) (omega arith))
