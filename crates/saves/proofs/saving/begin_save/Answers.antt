-- `saves::saving::begin_save` meets its contract. Assumes nothing.
use mathlib.Core.Path.{sym}
use mathlib.Core.List.{[]}
use Rattle.octets.specs.Octets.{put}
use Rattle.checkpoint.specs.View.{view_unsealed}
use Rattle.checkpoint.proofs.SealedLaws.{length_sealed}
use Rattle.protocol.specs.Types.{Words, Save, Begun}
use Rattle.protocol.specs.Operations.{begin, job_of}
use Rattle.saves.proofs.saving.begin_save.Goals as goal

pub returns : goal.returns
unfolding begin job_of put
returns c =
    let a = c.args in
    let sealed = c.seal_under-tag.ensures in
    let long = sym (length_sealed a.key.now (view_unsealed a.unsealed.now) c.requires.1.3) in
    λ i. record {
      answer = Begun;
      job = record {
        phase = Words 0;
        origin = Save;
        half = a.target.half;
        length = long i;
        page = a.target.page;
        slot = a.target.slot;
        nonce = c.array.ensures i;
        tag = sealed.0 i;
        restarts = a.unsealed.now.restarts;
        packet = a.unsealed.now.packet;
      };
      secret_length = 0;
      staging = sealed.1 i;
      state = [];
    }
