-- `ring::stores::erase_page` meets its contract: the part that was lent comes back filled. Assumes nothing.
use native.Mathlib.Nat.{add-sub_cancel_left}
use lib.ListN.{length-replicate}
use lib.Seq.{drop-drop}
use Rattle.octets.specs.Octets.{part, put}
use Rattle.octets.proofs.Laws.{length_part}
use Rattle.ring.specs.Ring.{page_put, page_erased}
use Rattle.ring.proofs.stores.erase_page.Goals as goal

pub returns : goal.returns
unfolding page_erased page_put put part
returns c =
    rw (c.fill.ensures, add-sub_cancel_left, length_part _ _ _ c.requires, drop-drop, length-replicate)
