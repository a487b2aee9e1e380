-- `ring::pages::Ring::page` meets its contract: a page of the ring ends in it. Assumes nothing.
use Rattle.ring.proofs.SizeLaws.{sized, page_ends}
use Rattle.ring.proofs.pages.Ring.page.Goals as goal

pub page_at-requires : goal.page_at-requires
page_at-requires c = page_ends (sized _ _ _ c.args.self.now.right) c.args.page c.requires
