-- What the code's answer means: the reading of a ring that it stands for.
use Rattle.ring.specs.Ring as ring
use Rattle.ring.specs.declared.Newest.{Newest}
use Rattle.ring.specs.declared.Newest.TheVariants.{Blank, Unreadable, At, AtPending}

abbrev pub newest : Newest → ring.Newest
newest Blank = ring.Blank
newest Unreadable = ring.Unreadable
newest (At p s) = ring.At p s
newest (AtPending p q) = ring.AtPending p q
