-- The view of the code's answer is one to one: two answers with one meaning are equal. Assumes nothing.
use mathlib.Core.Path.{◌≡◌, refl, sym, ap, ◌∙◌}
use Rattle.ring.specs.Ring as ring
use Rattle.ring.specs.View.{newest}
use Rattle.ring.specs.declared.Newest.{Newest}
use Rattle.ring.specs.declared.Newest.TheVariants.{Blank, Unreadable, At, AtPending}

answer : ring.Newest → Newest
answer ring.Blank = Blank
answer ring.Unreadable = Unreadable
answer (ring.At p s) = At p s
answer (ring.AtPending p q) = AtPending p q

back : (n : Newest) → answer (newest n) ≡ n
unfolding answer
back Blank = refl
back Unreadable = refl
back (At p s) = refl
back (AtPending p q) = refl

pub newest_injective : (m n : Newest) → newest m ≡ newest n → m ≡ n
newest_injective m n e = sym (back m) ∙ ap answer e ∙ back n
