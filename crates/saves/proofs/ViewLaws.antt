-- What the struct stands for by which of the two it was given; and that the view, with the struct's array and session, is one to one. Assumes nothing.
use Prim.Native.Nat.{ℕ}
use mathlib.Core.Path.{◌≡◌, refl, ap}
use mathlib.Core.List.{List, []}
use native.Mathlib.Omega.{arith}
use lib.ListN.{length}
use Rattle.octets.specs.Limits.{tag_length}
use Rattle.protocol.specs.Types as types
use Rattle.jobs.specs.View.{view_session}
use Rattle.jobs.proofs.ViewLaws.{session_one}
use Rattle.saves.specs.View.{view_given, view_from}
use Rattle.saves.specs.declared.types.Given.{Given}
use Rattle.saves.specs.declared.types.Given.TheVariants.{StartingTag, Session, WrongTag}
use Rattle.saves.specs.declared.types.From.{From}

pub given_is : (f : From) {g : Given} → f.given ≡ g → view_from f ≡ view_given g f.tag (view_session f.session)
given_is f e = ap (λ (g : Given). view_given g f.tag (view_session f.session)) e

-- the struct's array has 16 bytes
given_one : (x y : Given) (t t' : List ℕ) (s s' : types.Session) → length t ≡ tag_length → length t' ≡ tag_length → view_given x t s ≡ view_given y t' s' → x ≡ y
given_one StartingTag StartingTag t t' s s' l l' e = refl
given_one StartingTag Session t t' s s' l l' e = cc
given_one StartingTag WrongTag t t' s s' l l' e = absurd (let f : t ≡ [] = cc in let g = ap length f in omega arith)
given_one Session StartingTag t t' s s' l l' e = cc
given_one Session Session t t' s s' l l' e = refl
given_one Session WrongTag t t' s s' l l' e = cc
given_one WrongTag StartingTag t t' s s' l l' e = absurd (let f : [] ≡ t' = cc in let g = ap length f in omega arith)
given_one WrongTag Session t t' s s' l l' e = cc
given_one WrongTag WrongTag t t' s s' l l' e = refl

pub from_one : (x y : From) → length x.tag ≡ tag_length → length y.tag ≡ tag_length
    → view_from x ≡ view_from y → x.tag ≡ y.tag → view_session x.session ≡ view_session y.session → x ≡ y
from_one x y l l' e t s =
    let g = given_one x.given y.given x.tag y.tag (view_session x.session) (view_session y.session) l l' e in
    let z = session_one x.session y.session s in
    λ i. record { given = g i; tag = t i; session = z i }
