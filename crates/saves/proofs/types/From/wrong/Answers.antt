-- `saves::types::From::wrong` meets its contract. Assumes nothing.
use Rattle.std.proofs.Common.{◌≡◌, false, List, ℕ, length, rules, refl, sym, ap}
use Rattle.octets.specs.Limits.{tag_length}
use Rattle.protocol.specs.Types as types
use Rattle.protocol.specs.Operations.{from_wrong}
use Rattle.jobs.specs.View.{view_session}
use Rattle.saves.specs.View.{view_given}
use Rattle.saves.specs.declared.types.Given.{Given}
use Rattle.saves.specs.declared.types.Given.TheVariants.{StartingTag, Session, WrongTag}
use Rattle.saves.proofs.ViewLaws.{given_is}
use Rattle.saves.proofs.Laws.{tag_right}
use Rattle.saves.proofs.types.From.wrong.Goals as goal

others_right : (g : Given) (tag : List ℕ) (session : types.Session) → (g ≡ WrongTag → ⊥) → length tag ≡ tag_length → from_wrong (view_given g tag session) ≡ false
unfolding from_wrong
others_right StartingTag tag session n long = tag_right tag long
others_right Session tag session n long = refl
others_right WrongTag tag session n long = absurd (n refl)

pub returns-in_default : goal.returns-in_default
returns-in_default c =
    let f = c.args.self in
    let long : length f.tag ≡ tag_length = search (rules, c.well_formed) in
    sym (others_right f.given f.tag (view_session f.session) c.in_default.not-WrongTag long)

pub returns-in-WrongTag : goal.returns-in-WrongTag
unfolding from_wrong
returns-in-WrongTag c = sym (ap from_wrong (given_is c.args.self c.in-WrongTag.is))
