-- Results that document 01 leaves free, and what holds of them: no advance goes on with the job beside a stop of a start,
-- and no save begins with the session beside 'going on' or a refusal. Assumes nothing.
use Prim.Native.Nat.{ℕ, ◌≤◌}
use mathlib.Core.Path.{◌≡◌, refl, sym, ap, ◌∙◌}
use mathlib.Core.Bool.{Bool, true, false, ◌||◌}
use mathlib.Core.Logic.{◌⊎◌, inl, inr}
use mathlib.Core.Option.{some}
use mathlib.Core.List.{List, [], ◌∷◌}
use lib.Dec.{lit≤}
use Rattle.octets.specs.Octets.{number}
use Rattle.octets.specs.Word.{word_at, kind_of, value_of}
use Rattle.stops.specs.Stops.{first_of}
use Rattle.ring.specs.Ring.{ring_wrong, read_ring, is_record, is_blank, is_unreadable}
use Rattle.ring.proofs.NewestLaws.{newest_is_record}
use Rattle.ring.proofs.StoreLaws.{newest_latest}
use Rattle.checkpoint.specs.Checkpoint.{Form, Older, Longer}
use Rattle.protocol.specs.Types.{Firmware, Job, Session, Refused, Stopped}
use Rattle.protocol.specs.Calls.{Sizes, from_session, SaveArguments, Saves, saves, Advances}
use Rattle.protocol.specs.Operations.{stale, begin, no_job, ring_lines, save_stop, save, no_session, job_wrong, advance_stop, advance_by, advance}
use Rattle.protocol.proofs.Facts.{no_fact}

-- ---- no job

pub no_job_wrong : (form : Form) (z : Sizes) (ring fram : List ℕ) → job_wrong form no_job z ring fram ≡ true
unfolding job_wrong no_job
no_job_wrong Older z ring fram = refl
no_job_wrong Longer z ring fram = refl

four_stop : (a b c d : Bool) → d ≡ true → (x : ℕ) × (first_of ((1, a) ∷ (2, b) ∷ (4, c) ∷ (14, d) ∷ []) ≡ some x) × (x ≤ 14)
unfolding first_of
four_stop true b c d e = (1, refl, lit≤ tt)
four_stop false true c d e = (2, refl, lit≤ tt)
four_stop false false true d e = (4, refl, lit≤ tt)
four_stop false false false d e = (14, rw e, lit≤ tt)

advance_stops : (firmware : Firmware) (ring fram : List ℕ) (a : Advances) (x : ℕ) → advance_stop firmware ring fram a ≡ some x → (advance firmware ring fram a).progress ≡ Refused x
unfolding advance advance_by
advance_stops firmware ring fram a x e = rw e

-- an advance of it always stops, by 14 at the latest
pub no_job_stops : (firmware : Firmware) (ring fram : List ℕ) (a : Advances) → a.job ≡ no_job → (x : ℕ) × ((advance firmware ring fram a).progress ≡ Refused x) × (x ≤ 14)
unfolding advance_stop
no_job_stops firmware ring fram a e =
    let w : job_wrong firmware.form a.job a.sizes ring fram ≡ true = ap (λ (j : Job). job_wrong firmware.form j a.sizes ring fram) e ∙ no_job_wrong firmware.form a.sizes ring fram in
    let s = four_stop _ _ _ _ w in
    (s.0, advance_stops firmware ring fram a s.0 s.1, s.2)

-- ---- no session

-- sixteen zeros are no record
no_record : is_record no_session.latest ≡ false
unfolding no_session is_record word_at number kind_of value_of
no_record = refl

module _ (ring : List ℕ) (z : Sizes) where
  pub no_session_stale : ring_wrong z.pages z.slots ring ≡ false → is_blank (read_ring ring z.pages z.slots) ≡ false
      → is_unreadable (read_ring ring z.pages z.slots) ≡ false → stale ring z.slots (read_ring ring z.pages z.slots) no_session ≡ true
  unfolding stale
  no_session_stale r b u = go (stale ring z.slots (read_ring ring z.pages z.slots) no_session) refl
    where
      go : (t : Bool) → stale ring z.slots (read_ring ring z.pages z.slots) no_session ≡ t → t ≡ true
      go true e = refl
      go false e = no_fact (sym (newest_is_record z.pages z.slots ring r b u) ∙ sym (ap is_record (newest_latest _ _ _ _ _ _ e)) ∙ no_record)

-- stop x is one of those up to 8 in the order of a save's, among which 18 stands behind 4
abbrev pub By8 : ℕ → Type 0
By8 x = (x ≤ 8) ⊎ (x ≡ 18)

eight_stop : (a b c d p e f g g' : Bool) (more : List (ℕ × Bool)) → (a ≡ false → e ≡ false → f ≡ false → g ≡ true)
    → (x : ℕ) × (first_of ((1, a) ∷ (2, b) ∷ (3, c) ∷ (4, d) ∷ (18, p) ∷ (6, e) ∷ (7, f) ∷ (8, g || g') ∷ more) ≡ some x) × By8 x
unfolding first_of
eight_stop true b c d p e f g g' more w = (1, refl, inl (lit≤ tt))
eight_stop false true c d p e f g g' more w = (2, refl, inl (lit≤ tt))
eight_stop false false true d p e f g g' more w = (3, refl, inl (lit≤ tt))
eight_stop false false false true p e f g g' more w = (4, refl, inl (lit≤ tt))
eight_stop false false false false true e f g g' more w = (18, refl, inr refl)
eight_stop false false false false false true f g g' more w = (6, refl, inl (lit≤ tt))
eight_stop false false false false false false true g g' more w = (7, refl, inl (lit≤ tt))
eight_stop false false false false false false false g g' more w = (8, rw (w refl refl refl), inl (lit≤ tt))

save_stops : (firmware : Firmware) (ring fram : List ℕ) (a : Saves) (x : ℕ) → save_stop firmware ring fram a ≡ some x → (save firmware ring fram a).answer ≡ Stopped x
unfolding save begin
save_stops firmware ring fram a x e = rw e

-- a save with it always stops, by 8 at the latest
pub no_session_stops : (firmware : Firmware) (ring fram : List ℕ) (a : SaveArguments) (z : Session) → z ≡ no_session
    → (x : ℕ) × ((save firmware ring fram (saves a (from_session z))).answer ≡ Stopped x) × By8 x
unfolding save_stop ring_lines
no_session_stops firmware ring fram a session e =
    let z : Sizes = a.sizes in
    let s = eight_stop _ _ _ _ _ _ _ _ _ _ (λ r b u.
    ap (λ (y : Session). stale ring z.slots (read_ring ring z.pages z.slots) y) e ∙ no_session_stale ring z r b u) in
    (s.0, save_stops firmware ring fram (saves a (from_session session)) s.0 s.1, s.2)
