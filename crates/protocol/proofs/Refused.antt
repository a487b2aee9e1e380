-- A refused call changes nothing.
use Prim.Native.Nat.{ℕ}
use mathlib.Core.Path.{◌≡◌, refl, sym, ◌∙◌}
use mathlib.Core.Bool.{Bool, true, false, cond}
use mathlib.Core.Option.{Option, none, some}
use mathlib.Core.List.{List}
use lib.Dec.{T}
use Rattle.ring.specs.Ring.{page_before, page_erased}
use Rattle.checkpoint.specs.Checkpoint.{Checkpoint}
use Rattle.protocol.specs.Types.{Origin, Save, PowerUp, Job, Phase, EraseFirst, Words, Record, EraseAfter, Done}
use Rattle.protocol.specs.Calls.{Advances, Setup, Event, saved, powered_up, advanced_by, PowerLoss, updated_to, lost_in_store}
use Rattle.protocol.specs.Operations.{Moved, advance_stop, going_on, finished, ended, recorded, erase_follows, after_record, store, advance_by, advance, begin, save, power_up}
use Rattle.protocol.specs.Journal.{entered, Journal}
use Rattle.protocol.specs.History.{State, begun, moved, left_by, step, is_stop, is_stopped, refused}
use Rattle.protocol.proofs.Facts.{no_fact}

start_refused : (s : State) (o : Option ℕ) (key : List ℕ) (c : Checkpoint) (job : Job) (staging state secret nonce : List ℕ) (j : Journal)
    → T (is_stop (begin o key c job staging state secret).answer)
    → begun s (begin o key c job staging state secret).answer (begin o key c job staging state secret) nonce (cond (is_stop (begin o key c job staging state secret).answer) s.journal j) ≡ s
unfolding begin begun is_stop
start_refused s (some x) key c job staging state secret nonce j t = refl
start_refused s none key c job staging state secret nonce j t = absurd t

pub T→true : (b : Bool) → T b → b ≡ true
T→true true t = refl
T→true false t = absurd t

finished_answers : (o : Origin) → is_stopped (finished o) ≡ false
unfolding finished is_stopped
finished_answers Save = refl
finished_answers PowerUp = refl

ended_answers : (j : Job) (ring fram : List ℕ) → is_stopped (ended j ring fram).progress ≡ false
unfolding ended
ended_answers j ring fram = finished_answers j.origin

picked_answers : (b : Bool) (m n : Moved) → is_stopped m.progress ≡ false → is_stopped n.progress ≡ false → is_stopped (cond b m n).progress ≡ false
picked_answers true m n p q = p
picked_answers false m n p q = q

pub store_answers : (p : Phase) (ring fram : List ℕ) (a : Advances) → is_stopped (store p ring fram a).progress ≡ false
unfolding store is_stopped going_on after_record
store_answers (EraseFirst p) ring fram a = refl
store_answers (Words w) ring fram a = refl
store_answers Record ring fram a =
    let new = recorded ring a.sizes.slots a.job in
    picked_answers (erase_follows new a.sizes a.job) (going_on a.job (EraseAfter (page_before a.sizes.pages a.job.page)) new fram) (ended a.job new fram) refl
    (ended_answers a.job new fram)
store_answers (EraseAfter p) ring fram a = ended_answers a.job (page_erased ring a.sizes.slots p) fram
store_answers Done ring fram a = ended_answers a.job ring fram

pub advance_refused : (s : State) (o : Option ℕ) (a : Advances) (j : Journal) → T (is_stopped (advance_by o s.ring s.fram a).progress)
    → moved s (advance_by o s.ring s.fram a).progress (advance_by o s.ring s.fram a) a.staging (cond (is_stopped (advance_by o s.ring s.fram a).progress) s.journal j) ≡ s
unfolding advance_by moved is_stopped
advance_refused s (some x) a j t = refl
advance_refused s none a j t = no_fact (sym (T→true _ t) ∙ store_answers a.job.phase s.ring s.fram a)

pub step_refused : (u : Setup) (s : State) (e : Event) → T (refused s e) → step u s e ≡ s
unfolding step left_by entered refused save power_up advance
step_refused u s (saved a) t = start_refused s _ _ _ _ _ _ _ _ _ t
step_refused u s (powered_up a) t = start_refused s _ _ _ _ _ _ _ _ _ t
step_refused u s (advanced_by a) t = advance_refused s (advance_stop s.firmware s.ring s.fram a) a _ t
step_refused u s PowerLoss t = absurd t
step_refused u s (updated_to firmware) t = absurd t
step_refused u s (lost_in_store left) t = absurd t
