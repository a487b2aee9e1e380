-- Every call answers as document 01's table says, and an advance makes one store.
use Prim.Native.Nat.{ℕ}
use mathlib.Core.Path.{◌≡◌, refl}
use mathlib.Core.Bool.{Bool, true, false, cond}
use mathlib.Core.Option.{Option, none, some}
use mathlib.Core.List.{List}
use lib.Dec.{T}
use Rattle.ring.specs.Ring.{page_before}
use Rattle.ring.proofs.StoreLaws.{erased_is}
use Rattle.checkpoint.specs.Checkpoint.{Checkpoint}
use Rattle.protocol.specs.Types.{Job, Session, Origin, Save, PowerUp, Phase, EraseFirst, Words, Record, EraseAfter, Done}
use Rattle.protocol.specs.Calls.{Sizes, Advances, Event, saved, powered_up, advanced_by, PowerLoss, updated_to, lost_in_store}
use Rattle.protocol.specs.Operations.{no_job, going_on, ended, stored_word, recorded, erase_follows, after_record, store, advance_by, advance, begin, save, power_up, finished, no_session, session_of}
use Rattle.protocol.specs.History.{State, broken_ring, broken_fram, is_stop, bytes_of}
use Rattle.protocol.specs.Recovery.{start_answer, is_going, Exact}
use Rattle.protocol.proofs.Refused.{store_answers}

begin_leaves : (o : Option ℕ) (key : List ℕ) (c : Checkpoint) (job : Job) (staging state secret : List ℕ) → T (is_stop (begin o key c job staging state secret).answer)
    → ((begin o key c job staging state secret).job ≡ no_job) × ((begin o key c job staging state secret).secret_length ≡ 0)
    × ((begin o key c job staging state secret).staging ≡ staging) × ((begin o key c job staging state secret).state ≡ state)
unfolding begin is_stop
begin_leaves none key c job staging state secret t = absurd t
begin_leaves (some x) key c job staging state secret t = (refl, refl, refl, refl)

begin_answers : (o : Option ℕ) (key : List ℕ) (c : Checkpoint) (job : Job) (staging state secret : List ℕ) → (begin o key c job staging state secret).answer ≡ start_answer o
unfolding begin start_answer
begin_answers none key c job staging state secret = refl
begin_answers (some x) key c job staging state secret = refl

recorded_ring : (b : Bool) (j : Job) (p : Phase) (new fram : List ℕ)
    → ((cond b (going_on j p new fram) (ended j new fram)).ring ≡ new) × ((cond b (going_on j p new fram) (ended j new fram)).fram ≡ fram)
unfolding going_on ended
recorded_ring true j p new fram = (refl, refl)
recorded_ring false j p new fram = (refl, refl)

-- the memories that a store leaves
pub store_leaves : (p : Phase) (ring fram : List ℕ) (a : Advances)
    → ((store p ring fram a).ring ≡ broken_ring p ring a.sizes.slots a.job (bytes_of p a.job a.sizes.slots a.staging))
    × ((store p ring fram a).fram ≡ broken_fram p fram a.job (bytes_of p a.job a.sizes.slots a.staging))
unfolding store going_on ended after_record recorded stored_word broken_ring broken_fram bytes_of
store_leaves (EraseFirst p) ring fram a = (erased_is ring a.sizes.slots p, refl)
store_leaves (Words w) ring fram a = (refl, refl)
store_leaves Record ring fram a =
    let new = recorded ring a.sizes.slots a.job in
    recorded_ring (erase_follows new a.sizes a.job) a.job (EraseAfter (page_before a.sizes.pages a.job.page)) new fram
store_leaves (EraseAfter p) ring fram a = (erased_is ring a.sizes.slots p, refl)
store_leaves Done ring fram a = (refl, refl)

ended_session : (o : Origin) (z : Session) → z ≡ cond (is_going (finished o)) no_session z
unfolding finished is_going
ended_session Save z = refl
ended_session PowerUp z = refl

picked_session : (b : Bool) (j : Job) (p : Phase) (ring fram : List ℕ)
    → (cond b (going_on j p ring fram) (ended j ring fram)).session ≡ cond (is_going (cond b (going_on j p ring fram) (ended j ring fram)).progress) no_session (session_of j)
unfolding going_on ended is_going
picked_session true j p ring fram = refl
picked_session false j p ring fram = ended_session j.origin (session_of j)

after_session : (ring fram : List ℕ) (z : Sizes) (j : Job) → (after_record ring fram z j).session ≡ cond (is_going (after_record ring fram z j).progress) no_session (session_of j)
unfolding after_record
after_session ring fram z j =
    let new = recorded ring z.slots j in
    picked_session (erase_follows new z j) j (EraseAfter (page_before z.pages j.page)) new fram

store_session : (p : Phase) (ring fram : List ℕ) (a : Advances) → (store p ring fram a).session ≡ cond (is_going (store p ring fram a).progress) no_session (session_of a.job)
unfolding store going_on ended is_going
store_session (EraseFirst p) ring fram a = refl
store_session (Words w) ring fram a = refl
store_session Record ring fram a = after_session ring fram a.sizes a.job
store_session (EraseAfter p) ring fram a = ended_session a.job.origin (session_of a.job)
store_session Done ring fram a = ended_session a.job.origin (session_of a.job)

pub exact : (s : State) (e : Event) → Exact s e
unfolding Exact save power_up advance advance_by
exact s (saved a) = (begin_answers _ _ _ _ _ _ _, λ t. begin_leaves _ _ _ _ _ _ _ t)
exact s (powered_up a) = (begin_answers _ _ _ _ _ _ _, λ t. begin_leaves _ _ _ _ _ _ _ t)
exact s (advanced_by a) = (
  λ x e. rw e (refl, refl, refl, refl, refl),
  λ e. (
    rw e (store_answers a.job.phase s.ring s.fram a),
    rw e (store_session a.job.phase s.ring s.fram a),
    record {
      ring = rw e (store_leaves a.job.phase s.ring s.fram a).0;
      fram = rw e (store_leaves a.job.phase s.ring s.fram a).1;
    },
  ),
)
exact s PowerLoss = tt
exact s (updated_to firmware) = tt
exact s (lost_in_store left) = tt
