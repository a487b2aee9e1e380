-- An operation and a word, piece by piece as the code does them. Assumes nothing.
use Rattle.std.proofs.Common.{◌≡◌, ℕ, suc, ◌+◌, ◌-◌, ◌≤◌, ◌<◌, true, false, List, [], Result, Ok, Err, refl, sym, ap, subst, ◌∙◌, add-zero, arith, length, take, drop, replicate, take-append-drop, take_at}
use Rattle.std.proofs.Math.Option.{Option, none, some}
use Rattle.std.specs.Prelude as code
use Rattle.protocol.specs.Types as types
use Rattle.protocol.specs.Types.{this_firmware}
use Rattle.octets.specs.Octets.{put}
use Rattle.octets.proofs.Laws.{put_front}
use Rattle.octets.specs.Word.{low_value}
use Rattle.stops.specs.declared.Stop.{Stop}
use Rattle.stops.specs.View.{stop_number}
use Rattle.protocol.specs.Operations.{Moved, no_session, advance}
use Rattle.protocol.specs.Recovery.{is_going}
use Rattle.ring_line.specs.declared.Line.{Line}
use Rattle.ring_line.specs.Line.{line_limit, Short}
use Rattle.ring_line.specs.Text.{ring_text}
use Rattle.jobs.specs.View.{view_progress, view_moved, advances}
use Rattle.jobs.specs.declared.types.Job.{Job}
use Rattle.jobs.specs.declared.types.Progress.{Progress}
use Rattle.jobs.specs.declared.types.Progress.TheVariants.{GoingOn, Saved, Restored}
use Rattle.trace_words.specs.Words.{is_cut}
use Rattle.trace.specs.Trace.{bench_pages, bench_slots, bench_staging, start, start_progress, started, stored_on, most_stores, stores_until, Bench, operation, session_from, session_after, operated, cut_set, step, line_after, printed}
use Rattle.trace.specs.View.{view_cut, Starts, Leaves, said, Stepped}
use Rattle.trace.proofs.Stores.{stored_still, stored_more}

-- ---- stores

leaves_as : (r : Result Progress Stop) (j : Job) (ring fram : List ℕ) (m : Moved) → view_moved r j ring fram ≡ m → Leaves r ring fram m
leaves_as r j ring fram m e = record { progress = ap (λ (y : Moved). y.progress) e; session = ap (λ (y : Moved). y.session) e; ring = ap (λ (y : Moved). y.ring) e; fram = ap (λ (y : Moved). y.fram) e }

pub not_going : (p : Progress) → (p ≡ GoingOn → ⊥) → is_going (view_progress (Ok p)) ≡ false
unfolding is_going
not_going GoingOn h = absurd (h refl)
not_going (Saved z) h = refl
not_going (Restored z) h = refl

-- k of n stores are made, with the job j, and all of them come to m
module _ (n k : ℕ) (staging : List ℕ) (j : Job) (ring fram : List ℕ) (m : Moved) (s : stored_on (n - k) staging (view_moved (Ok GoingOn) j ring fram) ≡ m) where
  pub stores_made : n ≤ k → Leaves (Ok GoingOn) ring fram m
  unfolding stored_on
  stores_made h = let e : n - k ≡ 0 = omega arith in leaves_as (Ok GoingOn) j ring fram m (rw e at s)

  -- its advance says r
  module _ (j' : Job) (ring' fram' : List ℕ) (r : Result Progress Stop) (h : k < n)
      (e : view_moved r j' ring' fram' ≡ advance this_firmware ring fram (advances bench_pages bench_slots j staging)) where
    pub store_next : stored_on (n - (k + 1)) staging (view_moved r j' ring' fram') ≡ m
    unfolding is_going
    store_next =
        let f : n - k ≡ suc (n - (k + 1)) = omega arith in
        ap (stored_on (n - (k + 1)) staging) e ∙ sym (stored_more (n - (k + 1)) staging (view_moved (Ok GoingOn) j ring fram) refl)
        ∙ ap (λ (l : ℕ). stored_on l staging (view_moved (Ok GoingOn) j ring fram)) (sym f) ∙ s

    pub store_last : is_going (view_progress r) ≡ false → Leaves r ring' fram' m
    store_last g = leaves_as r j' ring' fram' m (sym (stored_still (n - (k + 1)) staging (view_moved r j' ring' fram') g) ∙ store_next)

-- ---- an operation

pub until_cut : (cut : code.Option ℕ) → code.unwrap_or cut most_stores ≡ stores_until (view_cut cut)
unfolding stores_until
until_cut code.None = refl
until_cut (code.Some n) = refl

module _ (key : List ℕ) (b : Bench) (w : ℕ) (staging : List ℕ) where
  pub operates : (n : ℕ) (j : Job) (r : Result Progress Stop) (ring' fram' : List ℕ) → Starts (Ok j) staging (start key b.ring b.fram b.session w bench_staging)
      → n ≡ stores_until b.cut → Leaves r ring' fram' (stored_on n staging (view_moved (Ok GoingOn) j b.ring b.fram)) → Leaves r ring' fram' (operation key b w)
  unfolding operation started start_progress
  operates n j r ring' fram' x e l =
      subst (λ (m : Moved). Leaves r ring' fram' m)
      (λ i. stored_on (e i) (x.sealed i) (record {
        progress = (ap start_progress x.answer) i;
        job = x.job i;
        session = no_session;
        ring = b.ring;
        fram = b.fram;
      })) l

  pub refuses : (s : Stop) → Starts (Err s) staging (start key b.ring b.fram b.session w bench_staging) → Leaves (Err s) b.ring b.fram (operation key b w)
  unfolding operation started start_progress is_going
  refuses s x =
      let begun = start key b.ring b.fram b.session w bench_staging in
      let p : types.Refused (stop_number s) ≡ start_progress begun.answer = ap start_progress x.answer in
      let still = stored_still (stores_until b.cut) begun.staging (started b.ring b.fram begun) (ap is_going (sym p)) in
      subst (λ (m : Moved). Leaves (Err s) b.ring b.fram m) (sym still) (record { progress = p; session = refl; ring = refl; fram = refl })

-- the session after it is by the answer alone
session_said : (cut : Option ℕ) (x : Option types.Session) (r : Result Progress Stop) (ring' fram' : List ℕ) (m : Moved) → Leaves r ring' fram' m → session_after cut (said r) x ≡ session_after cut m x
unfolding session_after
session_said none x r ring' fram' m l = λ i. session_from (l.progress i) (l.session i) x
session_said (some n) x r ring' fram' m l = refl

-- the line after it is the ring's, unless it is refused
pub ring_after : (p : Progress) (ring : List ℕ) → ring_text bench_pages bench_slots ring ≡ line_after (view_progress (Ok p)) ring
unfolding line_after
ring_after GoingOn ring = refl
ring_after (Saved z) ring = refl
ring_after (Restored z) ring = refl

-- ---- a word

module _ (key : List ℕ) (b : Bench) (w : ℕ) where
  step_cut : is_cut w ≡ true → step key b w ≡ cut_set b (low_value w)
  unfolding step
  step_cut e = rw e

  step_operation : is_cut w ≡ false → step key b w ≡ operated key b w
  unfolding step
  step_operation e = rw e

  none_printed : is_cut w ≡ true → printed key b w ≡ []
  unfolding printed
  none_printed e = rw e

  line_printed : is_cut w ≡ false → printed key b w ≡ line_after (operation key b w).progress (operation key b w).ring
  unfolding printed
  line_printed e = rw e

pub stepped_cut : (key : List ℕ) (b : Bench) (w n : ℕ) (text : List ℕ) (at : ℕ) → is_cut w ≡ true → n ≡ low_value w
    → Stepped key b w text at (record { ring = b.ring; fram = b.fram; session = b.session; cut = some n }) at text
unfolding cut_set put
stepped_cut key b w n text at c e =
    let p = none_printed key b w c in
    record {
      unit = ap (λ (y : ℕ). record { ring = b.ring; fram = b.fram; session = b.session; cut = some y }) e ∙ sym (step_cut key b w c);
      line_put = sym (ap (put text at) p ∙ rw (add-zero at) (take-append-drop at text));
      ends = omega (arith, ap length p);
      short = omega (arith, ap length p);
    }

-- the text of a line
pub taken : {l : Line} {t : List ℕ} {n : ℕ} → Short t l n → (take l.length l.bytes ≡ t) × (l.length ≡ length t)
taken {l} {t} s =
    let e = s.holds in
    (ap (λ (y : Line). take y.length y.bytes) e ∙ ap (take (length t)) (put_front (replicate line_limit 0) t) ∙ take_at t (drop (length t) (replicate line_limit 0)) (length t) refl, ap (λ (y : Line). y.length) e)

pub stepped : (key : List ℕ) (b : Bench) (w : ℕ) (ring' fram' text text' : List ℕ) (at end : ℕ) (r : Result Progress Stop) (held : Option types.Session) (l : Line) → is_cut w ≡ false
    → Leaves r ring' fram' (operation key b w) → Short (line_after (view_progress r) ring') l line_limit
    → (text' ≡ put text at (take l.length l.bytes)) × (end ≡ at + l.length)
    → held ≡ session_after b.cut (said r) b.session
    → Stepped key b w text at (record { ring = ring'; fram = fram'; session = held; cut = none }) end text'
unfolding operated
stepped key b w ring' fram' text text' at end r held l c o s t f =
    let p : line_after (view_progress r) ring' ≡ printed key b w = (λ i. line_after (o.progress i) (o.ring i)) ∙ sym (line_printed key b w c) in
    let q = taken s in
    record {
      unit = (λ i. record { ring = o.ring i; fram = o.fram i; session = (f ∙ session_said b.cut b.session r ring' fram' (operation key b w) o) i; cut = none }) ∙ sym (step_operation key b w c);
      line_put = t.0 ∙ ap (put text at) (q.0 ∙ p);
      ends = t.1 ∙ ap (λ (n : ℕ). at + n) (q.1 ∙ ap length p);
      short = omega (arith, s.short, q.1, ap length p);
    }
