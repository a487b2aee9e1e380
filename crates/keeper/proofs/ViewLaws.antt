-- The view is one to one: two answers that stand for one value of the protocol are equal. Assumes nothing.
use Rattle.std.proofs.Common.{◌≡◌, ℕ, List, Result, Ok, Err, ap}
use Rattle.stops.specs.declared.Stop.{Stop}
use Rattle.stops.proofs.Laws.{stop_number_injective}
use Rattle.protocol.specs.Operations as operations
use Rattle.jobs.proofs.ViewLaws.{job_one}
use Rattle.keeper.specs.View.{view_powered_up}
use Rattle.keeper.specs.declared.types.PoweredUp.{PoweredUp}

pub powered_up_one : (x y : Result PoweredUp Stop) (staging state staging' state' : List ℕ) → view_powered_up x staging state ≡ view_powered_up y staging' state'
    → (x ≡ y) × (staging ≡ staging') × (state ≡ state')
powered_up_one (Ok x) (Ok y) staging state staging' state' e =
    let j = job_one x.job y.job (ap (λ (b : operations.Begin). b.job) e) in
    ((λ i. Ok (record { job = j i; length = (e i).secret_length })), (λ i. (e i).staging), (λ i. (e i).state))
powered_up_one (Ok x) (Err t) staging state staging' state' e = let f = ap (λ (b : operations.Begin). b.answer) e in cc
powered_up_one (Err s) (Ok y) staging state staging' state' e = let f = ap (λ (b : operations.Begin). b.answer) e in cc
powered_up_one (Err s) (Err t) staging state staging' state' e =
    let f = ap (λ (b : operations.Begin). b.answer) e in
    (ap Err (stop_number_injective s t (cc)), (λ i. (e i).staging), (λ i. (e i).state))
