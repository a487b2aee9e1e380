-- Each view is one to one: two values that stand for one value of the protocol are equal. Assumes nothing.
use Rattle.std.proofs.Common.{◌≡◌, ℕ, Result, Ok, Err, ap}
use Rattle.stops.specs.declared.Stop.{Stop}
use Rattle.stops.proofs.Laws.{stop_number_injective}
use Rattle.protocol.specs.Types as types
use Rattle.look.specs.View.{view_looked, view_seen, view_stretch}
use Rattle.look.specs.declared.types.Seen.{Seen}

restarts_one : (m n : ℕ) → types.Restarts m ≡ types.Restarts n → m ≡ n
restarts_one m n e = cc

pub looked_one : (x y : Result ℕ Stop) → view_looked x ≡ view_looked y → x ≡ y
looked_one (Ok m) (Ok n) e = ap Ok (restarts_one m n e)
looked_one (Ok m) (Err t) e = cc
looked_one (Err s) (Ok n) e = cc
looked_one (Err s) (Err t) e = ap Err (stop_number_injective s t (cc))

pub seen_one : (x y : Result Seen Stop) → view_seen x ≡ view_seen y → view_stretch x ≡ view_stretch y → x ≡ y
seen_one (Ok x) (Ok y) e f = let r = restarts_one x.restarts y.restarts e in λ i. Ok (record { restarts = r i; offset = (f i).offset; length = (f i).length })
seen_one (Ok x) (Err t) e f = cc
seen_one (Err s) (Ok y) e f = cc
seen_one (Err s) (Err t) e f = ap Err (stop_number_injective s t (cc))
