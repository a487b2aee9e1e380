-- `saves::saving::check_next` meets its contract. Assumes nothing.
use mathlib.Core.Path.{◌≡◌}
use mathlib.Core.Bool.{Bool, ◌||◌}
use mathlib.Core.Option.{Option}
use mathlib.Core.List.{List, [], ◌∷◌}
use Prim.Native.Nat.{ℕ}
use Rattle.stops.specs.Stops.{first_of, then_stop}
use Rattle.stops.proofs.Laws.{one_more}
use Rattle.ring.specs.Ring.{Newest, is_pending, nonce_used, not_newest}
use Rattle.memories.specs.Stages.{of_newest}
use Rattle.checkpoint.specs.Checkpoint.{Longer}
use Rattle.protocol.specs.Types.{Session}
use Rattle.protocol.specs.Operations.{stale, session_wrong}
use Rattle.jobs.specs.View.{view_session}
use Rattle.saves.specs.Stages.{next_lines}
use Rattle.saves.proofs.saving.check_next.Goals as goal

three : (ring : List ℕ) (slots : ℕ) (n : Newest) (s : Session) (nonce : List ℕ) (t w p x : Bool) (o₂ o₃ o₄ o₅ : Option ℕ)
    → o₂ ≡ first_of (of_newest n) → t ≡ not_newest ring slots n s.page s.slot s.latest → w ≡ session_wrong Longer s → p ≡ is_pending n → x ≡ nonce_used ring slots n nonce
    → o₃ ≡ then_stop o₂ 8 (t || w) → o₄ ≡ then_stop o₃ 9 p → o₅ ≡ then_stop o₄ 10 x
    → o₅ ≡ first_of (next_lines ring slots n s nonce)
unfolding stale
three ring slots n s nonce t w p x o₂ o₃ o₄ o₅ e et ew ep ex h k l =
    one_more (_ ∷ _ ∷ _ ∷ _ ∷ []) 10 _ x o₄ o₅ (one_more (_ ∷ _ ∷ _ ∷ []) 9 _ p o₃ o₄ (one_more (_ ∷ _ ∷ []) 8 _ (t || w) o₂ o₃ e (λ i. et i || ew i) h) ep k) ex l

pub returns : goal.returns
returns c =
    let r = c.args.reading.now in
    three r.ring.bytes.now r.ring.slots _ (view_session c.args.session) c.args.nonce.now _ _ _ _ _ _ _ _ c.check_newest.ensures
    c.not_newest-older.ensures c.session_wrong.ensures c.is_pending.ensures c.nonce_used-used.ensures
    c.stop_if.ensures c.stop_if-2.ensures c.stop_if-3.ensures
