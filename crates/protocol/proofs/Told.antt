-- An advance of the job handed out last stops where no store is to come, and says 'saved' or 'restored' with the last one and not before.
use mathlib.Core.Bool.{false, not}
use mathlib.Core.Path.{◌≡◌, refl, sym, ap, subst, ◌∙◌}
use mathlib.Core.Option.{some, Option}
use mathlib.Core.List.{List, [], ◌∷◌}
use lib.Dec.{T}
use Rattle.checkpoint.specs.Checkpoint.{Checkpoint}
use Rattle.protocol.specs.Types.{Origin, Save, PowerUp, Phase, EraseFirst, Words, Record, EraseAfter, Done, Progress}
use Rattle.protocol.specs.Calls.{Advances, Setup, advanced_by}
use Rattle.protocol.specs.Operations.{finished, advance_stop}
use Rattle.protocol.specs.Journal.{Store, to_come, Draft}
use Rattle.protocol.specs.History.{State, Handed, step, refused, Keeps, is_stopped}
use Rattle.protocol.specs.Recovery.{ending, said, Told, store_left}
use Rattle.protocol.proofs.Facts.{no_fact}
use Rattle.protocol.proofs.Invariant.{draft_of, Doing, Holds, Moving, answer_of}
use Rattle.protocol.proofs.Refused.{T→true}
use Rattle.protocol.proofs.Advances.{call, erasing_first, writing, Moves}
use Rattle.protocol.proofs.Records.{recording}
use Rattle.protocol.proofs.Advancing.{erasing_after, done_refused, going}

same_end : (o : Origin) → finished o ≡ ending o
unfolding finished ending
same_end Save = refl
same_end PowerUp = refl

said_is : (c : Checkpoint) (origin : Origin) (rest : List Store) → answer_of origin rest ≡ said (some (draft_of c origin rest))
unfolding said to_come
said_is c origin [] = same_end origin
said_is c origin (x ∷ rest) = refl

told_of : (u : Setup) (t : State) (answer : Progress) (c : Checkpoint) (origin : Origin) (rest : List Store) → Moving u t answer c origin rest → answer ≡ said t.journal.draft
told_of u t answer c origin rest m = m.answered ∙ said_is c origin rest ∙ ap said (sym m.draft_is)

-- an advance that makes a store of the draft
told_store : (u : Setup) (s : State) (h : Handed) (c : Checkpoint) (origin : Origin) (x : Store) (rest : List Store)
    → s.journal.draft ≡ some (draft_of c origin (x ∷ rest)) → Moves u s h c origin rest → Told u s (call u h)
unfolding refused store_left to_come
told_store u s h c origin x rest d m = (
  ap is_stopped m.answered ∙ going origin rest ∙ sym (ap (λ (o : Option Draft). not (store_left o)) d),
  λ e. told_of u (step u s (advanced_by (call u h))) _ c origin rest m,
)

-- the draft has none left
told_done : (u : Setup) (s : State) (h : Handed) (d : Draft) → s.journal.draft ≡ some d → d.stores ≡ [] → T (refused s (advanced_by (call u h)))
    → Told u s (call u h)
unfolding store_left to_come
told_done u s h d e f t =
    let none_left : store_left s.journal.draft ≡ false = ap store_left e ∙ ap to_come f in
    (T→true (refused s (advanced_by (call u h))) t ∙ sym (ap not none_left), λ k. no_fact (sym k ∙ none_left))

module _ (u : Setup) (s : State) (inv : Holds u s) where
  told_call : (h : Handed) (p : Phase) → h.job.phase ≡ p → Doing u s h p → Told u s (call u h)
  told_call h (EraseFirst p) e d = told_store u s h _ _ _ _ d.before.working.draft_is (erasing_first u s h inv p e d)
  told_call h (Words w) e d = told_store u s h _ _ _ _ d.before.working.draft_is (writing u s h inv w e d)
  told_call h Record e d = told_store u s h _ _ _ _ d.before.working.draft_is (recording inv d e)
  told_call h (EraseAfter p) e d = told_store u s h _ _ _ _ d.working.draft_is (erasing_after u s h inv p e d)
  told_call h Done e d = told_done u s h d.0 d.1 d.2 (done_refused u s h e (advance_stop s.firmware s.ring s.fram (call u h)) refl)

  pub told : (a : Advances) → Keeps u s (advanced_by a) → Told u s a
  unfolding Keeps
  told a (p, e) =
      let h : Handed = record { job = a.job; staging = a.staging } in
      let q : call u h ≡ a = λ i. record { sizes = sym p i; job = a.job; staging = a.staging } in
      subst (λ (b : Advances). Told u s b) q (told_call h h.job.phase refl (inv.doing h e))
