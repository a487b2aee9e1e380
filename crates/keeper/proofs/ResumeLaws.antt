-- What a power-up answers behind a good head. Assumes nothing.
use Prim.Native.Nat.{ℕ, ◌+◌}
use mathlib.Core.Path.{◌≡◌, sym, ◌∙◌}
use mathlib.Core.Bool.{true}
use mathlib.Core.Option.{Option, none, some}
use mathlib.Core.List.{List}
use lib.ListN.{length}
use Rattle.octets.specs.Limits.{part_limit}
use Rattle.checkpoint.specs.Checkpoint.{Longer, Checkpoint, sealed, sealed_length}
use Rattle.checkpoint.specs.Half.{form_of, stored_packet, open_length, secret_length, stored_restarts, good_head, stored}
use Rattle.checkpoint.proofs.StoredLaws.{length_open, length_secret}
use Rattle.checkpoint.proofs.SealedLaws.{length_sealed, length_own_tag}
use Rattle.protocol.specs.Types.{Phase, PowerUp, Begun, Job}
use Rattle.protocol.specs.Operations.{Begin, begin, job_of, resumed}
use Rattle.jobs.specs.Stages.{stopped}
use Rattle.resealing.specs.Stages.{Reseals}

pub restore_stops : (r : Begin) (o : Option ℕ) (s : ℕ) (key : List ℕ) (c : Checkpoint) (j : Job) (staging staging' state state' secret : List ℕ) → o ≡ some s
    → r ≡ stopped s staging' state' → staging' ≡ staging → state' ≡ state → r ≡ begin o key c j staging state secret
unfolding begin
restore_stops r o s key c j staging staging' state state' secret f e x y = e ∙ (λ i. stopped s (x i) (y i)) ∙ rw f

module _ (key latest half nonce : List ℕ) (good : good_head part_limit (form_of half) half ≡ true) where
  abbrev new : Checkpoint
  new = resumed Longer key nonce (stored (form_of half) key latest half)

  length_new : length (sealed key new) ≡ sealed_length Longer (open_length (form_of half) half) (secret_length (form_of half) half)
  unfolding resumed stored
  length_new =
      length_sealed key new (length_own_tag key (stored (form_of half) key latest half))
      ∙ (λ i. sealed_length Longer (length_open part_limit (form_of half) key latest half good i) (length_secret part_limit (form_of half) key latest half good i))

  pub restore_begins : (o : Option ℕ) (k m n r half' page slot : ℕ) (phase : Phase) (t staging staging' state state' nonce' : List ℕ) → o ≡ none
      → k ≡ stored_packet (form_of half) half → m ≡ open_length (form_of half) half → n ≡ secret_length (form_of half) half → r ≡ stored_restarts (form_of half) half → nonce' ≡ nonce → Reseals key t latest half nonce staging staging' state state'
      → record {
        answer = Begun;
        job = record { phase = phase; origin = PowerUp; half = half'; length = sealed_length Longer m n; page = page; slot = slot; nonce = nonce'; tag = t; restarts = r + 1; packet = k };
        secret_length = n;
        staging = staging';
        state = state';
      } ≡ begin o key new (job_of key new phase PowerUp half' page slot) staging state (stored (form_of half) key latest half).secret
  unfolding begin job_of resumed stored
  restore_begins o k m n r half' page slot phase t staging staging' state state' nonce' f u x y w z made =
      let long : sealed_length Longer m n ≡ length (sealed key new) = (λ i. sealed_length Longer (x i) (y i)) ∙ sym length_new in
      let secret_long : n ≡ length (stored (form_of half) key latest half).secret = y ∙ sym (length_secret part_limit (form_of half) key latest half good) in
      (λ i. record {
        answer = Begun;
        job = record { phase = phase; origin = PowerUp; half = half'; length = long i; page = page; slot = slot; nonce = z i; tag = made.tag i; restarts = w i + 1; packet = u i };
        secret_length = secret_long i;
        staging = made.staged i;
        state = made.restored i;
      }) ∙ rw f
