-- At document 01's firmware the operations are document 01's.
use Prim.Native.Nat.{ℕ, ◌+◌}
use mathlib.Core.Path.{◌≡◌, refl, ap, ◌∙◌}
use mathlib.Core.Bool.{Bool, true, false, ◌||◌}
use mathlib.Core.List.{List, [], ◌∷◌}
use lib.ListN.{length}
use borrow.Author.Tests.{le-ltb, not-false}
use Rattle.octets.specs.Limits.{long_key, older_key_lengths}
use Rattle.stops.proofs.Laws.{passes, skipped, same_line, last_skipped, or_false}
use Rattle.gcm.proofs.Keys.{one_length}
use Rattle.checkpoint.specs.Checkpoint.{Older, own_tag, sealed_length}
use Rattle.checkpoint.specs.Half.{open_length, secret_length, good_head}
use Rattle.checkpoint.proofs.StoredLaws.{head_facts}
use Rattle.protocol.specs.Operations.{key_wrong, nonce_wrong, tag_wrong, packet_wrong, session_wrong, written_number, save_restarts, outgrows, parts_wrong, state_wrong, job_wrong, newest_in, newest_half, from_wrong, number_from, restarts_from, previous_tag, save_checkpoint, resumed, ring_lines, save_stop, half_lines, power_up_stop, look_stop, advance_stop}
use Rattle.protocol.specs.Older.{wrong_key, OlderIs}

-- a checkpoint in its own form does not outgrow its half
never_outgrows : (limit : ℕ) (half : List ℕ) → good_head limit Older half ≡ true → outgrows Older half ≡ false
unfolding outgrows
never_outgrows limit half g = le-ltb (length half) (sealed_length Older (open_length Older half) (secret_length Older half)) (head_facts limit Older half g).fits

key_is : (key : List ℕ) → key_wrong older_key_lengths (length key) ≡ wrong_key key
key_is key = one_length long_key (length key)

pub older_is : OlderIs
unfolding OlderIs save_stop from_wrong ring_lines half_lines power_up_stop look_stop advance_stop packet_wrong session_wrong parts_wrong state_wrong job_wrong save_checkpoint number_from restarts_from previous_tag resumed written_number save_restarts
older_is = (
  λ ring fram. record {
    first_save = λ a. skipped (_ ∷ _ ∷ _ ∷ _ ∷ []) (_ ∷ []) 18
        ∙ same_line (_ ∷ _ ∷ []) _ 3 _ _ (ap (λ (b : Bool). b || nonce_wrong (length a.arguments.nonce) || tag_wrong (length a.starting_tag)) (key_is a.arguments.key));
    save = λ a. skipped (_ ∷ _ ∷ _ ∷ _ ∷ []) _ 18 ∙ same_line (_ ∷ _ ∷ []) _ 3 _ _ (or_false _ ∙ ap (λ (b : Bool). b || nonce_wrong (length a.arguments.nonce)) (key_is a.arguments.key)) ∙ same_line (_ ∷ _ ∷ _ ∷ _ ∷ _ ∷ _ ∷ []) _ 8 _ _ (or_false _);
    power_up = λ a. last_skipped (_ ∷ _ ∷ _ ∷ _ ∷ _ ∷ _ ∷ _ ∷ _ ∷ _ ∷ _ ∷ []) 4 _ (λ e.
        never_outgrows 4096 (newest_half ring fram a.sizes.slots (newest_in ring a.sizes)) (not-false _ (passes _ e).1.1.1.1.1.1.1.0))
        ∙ same_line (_ ∷ _ ∷ []) _ 3 _ _ (ap (λ (b : Bool). b || nonce_wrong (length a.nonce)) (key_is a.key));
    look = λ a. same_line (_ ∷ _ ∷ []) _ 3 _ _ (key_is a.key);
    advance = λ a. refl;
  },
  record {
    head = λ packet o s r. refl;
    long = λ m n. refl;
    first_save = λ a. refl;
    save = λ a. refl;
    power_up = λ key nonce c e. λ i. record {
      form = Older;
      packet = e i;
      open_part = c.open_part;
      secret = c.secret;
      restarts = c.restarts + 1;
      previous = own_tag key c;
      nonce = nonce;
    };
  },
)
