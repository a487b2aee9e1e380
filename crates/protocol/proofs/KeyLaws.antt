-- Which keys firmware takes, and what it does with others.
use Prim.Native.Nat.{ℕ}
use mathlib.Core.Path.{◌≡◌, sym, ap, subst, ◌∙◌}
use mathlib.Core.Bool.{true, false, not, ◌||◌}
use mathlib.Core.Logic.{◌↔◌}
use mathlib.Core.Option.{Option, some}
use mathlib.Core.List.{List, [], ◌∷◌}
use borrow.Author.Tests.{eqb-true, eq-eqb, not-false}
use lib.ListN.{length}
use Rattle.octets.specs.Limits.{long_key, older_key_lengths}
use Rattle.gcm.proofs.Keys.{one_length, key_exactly}
use Rattle.protocol.specs.Types.{Firmware}
use Rattle.protocol.specs.Calls.{Saves, PowersUp, saved, powered_up}
use Rattle.protocol.specs.Operations.{key_wrong, nonce_wrong, from_wrong, save_stop, save, power_up_stop, power_up, look_stop, look, open_stretch}
use Rattle.protocol.specs.History.{fresh}
use Rattle.protocol.specs.Recovery.{Started, Exact}
use Rattle.protocol.specs.Keys.{Taken, stop_at_3, Refused, EitherFits, KeyLengths}
use Rattle.protocol.proofs.Turns.{ends_there, stops}
use Rattle.protocol.proofs.Exact.{exact}
use Rattle.protocol.proofs.BeyondLaws.{looked_by, stretched_by}

only_long : (n : ℕ) → key_wrong older_key_lengths n ≡ false → n ≡ long_key
only_long n e = eqb-true n long_key (not-false _ (sym (one_length long_key n) ∙ e))

long_only : (n : ℕ) → n ≡ long_key → key_wrong older_key_lengths n ≡ false
long_only n e = one_length long_key n ∙ ap not (eq-eqb n long_key e)

long_alone : (n : ℕ) → (key_wrong older_key_lengths n ≡ false) ↔ (n ≡ 32)
long_alone n = (only_long n, long_only n)

taken : Taken
taken = record { now = key_exactly; before = (long_alone, long_alone, long_alone, long_alone) }

module _ (firmware : Firmware) (ring fram : List ℕ) where
  saves : (a : Saves) → key_wrong firmware.key_lengths (length a.arguments.key) ≡ true
      → Started (stop_at_3 firmware ring fram a.arguments.sizes) (save firmware ring fram a) a.arguments.staging []
  unfolding save_stop stop_at_3 Exact fresh
  saves a e =
      let stop : save_stop firmware ring fram a ≡ stop_at_3 firmware ring fram a.arguments.sizes =
      ends_there (_ ∷ _ ∷ []) _ 3 _ (λ i. e i || nonce_wrong (length a.arguments.nonce) || from_wrong a.from) in
      subst (λ (o : Option ℕ). Started o (save firmware ring fram a) a.arguments.staging []) stop (exact (fresh firmware ring fram) (saved a))

  powers_up : (a : PowersUp) → key_wrong firmware.key_lengths (length a.key) ≡ true
      → Started (stop_at_3 firmware ring fram a.sizes) (power_up firmware ring fram a) a.staging a.state
  unfolding power_up_stop stop_at_3 Exact fresh
  powers_up a e =
      let stop : power_up_stop firmware ring fram a ≡ stop_at_3 firmware ring fram a.sizes = ends_there (_ ∷ _ ∷ []) _ 3 _ (λ i. e i || nonce_wrong (length a.nonce)) in
      subst (λ (o : Option ℕ). Started o (power_up firmware ring fram a) a.staging a.state) stop (exact (fresh firmware ring fram) (powered_up a))

  refused : Refused firmware ring fram
  unfolding look_stop look open_stretch stop_at_3
  refused = record {
    save = saves;
    power_up = powers_up;
    look = λ a e.
        let stop : look_stop firmware ring fram a ≡ stop_at_3 firmware ring fram a.sizes = ends_there (_ ∷ _ ∷ []) _ 3 _ e in
        let some_stop : (x : ℕ) × (stop_at_3 firmware ring fram a.sizes ≡ some x) = stops (_ ∷ _ ∷ []) 3 in (
          looked_by (look_stop firmware ring fram a) (stop_at_3 firmware ring fram a.sizes) _ stop some_stop,
          stretched_by (look_stop firmware ring fram a) (stop_at_3 firmware ring fram a.sizes) _ _ stop some_stop,
        );
  }

either_fits : EitherFits
either_fits u ring fram r f k = record { ring_right = r; fram_right = f; key_right = (key_exactly (length u.key)).1 k }

pub key_lengths_taken : KeyLengths
unfolding KeyLengths
key_lengths_taken = (taken, refused, either_fits)
