-- The two orders of a power-up's stops (document 02, A.6). Document 01 tries 10, a used nonce, before 11, 12 and 13, which are about the half;
-- from A.6 on these three go before it.
use Rattle.std.specs.Prelude.{ℕ, ◌≤◌, ◌≡◌, true, false, List, ◌↔◌, length}
use Rattle.std.proofs.Math.Option.{none, some}
use Rattle.octets.specs.Limits.{restart_limit, nonce_length}
use Rattle.octets.specs.Octets.{blank}
use Rattle.stops.specs.Stops.{first_of}
use Rattle.ring.specs.Ring.{nonce_used}
use Rattle.checkpoint.specs.Checkpoint.{Checkpoint}
use Rattle.checkpoint.specs.Fram.{half_length}
use Rattle.protocol.specs.Types.{Order, NonceFirst, HalfFirst, Firmware, Begun, Stopped}
use Rattle.protocol.specs.Calls.{Saves, PowersUp, Looks, Advances, Setup, Event}
use Rattle.protocol.specs.Operations as operations
use Rattle.protocol.specs.Operations.{newest_in, half_lines, power_up_stop, power_up}
use Rattle.protocol.specs.History.{State, fresh, run, Allowed}
use Rattle.protocol.specs.Recovery.{Started, Outgrown, Fits}

-- ---- the orders compared

-- a firmware with an order
abbrev pub ordered : Order → Firmware → Firmware
ordered order f =
    record { form = f.form; order = order; longest_part = f.longest_part; largest_fram = f.largest_fram; key_lengths = f.key_lengths; fits_word = f.fits_word }

-- 10 holds, nothing that goes before it does, and x is the lowest of 11, 12 and 13 that holds as well
abbrev pub Together : Firmware → (ring fram : List ℕ) → PowersUp → ℕ → Type 0
Together firmware ring fram a x =
    (power_up_stop (ordered NonceFirst firmware) ring fram a ≡ some 10) × (first_of (half_lines firmware ring fram a) ≡ some x)

-- the answers differ exactly where 10 holds together with 11, 12 or 13: there the lowest of those three is given, without a job, and staging
-- and state are as they were; elsewhere all that a power-up answers and leaves is the same
pub record Compared (firmware : Firmware) (ring fram : List ℕ) (a : PowersUp) : Type 0 where
  pub differ : ((x : ℕ) → Together firmware ring fram a x → ⊥)
      ↔ ((power_up (ordered HalfFirst firmware) ring fram a).answer ≡ (power_up (ordered NonceFirst firmware) ring fram a).answer)
  pub same : ((x : ℕ) → Together firmware ring fram a x → ⊥)
      → power_up (ordered HalfFirst firmware) ring fram a ≡ power_up (ordered NonceFirst firmware) ring fram a
  pub instead : (x : ℕ) → Together firmware ring fram a x → Started (some x) (power_up (ordered HalfFirst firmware) ring fram a) a.staging a.state

-- save keeps its order, and no other operation asks for it either
pub record OthersSame (firmware : Firmware) (ring fram : List ℕ) (order other : Order) : Type 0 where
  pub save : (a : Saves) → operations.save (ordered order firmware) ring fram a ≡ operations.save (ordered other firmware) ring fram a
  pub look : (a : Looks) → operations.look (ordered order firmware) ring fram a ≡ operations.look (ordered other firmware) ring fram a
  pub stretch : (a : Looks) → operations.open_stretch (ordered order firmware) ring fram a ≡ operations.open_stretch (ordered other firmware) ring fram a
  pub advance : (a : Advances) → operations.advance (ordered order firmware) ring fram a ≡ operations.advance (ordered other firmware) ring fram a

-- any firmware, with any memories
unfoldable pub OrdersCompared : Type 0
OrdersCompared =
    (firmware : Firmware) (ring fram : List ℕ)
    → ((a : PowersUp) → Compared firmware ring fram a) × ((order other : Order) → OthersSame firmware ring fram order other)

-- ---- after every list, with any nonce

-- as Recovery's last power-up, but with any nonce of 12 bytes
pub record AnyNonce (u : Setup) (s : State) (a : PowersUp) : Type 0 where
  pub sizes : a.sizes ≡ u.sizes
  pub key : a.key ≡ u.key
  pub nonce_long : length a.nonce ≡ nonce_length
  pub staging : half_length s.fram ≤ length a.staging
  pub state : s.firmware.longest_part ≤ length a.state

-- the newer order gives 6 and 13 as the cut rule says, used nonce or not; 10 exactly if neither is given and the nonce is used; and else it begins,
-- unless the entry, sealed anew, outgrows the half
pub record Answers (u : Setup) (s : State) (a : PowersUp) : Type 0 where
  pub nothing : ((power_up s.firmware s.ring s.fram a).answer ≡ Stopped 6) ↔ (s.journal.entry ≡ none)
  pub worn : ((power_up s.firmware s.ring s.fram a).answer ≡ Stopped 13) ↔ (s.journal.power_ups ≡ restart_limit)
  pub used : ((power_up s.firmware s.ring s.fram a).answer ≡ Stopped 10)
      ↔ ((s.journal.entry ≡ none → ⊥) × (s.journal.power_ups ≡ restart_limit → ⊥)
      × (nonce_used s.ring u.sizes.slots (newest_in s.ring u.sizes) a.nonce ≡ true))
  pub otherwise : (c : Checkpoint) → s.journal.entry ≡ some c → (s.journal.power_ups ≡ restart_limit → ⊥)
      → nonce_used s.ring u.sizes.slots (newest_in s.ring u.sizes) a.nonce ≡ false
      → (Outgrown u s a c → (power_up s.firmware s.ring s.fram a).answer ≡ Stopped 4)
      × ((Outgrown u s a c → ⊥) → (power_up s.firmware s.ring s.fram a).answer ≡ Begun)

-- a worn unit with the nonce of its newest checkpoint: the older order gives 10, the newer one 13
abbrev pub WornAndUsed : State → PowersUp → Type 0
WornAndUsed s a =
    (c : Checkpoint) → s.journal.entry ≡ some c → s.journal.power_ups ≡ restart_limit → a.nonce ≡ c.nonce
    → ((power_up (ordered NonceFirst s.firmware) s.ring s.fram a).answer ≡ Stopped 10)
    × ((power_up (ordered HalfFirst s.firmware) s.ring s.fram a).answer ≡ Stopped 13)

-- after every list; some leave a worn unit (`Reachable` in Histories.antt)
unfoldable pub WornWhateverNonce : Type 0
WornWhateverNonce =
    (u : Setup) (firmware : Firmware) (ring fram : List ℕ) → blank ring ≡ true
    → (events : List Event) → Allowed u (fresh firmware ring fram) events
    → (let s = run u (fresh firmware ring fram) events in
    Fits u s.firmware ring fram → (a : PowersUp) → AnyNonce u s a → (s.firmware.order ≡ HalfFirst → Answers u s a) × WornAndUsed s a)
