-- A start that does not stop: the job handed out matches the draft.
use Prim.Native.Nat.{ℕ, suc, ◌+◌, ◌-◌, ◌*◌, ◌/◌, ◌%◌, ◌≤◌}
use mathlib.Core.Path.{◌≡◌, refl, sym, subst}
use mathlib.Core.Bool.{Bool, true, false, ◌&&◌, cond, ◌||◌}
use mathlib.Core.Logic.{◌⊎◌, inl, inr}
use mathlib.Core.Option.{Option, some, none}
use mathlib.Core.List.{List, ◌∷◌, ◌++◌, Memᴰ}
use native.Mathlib.Omega.{arith}
use lib.ListN.{length, replicate}
use lib.Dec.{eqb, ltb}
use borrow.Author.Tests.{ltb-false}
use Rattle.octets.specs.Octets.{put}
use Rattle.octets.proofs.Laws.{length_put, put_within}
use Rattle.stops.proofs.Laws.{neither}
use Rattle.checkpoint.proofs.SealedLaws.{part_sizes}
use Rattle.checkpoint.specs.Checkpoint.{Checkpoint, sealed, sealed_length}
use Rattle.checkpoint.specs.Fram.{fram_wrong, half_length}
use Rattle.protocol.specs.Types.{Firmware, Origin, Job, Phase, EraseFirst, Words}
use Rattle.protocol.specs.Calls.{Setup, SaveArguments}
use Rattle.protocol.specs.Operations.{Begin, job_of, begin, parts_wrong, staging_wrong}
use Rattle.protocol.specs.Journal.{Journal, Store, erase, word, record_slot, erase_if, drafted, stores_of}
use Rattle.protocol.specs.History.{State, Handed, begun, is_stop}
use Rattle.protocol.proofs.Invariant.{Small, Good, length_good, sealed_fits, half_of, page_in, slot_in, owed_page, Durable, Before, last_erase, Doing, Holds}
use Rattle.protocol.proofs.Advances.{doing_of}

-- where a start's stores begin
abbrev pub Begins : Setup → State → Phase → Type 0
Begins u s phase = ((s.journal.owed ≡ false) × (phase ≡ Words 0))
    ⊎ ((s.journal.owed ≡ true) × (phase ≡ EraseFirst (owed_page u s)))

-- the state after a start
abbrev pub started : Setup → State → Checkpoint → Origin → ℕ → Job → List ℕ → State
started u s c origin power_ups job staging = record {
  ring = s.ring;
  fram = s.fram;
  handed = some (record { job = job; staging = put staging 0 (sealed u.key c) });
  sessions = s.sessions;
  nonces = c.nonce ∷ s.nonces;
  journal = drafted u.key u.sizes.slots origin c power_ups s.journal;
  firmware = s.firmware;
}

more_nonces : {u : Setup} {ring fram : List ℕ} {nonces : List (List ℕ)} {entry : Option Checkpoint} {count : ℕ} {owed : Bool} {power_ups : ℕ} (nonce : List ℕ)
    → Durable u ring fram nonces entry count owed power_ups → Durable u ring fram (nonce ∷ nonces) entry count owed power_ups
more_nonces nonce (inl x) = inl x
more_nonces nonce (inr (c, r)) = inr (
  c,
  record {
    entry_is = r.entry_is;
    recs = r.recs;
    ringed = r.ringed;
    latest = r.latest;
    good = r.good;
    restarts_are = r.restarts_are;
    there = r.there;
    known = λ q m. Memᴰ.tail (r.known q m);
  },
)

-- the words after the first
words_after : List ℕ → Checkpoint → ℕ
words_after key c = length (sealed key c) / 4 - 1

plain : (key : List ℕ) (slots : ℕ) (j : Journal) (c : Checkpoint) (left : ℕ) → j.owed ≡ false → length (sealed key c) / 4 ≡ suc left
    → stores_of key slots j c ≡ word ∷ (replicate left word ++ record_slot ∷ erase_if (ltb 0 j.count && eqb (j.count % slots) 0))
unfolding stores_of erase_if
plain key slots j c left o e = rw (o, e)

owing : (key : List ℕ) (slots : ℕ) (j : Journal) (c : Checkpoint) (left : ℕ) → j.owed ≡ true → length (sealed key c) / 4 ≡ suc left
    → stores_of key slots j c ≡ erase ∷ word ∷ (replicate left word ++ record_slot ∷ erase_if (ltb 0 j.count && eqb (j.count % slots) 0))
unfolding stores_of erase_if
owing key slots j c left o e = rw (o, e)

module _ (u : Setup) (s : State) (inv : Holds u s) (c : Checkpoint) (origin : Origin) (phase : Phase) (half page slot : ℕ) (staging : List ℕ)
    (good : Good c (half_length s.fram)) (form_is : c.form ≡ s.firmware.form) (small : Small s.firmware c) (fram_fits : fram_wrong s.firmware.largest_fram s.fram ≡ false) (fresh_nonce : Memᴰ c.nonce s.nonces → ⊥) (long : half_length s.fram ≤ length staging)
    (half_is : half ≡ half_of (s.journal.count + 1)) (page_is : page ≡ page_in u (s.journal.count + 1))
    (slot_is : slot ≡ slot_in u (s.journal.count + 1)) (power_ups : ℕ) (restarts_are : power_ups ≡ c.restarts) where
  abbrev job : Job
  job = job_of u.key c phase origin half page slot

  abbrev h : Handed
  h = record { job = job; staging = put staging 0 (sealed u.key c) }

  abbrev t : State
  t = started u s c origin power_ups job staging

  sealed_within : length (sealed u.key c) ≤ length staging
  sealed_within = omega (arith, sealed_fits u.key good, long)

  abbrev left : ℕ
  left = words_after u.key c

  words_are : length (sealed u.key c) / 4 ≡ suc (words_after u.key c)
  unfolding words_after
  words_are = rw (length_good u.key good) (omega arith)

  left_is : 4 * suc (words_after u.key c) ≡ length (sealed u.key c)
  left_is =
      let l = length_good u.key good in
      let e : length (sealed u.key c) % 4 ≡ 0 = rw l (omega (arith, good.range)) in
      omega (arith, words_are)

  before : (stores : List Store) → stores_of u.key u.sizes.slots s.journal c ≡ stores → Before u t h stores
  unfolding drafted job_of
  before stores e = record {
    working = record {
      c = c;
      origin = origin;
      form_is = form_is;
      small = small;
      fram_fits = fram_fits;
      draft_is = λ i. some (record { checkpoint = c; origin = origin; power_ups = restarts_are i; stores = e i });
      good = good;
      nonce_known = Memᴰ.head refl;
      length_is = refl;
      origin_is = refl;
      half_is = half_is;
      page_is = page_is;
      slot_is = slot_is;
      nonce_is = refl;
      tag_is = refl;
      restarts_is = refl;
      packet_is = refl;
      staging_long = rw (length_put staging 0 (sealed u.key c) (omega (arith, sealed_within))) long;
      staged = λ k l. put_within staging (sealed u.key c) 0 k (omega arith) l;
    };
    unlike = λ z m e. fresh_nonce (subst (λ (n : List ℕ). Memᴰ n s.nonces) e (inv.sessions_known z m));
  }

  start_doing : Begins u s phase → Doing u t h phase
  unfolding drafted job_of before
  start_doing (inl (o, p)) = subst (λ (q : Phase). Doing u t h q) (sym p)
      (record {
        left = left;
        left_is = omega (arith, left_is);
        before = before (word ∷ (replicate left word ++ record_slot ∷ last_erase u s)) (plain u.key u.sizes.slots s.journal c left o words_are);
        owed = o;
        stored = λ k l. absurd (omega arith);
      })
  start_doing (inr (o, p)) = subst (λ (q : Phase). Doing u t h q) (sym p)
      (record {
        left = left;
        left_is = left_is;
        before = before (erase ∷ word ∷ (replicate left word ++ record_slot ∷ last_erase u s)) (owing u.key u.sizes.slots s.journal c left o words_are);
        owed = o;
        page_is = refl;
      })

  pub start_holds : Begins u s phase → Holds u (started u s c origin power_ups (job_of u.key c phase origin half page slot) staging)
  unfolding drafted job_of
  start_holds b = record {
    ring_right = inv.ring_right;
    fram_right = inv.fram_right;
    durable = more_nonces c.nonce inv.durable;
    sessions_known = λ z m. Memᴰ.tail (inv.sessions_known z m);
    sessions_match = inv.sessions_match;
    reads_entry = inv.reads_entry;
    doing = doing_of u t h refl (start_doing b);
  }

-- ---- a start's answer, by its stop

module _ (s : State) (o : Option ℕ) (key : List ℕ) (c : Checkpoint) (job : Job) (staging state secret nonce : List ℕ) (j : Journal) where
  abbrev answered : Begin
  answered = begin o key c job staging state secret

  pub begun_stopped : (x : ℕ) → o ≡ some x → begun s answered.answer answered nonce (cond (is_stop answered.answer) s.journal j) ≡ s
  unfolding begin begun is_stop
  begun_stopped x e = rw e

  pub begun_none : o ≡ none → begun s answered.answer answered nonce (cond (is_stop answered.answer) s.journal j) ≡ record {
    ring = s.ring;
    fram = s.fram;
    handed = some (record { job = job; staging = put staging 0 (sealed key c) });
    sessions = s.sessions;
    nonces = nonce ∷ s.nonces;
    journal = j;
    firmware = s.firmware;
  }
  unfolding begin begun is_stop
  begun_none e = rw e

-- ---- parts that pass

pub record Parts (firmware : Firmware) (open_part secret : List ℕ) (half staging : ℕ) : Type 0 where
  pub open_passes : (length open_part % 4 ≡ 0) × (length open_part ≤ firmware.longest_part)
  pub secret_passes : (length secret % 4 ≡ 0) × (length secret ≤ firmware.longest_part)
  pub fits : sealed_length firmware.form (length open_part) (length secret) ≤ half
  pub staging_long : half ≤ staging

pub parts_pass : (firmware : Firmware) (open_part secret fram staging : List ℕ) → parts_wrong firmware open_part secret fram || staging_wrong staging fram ≡ false
    → Parts firmware open_part secret (half_length fram) (length staging)
unfolding parts_wrong staging_wrong
parts_pass firmware open_part secret fram staging e =
    let a = neither _ _ e in
    let b = neither _ _ a.0 in
    let c = neither _ _ b.0 in
    record {
      open_passes = part_sizes firmware.longest_part open_part c.0;
      secret_passes = part_sizes firmware.longest_part secret c.1;
      fits = ltb-false (half_length fram) (sealed_length firmware.form (length open_part) (length secret)) b.1;
      staging_long = ltb-false (length staging) (half_length fram) a.1;
    }

-- the same arguments with the unit's sizes and key
abbrev pub save_arguments : Setup → SaveArguments → SaveArguments
save_arguments u a = record { sizes = u.sizes; key = u.key; nonce = a.nonce; packet = a.packet; open_part = a.open_part; secret = a.secret; staging = a.staging }

-- they are the same where document 01's rules are kept
pub same_arguments : (u : Setup) (a : SaveArguments) → a.sizes ≡ u.sizes → a.key ≡ u.key → save_arguments u a ≡ a
same_arguments u a p q = λ i. record { sizes = sym p i; key = sym q i; nonce = a.nonce; packet = a.packet; open_part = a.open_part; secret = a.secret; staging = a.staging }
