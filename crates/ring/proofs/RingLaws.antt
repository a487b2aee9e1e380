-- What a ring holds after `count` records, and how each store changes it. Assumes nothing.
use Prim.Native.Nat.{ℕ, suc, ◌+◌, ◌-◌, ◌*◌, ◌%◌, ◌<◌}
use mathlib.Core.Path.{◌≡◌, refl, sym, ap, ◌∙◌}
use mathlib.Core.Bool.{Bool, true, false, not}
use mathlib.Core.List.{List, [], ◌∷◌, ◌++◌}
use mathlib.Core.List.{Memᴰ}
use native.Mathlib.Nat.{sub-zero, zero-div, zero-mod}
use native.Mathlib.Omega.{arith}
use lib.ListN.{length, take, length-append}
use lib.Dec.{eqb}
use borrow.Author.Tests.{lt-ltb, le-ltb, eqb-true, eqb-false, not-true}
use Rattle.octets.specs.Limits.{slot_length, nonce_length}
use Rattle.octets.specs.Octets.{part, put, same, blank, erased}
use Rattle.octets.proofs.Laws.{is_erased}
use Rattle.ring.specs.Ring.{ring_wrong, slot_at, page_at, is_record, next_page, page_before, Newest, Blank, At, AtPending, reading, read_ring, newest_page, newest_slot, nonce_in, target_page, target_slot, page_put, record_put}
use Rattle.ring.proofs.SizeLaws.{Sized, sized}
use Rattle.ring.proofs.TurnLaws as turns
use Rattle.ring.proofs.TurnLaws.{Turn, Same, New, turn, page_of_fits, slot_of_fits, NextPage, next_laws, PageBefore, before_laws}
use Rattle.ring.proofs.RecordLaws.{Records, page_with, no_record, one_more, nonce_with, last_with, next_with, put_with}
use Rattle.ring.proofs.PageLaws.{PutWithin, slot_in_page, page_blank, length_page, put_sizes, put_page, put_whole, put_other}
use Rattle.ring.proofs.ReadLaws.{Holds, not_blank, used_none, read_one, read_two}
pub use Rattle.ring.proofs.TurnLaws.{page_of, slot_of}
pub use Rattle.ring.proofs.RecordLaws.{concat, any, last}

-- the records of the newest page after one record more
abbrev pub joined : Bool → List (List ℕ) → List ℕ → List (List ℕ)
joined true recs r = r ∷ []
joined false recs r = recs ++ r ∷ []

-- A ring with `count` records, one or more, of which `recs` are the newest page's. The page before awaits erasing where `owed`.
pub record Ringed (pages slots : ℕ) (ring : List ℕ) (count : ℕ) (owed : Bool) (recs : List (List ℕ)) : Type 0 where
  pub sizes : ring_wrong pages slots ring ≡ false
  pub some_record : 0 < count
  pub number : length recs ≡ slot_of slots count + 1
  pub are_records : (r : List ℕ) → Memᴰ r recs → (length r ≡ slot_length) × (is_record r ≡ true)
  pub newest : page_at ring slots (page_of pages slots count) ≡ concat recs ++ erased (slot_length * (slots - length recs))
  pub pending : owed ≡ true → (length recs ≡ 1) × (blank (page_at ring slots (page_before pages (page_of pages slots count))) ≡ false)
  pub others : (q : ℕ) → q < pages → (q ≡ page_of pages slots count → ⊥)
      → ((q ≡ page_before pages (page_of pages slots count)) × (owed ≡ true) → ⊥) → blank (page_at ring slots q) ≡ true

never : false ≡ true → ⊥
never e = let z : ◌≡◌ {A = ℕ} 0 1 = cc in omega arith

-- ---- the page of the last of `count` records before that record is stored: it holds `base`, the records before it

record Room (pages slots : ℕ) (ring : List ℕ) (count : ℕ) (base : List (List ℕ)) : Type 0 where
  size : Sized pages slots ring
  are_records : Records base
  number : length base ≡ slot_of slots count
  page : page_at ring slots (page_of pages slots count) ≡ page_with slots base

room_blank : {pages slots : ℕ} {ring : List ℕ} {count : ℕ} {base : List (List ℕ)} → Room pages slots ring count base
    → blank (slot_at ring slots (page_of pages slots count) (slot_of slots count)) ≡ true
room_blank {pages} {slots} {ring} {count} {base} o =
    rw (slot_in_page ring slots (page_of pages slots count) (slot_of slots count) (slot_of_fits slots count o.size.numbers.some_slots), o.page, ← o.number)
    (next_with slots base o.are_records)

room_on_blank : (pages slots : ℕ) (ring : List ℕ) (count : ℕ) → Sized pages slots ring → slot_of slots count ≡ 0
    → blank (page_at ring slots (page_of pages slots count)) ≡ true → Room pages slots ring count []
room_on_blank pages slots ring count z s b =
    let p : ℕ = page_of pages slots count in
    record {
      size = z;
      are_records = no_record;
      number = sym s;
      page = is_erased (page_at ring slots p) b
          ∙ ap erased (length_page z p (page_of_fits pages slots count z.numbers.some_pages) ∙ ap (λ n. slot_length * n) (sym (sub-zero slots)));
    }

-- that record is stored at index `i`
grown : {pages slots : ℕ} {ring : List ℕ} {count : ℕ} {base : List (List ℕ)} (owed : Bool) (r : List ℕ) (i : ℕ)
    → Room pages slots ring count base → ring_wrong pages slots ring ≡ false → 0 < count
    → i ≡ slot_length * (page_of pages slots count * slots + slot_of slots count) → length r ≡ slot_length → is_record r ≡ true
    → (owed ≡ true → (length base ≡ 0) × (blank (page_at ring slots (page_before pages (page_of pages slots count))) ≡ false))
    → ((q : ℕ) → q < pages → (q ≡ page_of pages slots count → ⊥)
    → ((q ≡ page_before pages (page_of pages slots count)) × (owed ≡ true) → ⊥) → blank (page_at ring slots q) ≡ true)
    → Ringed pages slots (put ring i r) count owed (base ++ r ∷ [])
grown {pages} {slots} {ring} {count} {base} owed r i o wrong c place l is pend oth =
    let p : ℕ = page_of pages slots count in
    let h : p < pages = page_of_fits pages slots count o.size.numbers.some_pages in
    let s : slot_of slots count < slots = slot_of_fits slots count o.size.numbers.some_slots in
    let w : PutWithin pages slots ring p (slot_length * length base) i r =
    record { size = o.size; in_ring = h; place = omega (arith, o.number); in_page = omega (arith, o.number) } in
    record {
      sizes = put_sizes w wrong;
      some_record = c;
      number = omega (arith, o.number, length-append base (r ∷ []));
      are_records = one_more base r o.are_records l is;
      newest = put_page w ∙ ap (λ x. put x (slot_length * length base) r) o.page ∙ put_with slots base o.are_records r l (omega (arith, o.number));
      pending = λ t. (
        omega (arith, length-append base (r ∷ []), (pend t).0),
        ap blank (put_other w (page_before pages p) (before_laws pages p o.size.numbers.some_pages h).other) ∙ (pend t).1,
      );
      others = λ q b x y. ap blank (put_other w q x) ∙ oth q b x y;
    }

-- ---- what a ring holds

module _ {pages slots : ℕ} {ring : List ℕ} {count : ℕ} {owed : Bool} {recs : List (List ℕ)} (h : Ringed pages slots ring count owed recs) where
  size : Sized pages slots ring
  size = sized pages slots ring h.sizes

  in_ring : page_of pages slots count < pages
  in_ring = page_of_fits pages slots count size.numbers.some_pages

  holds : Holds ring slots (page_of pages slots count) recs
  holds = record {
    are_records = h.are_records;
    some = omega (arith, h.number);
    fits = omega (arith, h.number, slot_of_fits slots count size.numbers.some_slots);
    page = h.newest;
  }

  turned : Turn pages slots count
  turned = turn pages slots count size.numbers.some_pages size.numbers.some_slots h.some_record

  targets : (n : Newest) → newest_page n ≡ page_of pages slots count → newest_slot n ≡ slot_of slots count
      → (target_page pages slots n ≡ page_of pages slots (count + 1)) × (target_slot slots n ≡ slot_of slots (count + 1))
  unfolding target_page target_slot
  targets n p s = go turned
    where
      go : Turn pages slots count → (target_page pages slots n ≡ page_of pages slots (count + 1)) × (target_slot slots n ≡ slot_of slots (count + 1))
      go (turns.same t) = rw (p, s, lt-ltb (slot_of slots count + 1) slots t.fits) (sym t.page, sym t.slot)
      go (turns.new t) = rw (p, s, le-ltb (slot_of slots count + 1) slots (omega arith)) (sym t.page, sym t.slot)

-- no page awaits erasing
module _ {pages slots : ℕ} {ring : List ℕ} {count : ℕ} {recs : List (List ℕ)} (h : Ringed pages slots ring count false recs) where
  others_blank : (q : ℕ) → q < pages → (q ≡ page_of pages slots count → ⊥) → blank (page_at ring slots q) ≡ true
  others_blank q l n = h.others q l n (λ c. never c.1)

  next : NextPage pages (page_of pages slots count)
  next = next_laws pages (page_of pages slots count) (size h).numbers.some_pages (in_ring h)

  room_same : Same pages slots count → Room pages slots ring (count + 1) recs
  room_same t = record {
    size = size h;
    are_records = h.are_records;
    number = omega (arith, h.number, t.slot);
    page = ap (page_at ring slots) t.page ∙ h.newest;
  }

  room_new : New pages slots count → Room pages slots ring (count + 1) []
  room_new t =
      room_on_blank pages slots ring (count + 1) (size h) t.slot
      (rw t.page (others_blank (next_page pages (page_of pages slots count)) next.in_ring next.other))

  before_new : New pages slots count → page_before pages (page_of pages slots (count + 1)) ≡ page_of pages slots count
  before_new t = rw t.page next.back

-- ---- the laws

pub read_blank : (pages slots : ℕ) (ring : List ℕ) → ring_wrong pages slots ring ≡ false → blank ring ≡ true → read_ring ring pages slots ≡ Blank
unfolding read_ring reading
read_blank pages slots ring w b = rw (used_none ring slots 0 pages (λ q l u. page_blank ring slots q b))

module _ (pages slots : ℕ) (ring : List ℕ) (count : ℕ) (recs : List (List ℕ)) where
  pub read_alone : Ringed pages slots ring count false recs → read_ring ring pages slots ≡ At (page_of pages slots count) (slot_of slots count)
  read_alone h =
      let e : length recs - 1 ≡ slot_of slots count = omega (arith, h.number) in
      read_one (holds h) pages (in_ring h) (others_blank h) ∙ ap (At (page_of pages slots count)) e

  pub read_pending : Ringed pages slots ring count true recs
      → read_ring ring pages slots ≡ AtPending (page_of pages slots count) (page_before pages (page_of pages slots count))
  read_pending h =
      let one = h.pending refl in
      read_two (holds h) pages (in_ring h) (size h).numbers.some_pages one.0 one.1 (λ q b x y. h.others q b x (λ c. y c.0))

  pub newest_is : (owed : Bool) → Ringed pages slots ring count owed recs
      → slot_at ring slots (page_of pages slots count) (slot_of slots count) ≡ last recs
  newest_is owed h =
      let s : ℕ = slot_of slots count in
      slot_in_page ring slots (page_of pages slots count) s (slot_of_fits slots count (size h).numbers.some_slots)
      ∙ ap (λ x. part x (slot_length * s) slot_length) h.newest ∙ last_with slots recs h.are_records s (omega (arith, h.number))

  pub nonce_among : (owed : Bool) (nonce : List ℕ) → Ringed pages slots ring count owed recs
      → nonce_in nonce (page_at ring slots (page_of pages slots count)) (suc (slot_of slots count)) ≡ any (λ r. same (take nonce_length r) nonce) recs
  nonce_among owed nonce h =
      let e : suc (slot_of slots count) ≡ length recs = omega (arith, h.number) in
      rw (e, h.newest) (nonce_with slots recs h.are_records nonce)

  -- where the next record goes: the slot is blank, and the ring after it
  pub target_is_blank : Ringed pages slots ring count false recs
      → blank (slot_at ring slots (page_of pages slots (count + 1)) (slot_of slots (count + 1))) ≡ true
  target_is_blank h = go (turned h)
    where
      go : Turn pages slots count → blank (slot_at ring slots (page_of pages slots (count + 1)) (slot_of slots (count + 1))) ≡ true
      go (turns.same t) = room_blank (room_same h t)
      go (turns.new t) = room_blank (room_new h t)

  pub target_pages : Ringed pages slots ring count false recs
      → (target_page pages slots (At (page_of pages slots count) (slot_of slots count)) ≡ page_of pages slots (count + 1))
      × (target_slot slots (At (page_of pages slots count) (slot_of slots count)) ≡ slot_of slots (count + 1))
  target_pages h = targets h (At (page_of pages slots count) (slot_of slots count)) refl refl

  pub target_pending : Ringed pages slots ring count true recs
      → (target_page pages slots (AtPending (page_of pages slots count) (page_before pages (page_of pages slots count))) ≡ page_of pages slots (count + 1))
      × (target_slot slots (AtPending (page_of pages slots count) (page_before pages (page_of pages slots count))) ≡ slot_of slots (count + 1))
  target_pending h =
      let p : ℕ = page_of pages slots count in
      targets h (AtPending p (page_before pages p)) refl (omega (arith, h.number, (h.pending refl).0))

  pub record_next : (r : List ℕ) → Ringed pages slots ring count false recs → length r ≡ slot_length → is_record r ≡ true
      → Ringed pages slots (record_put ring slots (page_of pages slots (count + 1)) (slot_of slots (count + 1)) r) (count + 1)
      (eqb (count % slots) 0) (joined (eqb (count % slots) 0) recs r)
  unfolding record_put
  record_next r h l i = go (turned h)
    where
      at : ℕ
      at = slot_length * (page_of pages slots (count + 1) * slots + slot_of slots (count + 1))

      go : Turn pages slots count → Ringed pages slots (put ring at r) (count + 1) (eqb (count % slots) 0) (joined (eqb (count % slots) 0) recs r)
      go (turns.same t) = rw t.opens
          (grown false r at (room_same h t) h.sizes (omega arith) refl l i
          (λ o. absurd (never o))
          (λ q b x _. others_blank h q b (λ e. x (e ∙ sym t.page))))
      go (turns.new t) = rw t.opens
          (grown true r at (room_new h t) h.sizes (omega arith) refl l i
          (λ o. (refl, ap (λ q. blank (page_at ring slots q)) (before_new h t) ∙ not_blank (holds h)))
          (λ q b x y. others_blank h q b (λ e. y (e ∙ sym (before_new h t), refl))))

  -- an erase, whole or interrupted: the page before the newest then holds `left`
  pub erase_pending : (left : List ℕ) → Ringed pages slots ring count true recs → length left ≡ slot_length * slots
      → Ringed pages slots (page_put ring slots (page_before pages (page_of pages slots count)) left) count (not (blank left)) recs
  unfolding page_put
  erase_pending left h l = record {
    sizes = put_sizes w h.sizes;
    some_record = h.some_record;
    number = h.number;
    are_records = h.are_records;
    newest = put_other w p (λ q. before.other (sym q)) ∙ h.newest;
    pending = λ t. ((h.pending refl).0, ap blank whole ∙ not-true (blank left) t);
    others = λ q ql x y. go q ql x y (eqb q (page_before pages p)) refl;
  }
    where
      p : ℕ
      p = page_of pages slots count

      i : ℕ
      i = slot_length * (page_before pages p * slots)

      before : PageBefore pages p
      before = before_laws pages p (size h).numbers.some_pages (in_ring h)

      w : PutWithin pages slots ring (page_before pages p) 0 i left
      w = record { size = size h; in_ring = before.in_ring; place = omega arith; in_page = omega arith }

      whole : page_at (put ring i left) slots (page_before pages p) ≡ left
      whole = put_whole w refl l

      left_blank : (t : Bool) → (not t ≡ true → ⊥) → t ≡ true
      left_blank true n = refl
      left_blank false n = absurd (n refl)

      go : (q : ℕ) → q < pages → (q ≡ p → ⊥) → ((q ≡ page_before pages p) × (not (blank left) ≡ true) → ⊥) → (t : Bool) → eqb q (page_before pages p) ≡ t
          → blank (page_at (put ring i left) slots q) ≡ true
      go q ql x y true c =
          let s : q ≡ page_before pages p = eqb-true q (page_before pages p) c in
          ap (λ o. blank (page_at (put ring i left) slots o)) s ∙ ap blank whole ∙ left_blank (blank left) (λ n. y (s, n))
      go q ql x y false c =
          let n : q ≡ page_before pages p → ⊥ = eqb-false q (page_before pages p) c in
          ap blank (put_other w q n) ∙ h.others q ql x (λ o. n o.0)

pub record_first : (pages slots : ℕ) (ring r : List ℕ) → ring_wrong pages slots ring ≡ false → blank ring ≡ true → length r ≡ slot_length → is_record r ≡ true
    → Ringed pages slots (record_put ring slots 0 0 r) 1 false (r ∷ [])
unfolding record_put
record_first pages slots ring r w b l i =
    grown false r (slot_length * (0 * slots + 0))
    (room_on_blank pages slots ring 1 (sized pages slots ring w) (zero-mod slots) (page_blank ring slots (page_of pages slots 1) b))
    w (omega arith) (rw (zero-div slots, zero-mod pages, zero-mod slots)) l i
    (λ o. absurd (never o))
    (λ q _ _ _. page_blank ring slots q b)
