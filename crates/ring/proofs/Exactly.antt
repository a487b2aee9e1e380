-- `read_ring` answers that a ring is wholly blank, unreadable, or readable with its newest record at a place, exactly if its pages and slots are so. Assumes nothing.
use Prim.Native.Nat.{ℕ, zero, suc, ◌+◌, ◌-◌, ◌*◌, ◌≤◌, ◌<◌}
use mathlib.Core.Path.{◌≡◌, refl, sym, ap, subst, ◌∙◌}
use mathlib.Core.Bool.{Bool, true, false, cond, true≢false}
use mathlib.Core.List.{List, [], ◌∷◌}
use native.Mathlib.Omega.{arith}
use lib.Dec.{eqb, ltb}
use borrow.Author.Tests.{eqb-true, eqb-false, eq-eqb, ne_eqb, ltb-true, ltb-false}
use Rattle.octets.specs.Limits.{slot_length}
use Rattle.octets.specs.Octets.{blank}
use Rattle.octets.proofs.Laws.{blank_part}
use Rattle.ring.specs.Ring.{ring_wrong, slot_at, page_at, is_record, next_page, page_before, Newest, Blank, Unreadable, At, AtPending, used_from, records, filled, alone, followed, reading, read_ring}
use Rattle.ring.specs.Readable.{BlankPage, RecordsTo, WhollyBlank, OneUsed, TwoUsed, NotReadable, Reads}
use Rattle.ring.proofs.SizeLaws.{Sized, sized}
use Rattle.ring.proofs.TurnLaws.{next_laws, before_laws}
use Rattle.ring.proofs.PageLaws.{slot_in_page, length_page, length_slot}
use Rattle.ring.proofs.RecordLaws.{record_used}
use Rattle.ring.proofs.SlotLaws.{slots_blank, to_filled, from_filled}
use Rattle.ring.proofs.ReadLaws.{used_none, used_one, used_two}

-- ---- the list of used pages, taken apart

-- page p is the first used one of the `left` pages from `page` on, and `rest` are those behind it
pub record FirstUsed (ring : List ℕ) (slots page left p : ℕ) (rest : List ℕ) : Type 0 where
  pub low : page ≤ p
  pub high : p < page + left
  pub used : blank (page_at ring slots p) ≡ false
  pub skipped : (q : ℕ) → page ≤ q → q < p → blank (page_at ring slots q) ≡ true
  pub more : used_from ring slots (suc p) (page + left - suc p) ≡ rest

module _ (ring : List ℕ) (slots : ℕ) where
  none_used : (left page : ℕ) → used_from ring slots page left ≡ [] → (q : ℕ) → page ≤ q → q < page + left → blank (page_at ring slots q) ≡ true
  unfolding used_from
  none_used zero page e q l h = absurd (omega arith)
  none_used (suc left) page e q l h = go (blank (page_at ring slots page)) refl e (λ e. none_used left (suc page) e)
    where
      go : (t : Bool) → blank (page_at ring slots page) ≡ t → cond t (used_from ring slots (suc page) left) (page ∷ used_from ring slots (suc page) left) ≡ []
          → (used_from ring slots (suc page) left ≡ [] → (q : ℕ) → suc page ≤ q → q < suc page + left → blank (page_at ring slots q) ≡ true)
          → blank (page_at ring slots q) ≡ true
      go true b e more = at (eqb q page) refl
        where
          at : (t : Bool) → eqb q page ≡ t → blank (page_at ring slots q) ≡ true
          at true i = ap (λ (o : ℕ). blank (page_at ring slots o)) (eqb-true q page i) ∙ b
          at false i = more e q (omega (arith, eqb-false q page i)) (omega arith)
      go false b e more = let z : ◌≡◌ {A = ℕ} 0 1 = cc in absurd (omega arith)

  pub first_used : (left page p : ℕ) (rest : List ℕ) → used_from ring slots page left ≡ p ∷ rest → FirstUsed ring slots page left p rest
  unfolding used_from
  first_used zero page p rest e = let z : ◌≡◌ {A = ℕ} 0 1 = cc in absurd (omega arith)
  first_used (suc left) page p rest e = go (blank (page_at ring slots page)) refl e (λ e. first_used left (suc page) p rest e)
    where
      go : (t : Bool) → blank (page_at ring slots page) ≡ t → cond t (used_from ring slots (suc page) left) (page ∷ used_from ring slots (suc page) left) ≡ p ∷ rest
          → (used_from ring slots (suc page) left ≡ p ∷ rest → FirstUsed ring slots (suc page) left p rest)
          → FirstUsed ring slots page (suc left) p rest
      go true b e more =
          let f : FirstUsed ring slots (suc page) left p rest = more e in
          let n : page + suc left - suc p ≡ suc page + left - suc p = omega arith in
          record {
            low = omega (arith, f.low);
            high = omega (arith, f.high);
            used = f.used;
            skipped = λ q l h. skip f q l h (eqb q page) refl;
            more = ap (used_from ring slots (suc p)) n ∙ f.more;
          }
        where
          skip : FirstUsed ring slots (suc page) left p rest → (q : ℕ) → page ≤ q → q < p → (t : Bool) → eqb q page ≡ t → blank (page_at ring slots q) ≡ true
          skip f q l h true i = ap (λ (o : ℕ). blank (page_at ring slots o)) (eqb-true q page i) ∙ b
          skip f q l h false i = f.skipped q (omega (arith, eqb-false q page i)) h
      go false b e more =
          let i : page ≡ p = cc in
          let r : used_from ring slots (suc page) left ≡ rest = cc in
          let n : page + suc left - suc p ≡ left = omega arith in
          record {
            low = omega arith;
            high = omega arith;
            used = ap (λ (o : ℕ). blank (page_at ring slots o)) (sym i) ∙ b;
            skipped = λ q l h. absurd (omega arith);
            more = rw (n, ← i) r;
          }

-- ---- pages, slot by slot

module _ {pages slots : ℕ} {ring : List ℕ} (z : Sized pages slots ring) (p : ℕ) (h : p < pages) where
  abbrev page : List ℕ
  page = page_at ring slots p

  to_blank_page : blank page ≡ true → BlankPage ring slots p
  to_blank_page b s k = ap blank (slot_in_page ring slots p s k) ∙ blank_part page (slot_length * s) slot_length b

  from_blank_page : BlankPage ring slots p → blank page ≡ true
  from_blank_page b = slots_blank slots page (length_page z p h) (λ s k. ap blank (sym (slot_in_page ring slots p s k)) ∙ b s k)

  from_used_page : (BlankPage ring slots p → ⊥) → blank page ≡ false
  from_used_page n = go (blank page) refl
    where
      go : (t : Bool) → blank page ≡ t → t ≡ false
      go true b = absurd (n (to_blank_page b))
      go false b = refl

  to_records : (k : ℕ) → filled page slots k ≡ true → RecordsTo ring pages slots p (k - 1)
  to_records k e =
      let f = from_filled slots page (length_page z p h) k e in
      record {
        page_in = h;
        slot_in = omega (arith, f.some, f.within);
        are_records = λ s l. ap is_record (slot_in_page ring slots p s (omega (arith, f.some, f.within))) ∙ f.are_records s (omega (arith, f.some));
        rest_blank = λ s l m. ap blank (slot_in_page ring slots p s m) ∙ f.rest_blank s (omega arith) m;
      }

module _ {pages slots : ℕ} {ring : List ℕ} {p s : ℕ} (z : Sized pages slots ring) (r : RecordsTo ring pages slots p s) where
  from_records : filled (page_at ring slots p) slots (s + 1) ≡ true
  from_records =
      to_filled slots (page_at ring slots p) (length_page z p r.page_in) (s + 1) (omega arith) (omega (arith, r.slot_in))
      (λ k l. ap is_record (sym (slot_in_page ring slots p k (omega (arith, r.slot_in)))) ∙ r.are_records k (omega arith))
      (λ k l m. ap blank (sym (slot_in_page ring slots p k m)) ∙ r.rest_blank k (omega arith) m)

  records_number_is : records (page_at ring slots p) slots ≡ s + 1
  records_number_is = (from_filled slots (page_at ring slots p) (length_page z p r.page_in) (s + 1) from_records).number

  records_in_use : blank (page_at ring slots p) ≡ false
  records_in_use = from_used_page z p r.page_in (λ b. no (b 0 (omega (arith, r.slot_in))))
    where
      first : blank (slot_at ring slots p 0) ≡ false
      first = record_used (slot_at ring slots p 0) (length_slot z p 0 r.page_in (omega (arith, r.slot_in))) (r.are_records 0 (omega arith))

      no : blank (slot_at ring slots p 0) ≡ true → ⊥
      no b = true≢false (sym b ∙ first)

-- ---- pages and slots that are so are read so

module _ {pages slots : ℕ} {ring : List ℕ} (z : Sized pages slots ring) where
  from_wholly_blank : WhollyBlank ring pages slots → read_ring ring pages slots ≡ Blank
  unfolding read_ring reading
  from_wholly_blank b = rw (used_none ring slots 0 pages (λ q l u. from_blank_page z q (omega arith) (b q (omega arith))))

  from_one_used : (p s : ℕ) → OneUsed ring pages slots p s → read_ring ring pages slots ≡ At p s
  unfolding read_ring reading alone
  from_one_used p s o =
      let k : records (page_at ring slots p) slots ≡ s + 1 = records_number_is z o.newest in
      let s' : records (page_at ring slots p) slots - 1 ≡ s = omega arith in
      rw (
        used_one ring slots pages p o.newest.page_in (records_in_use z o.newest) (λ q h n. from_blank_page z q h (o.others_blank q h n)),
        ap (filled (page_at ring slots p) slots) k ∙ from_records z o.newest,
        s',
      )

  from_followed : (p q : ℕ) → RecordsTo ring pages slots p 0 → followed ring slots q p ≡ AtPending p q
  unfolding followed
  from_followed p q r = rw (from_records z r)

  from_lower : (p q : ℕ) → p ≡ next_page pages q → reading ring pages slots (q ∷ p ∷ []) ≡ followed ring slots q p
  unfolding reading
  from_lower p q e = rw (eq-eqb p (next_page pages q) e)

  from_around : (p q : ℕ) → p ≡ next_page pages q → (q ≡ next_page pages p → ⊥) → reading ring pages slots (p ∷ q ∷ []) ≡ followed ring slots q p
  unfolding reading
  from_around p q e n = rw (ne_eqb q (next_page pages p) n, eq-eqb p (next_page pages q) e)

  from_two_used : (p q : ℕ) → TwoUsed ring pages slots p q → read_ring ring pages slots ≡ AtPending p q
  unfolding read_ring
  from_two_used p q o = go (ltb q p) refl
    where
      used : blank (page_at ring slots q) ≡ false
      used = from_used_page z q o.pending_in o.pending_used

      apart : q ≡ next_page pages p → ⊥
      apart e =
          let n = next_laws pages q z.numbers.some_pages o.pending_in in
          let b = before_laws pages p z.numbers.some_pages o.newest.page_in in
          b.apart (ap (page_before pages) o.follows ∙ n.back ∙ e)

      unequal : q ≡ p → ⊥
      unequal e = (next_laws pages q z.numbers.some_pages o.pending_in).other (sym o.follows ∙ sym e)

      go : (t : Bool) → ltb q p ≡ t → read_ring ring pages slots ≡ AtPending p q
      go true l =
          ap (reading ring pages slots) (used_two ring slots pages q p (ltb-true q p l) o.newest.page_in used (records_in_use z o.newest)
          (λ r h x y. from_blank_page z r h (o.others_blank r h y x)))
          ∙ from_lower p q o.follows ∙ from_followed p q o.newest
      go false l =
          ap (reading ring pages slots) (used_two ring slots pages p q (omega (arith, ltb-false q p l, unequal)) o.pending_in (records_in_use z o.newest) used
          (λ r h x y. from_blank_page z r h (o.others_blank r h x y)))
          ∙ from_around p q o.follows apart ∙ from_followed p q o.newest

-- ---- what is read is so

-- what each answer but `Unreadable` says
abbrev Says : List ℕ → ℕ → ℕ → Newest → Type 0
Says ring pages slots Blank = WhollyBlank ring pages slots
Says ring pages slots Unreadable = Unit {0}
Says ring pages slots (At p s) = OneUsed ring pages slots p s
Says ring pages slots (AtPending p q) = TwoUsed ring pages slots p q

-- pages p and q are used, and no other
record Pair (ring : List ℕ) (pages slots p q : ℕ) : Type 0 where
  p_in : p < pages
  q_in : q < pages
  p_used : blank (page_at ring slots p) ≡ false
  q_used : blank (page_at ring slots q) ≡ false
  others : (o : ℕ) → o < pages → (o ≡ p → ⊥) → (o ≡ q → ⊥) → BlankPage ring slots o

module _ {pages slots : ℕ} {ring : List ℕ} (z : Sized pages slots ring) where
  says_none : used_from ring slots 0 pages ≡ [] → WhollyBlank ring pages slots
  says_none e p h = to_blank_page z p h (none_used ring slots pages 0 e p (omega arith) (omega arith))

  says_one : (p : ℕ) → used_from ring slots 0 pages ≡ p ∷ [] → Says ring pages slots (alone ring slots p)
  unfolding alone
  says_one p e = go (filled (page_at ring slots p) slots k) refl
    where
      k : ℕ
      k = records (page_at ring slots p) slots

      f : FirstUsed ring slots 0 pages p []
      f = first_used ring slots pages 0 p [] e

      h : p < pages
      h = omega (arith, f.high)

      behind : (o : ℕ) → suc p ≤ o → o < pages → blank (page_at ring slots o) ≡ true
      behind o l m = none_used ring slots (0 + pages - suc p) (suc p) f.more o l (omega (arith, f.high))

      others : (o : ℕ) → o < pages → (o ≡ p → ⊥) → (t : Bool) → ltb o p ≡ t → BlankPage ring slots o
      others o l n true b = to_blank_page z o l (f.skipped o (omega arith) (ltb-true o p b))
      others o l n false b = to_blank_page z o l (behind o (omega (arith, ltb-false o p b)) l)

      go : (t : Bool) → filled (page_at ring slots p) slots k ≡ t → Says ring pages slots (cond t (At p (k - 1)) Unreadable)
      go true b = record { newest = to_records z p h k b; others_blank = λ o l n. others o l n (ltb o p) refl }
      go false b = tt

  pair : (p q : ℕ) → used_from ring slots 0 pages ≡ p ∷ q ∷ [] → Pair ring pages slots p q
  pair p q e = record {
    p_in = omega (arith, f.high);
    q_in = omega (arith, f.high, g.high);
    p_used = f.used;
    q_used = g.used;
    others = λ o l m n. others o l m n (ltb o p) refl (ltb o q) refl;
  }
    where
      f : FirstUsed ring slots 0 pages p (q ∷ [])
      f = first_used ring slots pages 0 p (q ∷ []) e

      g : FirstUsed ring slots (suc p) (0 + pages - suc p) q []
      g = first_used ring slots (0 + pages - suc p) (suc p) q [] f.more

      others : (o : ℕ) → o < pages → (o ≡ p → ⊥) → (o ≡ q → ⊥) → (t : Bool) → ltb o p ≡ t → (u : Bool) → ltb o q ≡ u → BlankPage ring slots o
      others o l m n true b u c = to_blank_page z o l (f.skipped o (omega arith) (ltb-true o p b))
      others o l m n false b true c = to_blank_page z o l (g.skipped o (omega (arith, ltb-false o p b)) (ltb-true o q c))
      others o l m n false b false c =
          to_blank_page z o l
          (none_used ring slots (suc p + (0 + pages - suc p) - suc q) (suc q) g.more o (omega (arith, ltb-false o q c)) (omega (arith, f.high, g.high)))

  in_use : (p : ℕ) → p < pages → blank (page_at ring slots p) ≡ false → BlankPage ring slots p → ⊥
  in_use p h u b = true≢false (sym (from_blank_page z p h b) ∙ u)

  says_followed : (p q : ℕ) → Pair ring pages slots p q → p ≡ next_page pages q → Says ring pages slots (followed ring slots q p)
  unfolding followed
  says_followed p q u e = go (filled (page_at ring slots p) slots 1) refl
    where
      go : (t : Bool) → filled (page_at ring slots p) slots 1 ≡ t → Says ring pages slots (cond t (AtPending p q) Unreadable)
      go true b = record {
        newest = to_records z p u.p_in 1 b;
        pending_in = u.q_in;
        pending_used = in_use q u.q_in u.q_used;
        follows = e;
        others_blank = u.others;
      }
      go false b = tt

  says_two : (p q : ℕ) → Pair ring pages slots p q → Says ring pages slots (reading ring pages slots (p ∷ q ∷ []))
  unfolding reading
  says_two p q u = go (eqb q (next_page pages p)) refl (eqb p (next_page pages q)) refl
    where
      swapped : Pair ring pages slots q p
      swapped = record { p_in = u.q_in; q_in = u.p_in; p_used = u.q_used; q_used = u.p_used; others = λ o l m n. u.others o l n m }

      go : (t : Bool) → eqb q (next_page pages p) ≡ t → (s : Bool) → eqb p (next_page pages q) ≡ s
          → Says ring pages slots (cond t (followed ring slots p q) (cond s (followed ring slots q p) Unreadable))
      go true e s f = says_followed q p swapped (eqb-true q (next_page pages p) e)
      go false e true f = says_followed p q u (eqb-true p (next_page pages q) f)
      go false e false f = tt

  says : Says ring pages slots (read_ring ring pages slots)
  unfolding read_ring reading
  says = go (used_from ring slots 0 pages) refl
    where
      go : (u : List ℕ) → used_from ring slots 0 pages ≡ u → Says ring pages slots (reading ring pages slots u)
      go [] e = says_none e
      go (p ∷ []) e = says_one p e
      go (p ∷ q ∷ []) e = says_two p q (pair p q e)
      go (p ∷ q ∷ r ∷ more) e = tt

  -- ---- both ways

  not_readable : read_ring ring pages slots ≡ Unreadable → NotReadable ring pages slots
  not_readable e = record {
    not_blank = λ b. let f : read_ring ring pages slots ≡ Blank = from_wholly_blank z b in let i : ◌≡◌ {A = ℕ} 0 1 = cc in omega arith;
    not_one = λ p s o. let f : read_ring ring pages slots ≡ At p s = from_one_used z p s o in let i : ◌≡◌ {A = ℕ} 0 1 = cc in omega arith;
    not_two = λ p q o. let f : read_ring ring pages slots ≡ AtPending p q = from_two_used z p q o in let i : ◌≡◌ {A = ℕ} 0 1 = cc in omega arith;
  }

  is_so : (n : Newest) → read_ring ring pages slots ≡ n → Reads ring pages slots n
  is_so Blank e = subst (Says ring pages slots) e says
  is_so Unreadable e = not_readable e
  is_so (At p s) e = subst (Says ring pages slots) e says
  is_so (AtPending p q) e = subst (Says ring pages slots) e says

  read_so : (n : Newest) → Reads ring pages slots n → read_ring ring pages slots ≡ n
  read_so Blank r = from_wholly_blank z r
  read_so (At p s) r = from_one_used z p s r
  read_so (AtPending p q) r = from_two_used z p q r
  read_so Unreadable r = go (read_ring ring pages slots) says
    where
      go : (n : Newest) → Says ring pages slots n → n ≡ Unreadable
      go Blank s = absurd (r.not_blank s)
      go Unreadable s = refl
      go (At p q) s = absurd (r.not_one p q s)
      go (AtPending p q) s = absurd (r.not_two p q s)

-- the law
pub reads_exactly : (pages slots : ℕ) (ring : List ℕ) → ring_wrong pages slots ring ≡ false → (n : Newest)
    → (read_ring ring pages slots ≡ n → Reads ring pages slots n) × (Reads ring pages slots n → read_ring ring pages slots ≡ n)
reads_exactly pages slots ring w n = (is_so (sized pages slots ring w) n, read_so (sized pages slots ring w) n)
