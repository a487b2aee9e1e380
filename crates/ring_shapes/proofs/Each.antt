-- The rings of a size together: the theorem `each_shape`. Assumes nothing.
use Prim.Native.Nat.{ℕ, zero, suc, ◌≤◌, ◌<◌}
use mathlib.Core.Path.{◌≡◌, refl, sym, ap, subst, ◌∙◌}
use mathlib.Core.Bool.{false, true≢false}
use mathlib.Core.List.{List}
use native.Mathlib.Omega.{arith}
use lib.ListN.{length}
use Rattle.octets.specs.Limits.{pages_least, pages_limit, slots_least, slots_limit}
use Rattle.ring.specs.Ring.{Newest, Blank, Unreadable, At, AtPending, ring_wrong, read_ring, is_blank, is_unreadable, Within}
use Rattle.ring.proofs.SizeLaws.{Counts}
use Rattle.ring.proofs.NewestLaws.{read_within, pending_before}
use Rattle.ring_shapes.specs.Shapes.{shapes, ring_number}
use Rattle.ring_shapes.specs.Each.{number_reads, Once, EachShape}
use Rattle.ring_shapes.proofs.PlaceLaws.{number_of, in_all, number_is, number_in_all, place_of}
use Rattle.ring_shapes.proofs.RingLaws.{page_reading, shape_sizes, shape_reads, none_sizes, none_reads}

-- no two shapes are read alike
alike : (pages q i p j : ℕ) → page_reading pages q i ≡ page_reading pages p j → (q ≡ p) × (i ≡ j)
alike pages q zero p zero e = (cc, refl)
alike pages q zero p (suc s) e = let z : ◌≡◌ {A = ℕ} 0 1 = cc in absurd (omega arith)
alike pages q (suc t) p zero e = let z : ◌≡◌ {A = ℕ} 0 1 = cc in absurd (omega arith)
alike pages q (suc t) p (suc s) e = let f : t ≡ s = cc in (cc, ap suc f)

module _ {pages slots : ℕ} (c : Counts pages slots) where
  -- ---- each number

  none_number : number_reads pages slots 0 ≡ Blank
  unfolding ring_number shapes
  none_number = none_reads c

  none_number_sizes : ring_wrong pages slots (ring_number pages slots 0) ≡ false
  unfolding ring_number shapes
  none_number_sizes = none_sizes c

  module _ (p j : ℕ) (h : p < pages) (b : j ≤ slots) where
    number_sizes : ring_wrong pages slots (ring_number pages slots (number_of slots p j)) ≡ false
    number_sizes = ap (ring_wrong pages slots) (number_is pages slots p j h b) ∙ shape_sizes c p j h b

    number_read : number_reads pages slots (number_of slots p j) ≡ page_reading pages p j
    number_read = ap (λ (r : List ℕ). read_ring r pages slots) (number_is pages slots p j h b) ∙ shape_reads c p j h b

  -- what holds of number 0 and of each page's shapes holds of every number
  each : (P : ℕ → Type 0) → P 0 → ((p j : ℕ) → p < pages → j ≤ slots → P (number_of slots p j)) → (n : ℕ) → n < length (shapes pages slots) → P n
  each P none some zero h = none
  each P none some (suc m) h =
      let a = place_of pages slots (suc m) (omega arith) h in
      subst P (sym a.number) (some _ _ a.page_in a.shape_in)

  -- ---- each reading

  same_number : (q i p j : ℕ) → page_reading pages q i ≡ page_reading pages p j → number_of slots q i ≡ number_of slots p j
  same_number q i p j e =
      let f = alike pages q i p j e in
      λ k. number_of slots (f.0 k) (f.1 k)

  not_blank : (p j : ℕ) → (is_blank (page_reading pages p j) ≡ false) × (is_unreadable (page_reading pages p j) ≡ false)
  not_blank p zero = (refl, refl)
  not_blank p (suc s) = (refl, refl)

  blank_once : Once pages slots Blank
  blank_once = record {
    number = 0;
    there = omega (arith, in_all pages slots);
    read_so = none_number;
    no_other = each (λ n. number_reads pages slots n ≡ Blank → n ≡ 0) (λ _. refl)
        (λ p j h b e. absurd (true≢false (ap is_blank (sym e ∙ number_read p j h b) ∙ (not_blank p j).0)));
  }

  once : (p j : ℕ) → p < pages → j ≤ slots → Once pages slots (page_reading pages p j)
  once p j h b = record {
    number = number_of slots p j;
    there = number_in_all pages slots p j h b;
    read_so = number_read p j h b;
    no_other = each (λ n. number_reads pages slots n ≡ page_reading pages p j → n ≡ number_of slots p j)
        (λ e. absurd (true≢false (ap is_blank (sym none_number ∙ e) ∙ (not_blank p j).0)))
        (λ q i l f e. same_number q i p j (sym (number_read q i l f) ∙ e));
  }

  sizes : (n : ℕ) → n < length (shapes pages slots) → ring_wrong pages slots (ring_number pages slots n) ≡ false
  sizes = each (λ n. ring_wrong pages slots (ring_number pages slots n) ≡ false) none_number_sizes number_sizes

  every : (ring : List ℕ) → ring_wrong pages slots ring ≡ false → is_unreadable (read_ring ring pages slots) ≡ false
      → Once pages slots (read_ring ring pages slots)
  every ring w u = go (read_ring ring pages slots) refl u (read_within pages slots ring w)
    where
      go : (n : Newest) → read_ring ring pages slots ≡ n → is_unreadable n ≡ false → Within pages slots n → Once pages slots n
      go Blank e u i = blank_once
      go Unreadable e u i = absurd (true≢false u)
      go (At p s) e u i = once p (suc s) i.page_in i.slot_in
      go (AtPending p q) e u i =
          subst (λ (o : ℕ). Once pages slots (AtPending p o)) (sym (pending_before pages slots ring w p q e).1) (once p 0 i.page_in (omega arith))

  each_of : EachShape pages slots
  each_of = record {
    in_all = in_all pages slots;
    sizes = sizes;
    blank = none_number;
    readable = λ n z h. each (λ n. 0 < n → (is_blank (number_reads pages slots n) ≡ false) × (is_unreadable (number_reads pages slots n) ≡ false))
        (λ z. absurd (omega arith)) (λ p j h b _. subst (λ (m : Newest). (is_blank m ≡ false) × (is_unreadable m ≡ false)) (sym (number_read p j h b)) (not_blank p j)) n h z;
    each_alone = λ p s h b. once p (suc s) h b;
    each_pending = λ p h. once p 0 h (omega arith);
    pending_before = λ n p q h e. (pending_before pages slots (ring_number pages slots n) (sizes n h) p q e).1;
    every = every;
  }

-- the theorem
pub each_shape : (pages slots : ℕ) → pages_least ≤ pages → pages ≤ pages_limit → slots_least ≤ slots → slots ≤ slots_limit → EachShape pages slots
each_shape pages slots p P s S = each_of (record { some_pages = p; few_pages = P; some_slots = s; few_slots = S })
