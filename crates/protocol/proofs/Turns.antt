-- A power-up's stops in either order. Assumes nothing.
use Prim.Native.Nat.{ℕ, ◌<◌}
use mathlib.Core.Path.{◌≡◌, refl, sym, ap, subst, ◌∙◌}
use mathlib.Core.Bool.{Bool, true, false, cond}
use mathlib.Core.Option.{Option, none, some}
use mathlib.Core.List.{List, [], ◌∷◌, ◌++◌}
use native.Mathlib.Omega.{arith}
use Rattle.stops.specs.Stops.{first_of}
use Rattle.stops.proofs.Laws.{tried, first_append, first_stays, first_passes}
use Rattle.protocol.specs.Types.{Order, NonceFirst, HalfFirst}
use Rattle.protocol.specs.Operations.{in_turn}

-- a nonce that is not used
pub new_in_turn : (o : Order) (half ys : List (ℕ × Bool)) (n : ℕ) {used : Bool} → used ≡ false → first_of (in_turn o (n, used) half ++ ys) ≡ first_of (half ++ ys)
unfolding first_of
new_in_turn o half ys n e = ap (λ (b : Bool). first_of (in_turn o (n, b) half ++ ys)) e ∙ left_out o half
  where
    left_out : (o : Order) (half : List (ℕ × Bool)) → first_of (in_turn o (n, false) half ++ ys) ≡ first_of (half ++ ys)
    left_out NonceFirst half = refl
    left_out HalfFirst [] = refl
    left_out HalfFirst (x ∷ half) = ap (λ (o : Option ℕ). cond x.1 (some x.0) o) (left_out HalfFirst half)

-- ---- the orders compared

-- what holds of every number of a list holds of the first that is given
abbrev pub Every : (ℕ → Type 0) → List (ℕ × Bool) → Type 0
Every P [] = Unit {0}
Every P (c ∷ cs) = P c.0 × Every P cs

pub first_every : (P : ℕ → Type 0) (cs : List (ℕ × Bool)) (x : ℕ) → Every P cs → first_of cs ≡ some x → P x
unfolding first_of
first_every P [] x p e = let z : ◌≡◌ {A = ℕ} 0 1 = cc in absurd (omega arith)
first_every P ((n, true) ∷ cs) x p e = let z : n ≡ x = cc in subst P z p.0
first_every P ((n, false) ∷ cs) x p e = first_every P cs x p.1 e

-- the conditions before, about the half and after, and the number of a used nonce
module _ (xs half ys : List (ℕ × Bool)) (n : ℕ) where
  abbrev stop : Order → Bool → Option ℕ
  stop o used = first_of (xs ++ (in_turn o (n, used) half ++ ys))

  pub same_stop : (used : Bool) → (stop NonceFirst used ≡ some n → (x : ℕ) → first_of half ≡ some x → ⊥) → stop HalfFirst used ≡ stop NonceFirst used
  unfolding first_of tried
  same_stop used apart = go (first_of xs) refl used apart
    where
      behind : (o : Option ℕ) → first_of half ≡ o → ((x : ℕ) → first_of half ≡ some x → ⊥) → first_of ((half ++ (n, true) ∷ []) ++ ys) ≡ some n
      behind (some x) e f = absurd (f x e)
      behind none e f = first_stays (half ++ (n, true) ∷ []) ys (first_append half ((n, true) ∷ []) e)

      go : (o : Option ℕ) → first_of xs ≡ o → (used : Bool) → (stop NonceFirst used ≡ some n → (x : ℕ) → first_of half ≡ some x → ⊥) → stop HalfFirst used ≡ stop NonceFirst used
      go (some s) e used f = first_stays xs (in_turn HalfFirst (n, used) half ++ ys) e ∙ sym (first_stays xs (in_turn NonceFirst (n, used) half ++ ys) e)
      go none e false f = first_passes xs (in_turn HalfFirst (n, false) half ++ ys) e ∙ new_in_turn HalfFirst half ys n refl ∙ sym (first_passes xs (in_turn NonceFirst (n, false) half ++ ys) e)
      go none e true f =
          let older = first_passes xs (in_turn NonceFirst (n, true) half ++ ys) e in
          first_passes xs (in_turn HalfFirst (n, true) half ++ ys) e ∙ behind (first_of half) refl (f older) ∙ sym older

  pub half_stop : (used : Bool) (x : ℕ) → Every (λ k. k < n) xs → stop NonceFirst used ≡ some n → first_of half ≡ some x → stop HalfFirst used ≡ some x
  half_stop used x below ten e = go (first_of xs) refl
    where
      go : (o : Option ℕ) → first_of xs ≡ o → stop HalfFirst used ≡ some x
      go (some s) f = absurd (let g = first_stays xs (in_turn NonceFirst (n, used) half ++ ys) f in let z : s ≡ n = cc in omega (arith, first_every (λ k. k < n) xs s below f))
      go none f = first_passes xs (in_turn HalfFirst (n, used) half ++ ys) f ∙ first_stays (half ++ (n, used) ∷ []) ys (first_stays half ((n, used) ∷ []) e)

-- ---- either order

-- where no condition of two stages holds, none of either does
none_append : (xs ys : List (ℕ × Bool)) → first_of (xs ++ ys) ≡ none → (first_of xs ≡ none) × (first_of ys ≡ none)
unfolding first_of
none_append [] ys e = (refl, e)
none_append ((n, true) ∷ xs) ys e = let z : ◌≡◌ {A = ℕ} 0 1 = cc in absurd (omega arith)
none_append ((n, false) ∷ xs) ys e = none_append xs ys e

-- what does not stop in one order does not stop in the other
pub none_in_turn : (xs half ys : List (ℕ × Bool)) (nonce : ℕ × Bool) (o : Order) → first_of (xs ++ (in_turn o nonce half ++ ys)) ≡ none → first_of (xs ++ (nonce ∷ half ++ ys)) ≡ none
none_in_turn xs half ys nonce NonceFirst e = e
none_in_turn xs half ys nonce HalfFirst e =
    let p = none_append xs ((half ++ nonce ∷ []) ++ ys) e in
    let q = none_append (half ++ nonce ∷ []) ys p.1 in
    let r = none_append half (nonce ∷ []) q.0 in
    first_passes xs (nonce ∷ half ++ ys) p.0 ∙ first_passes (nonce ∷ []) (half ++ ys) r.1 ∙ first_passes half ys r.0 ∙ q.1

-- a condition that holds ends the list
pub ends_there : (xs ys : List (ℕ × Bool)) (n : ℕ) (b : Bool) → b ≡ true → first_of (xs ++ (n, b) ∷ ys) ≡ first_of (xs ++ (n, true) ∷ [])
unfolding first_of
ends_there [] ys n b e = ap (λ (t : Bool). cond t (some n) (first_of ys)) e
ends_there (x ∷ xs) ys n b e = ap (λ (o : Option ℕ). cond x.1 (some x.0) o) (ends_there xs ys n b e)

-- and so does the first of those about the half, in either order
pub ends_in_turn : (xs half ys : List (ℕ × Bool)) (nonce : ℕ × Bool) (o : Order) (n : ℕ) (b : Bool) → b ≡ true
    → first_of (xs ++ (in_turn o nonce ((n, b) ∷ half) ++ ys)) ≡ first_of (xs ++ in_turn o nonce ((n, true) ∷ []))
unfolding first_of
ends_in_turn [] half ys nonce NonceFirst n b e = ends_there (nonce ∷ []) (half ++ ys) n b e
ends_in_turn [] half ys nonce HalfFirst n b e = ap (λ (t : Bool). cond t (some n) (first_of ((half ++ nonce ∷ []) ++ ys))) e
ends_in_turn (x ∷ xs) half ys nonce o n b e = ap (λ (p : Option ℕ). cond x.1 (some x.0) p) (ends_in_turn xs half ys nonce o n b e)

-- so the first is some
pub stops : (xs : List (ℕ × Bool)) (n : ℕ) → (x : ℕ) × (first_of (xs ++ (n, true) ∷ []) ≡ some x)
unfolding first_of
stops [] n = (n, refl)
stops ((m, true) ∷ xs) n = (m, refl)
stops ((m, false) ∷ xs) n = stops xs n

pub stops_in_turn : (xs : List (ℕ × Bool)) (nonce : ℕ × Bool) (o : Order) (n : ℕ) → (x : ℕ) × (first_of (xs ++ in_turn o nonce ((n, true) ∷ [])) ≡ some x)
unfolding first_of
stops_in_turn [] nonce NonceFirst n = stops (nonce ∷ []) n
stops_in_turn [] nonce HalfFirst n = (n, refl)
stops_in_turn ((m, true) ∷ xs) nonce o n = (m, refl)
stops_in_turn ((m, false) ∷ xs) nonce o n = stops_in_turn xs nonce o n
