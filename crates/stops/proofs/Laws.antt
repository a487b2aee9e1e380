-- Laws of `first_of`: conditions tried one at a time, and what is known where none holds. Assumes nothing.
use Prim.Native.Nat.{ℕ, ◌-◌, ◌<◌}
use mathlib.Core.Path.{◌≡◌, refl, sym, ap, ◌∙◌}
use mathlib.Core.Bool.{Bool, true, false, cond, ◌||◌}
use mathlib.Core.Option.{Option, none, some}
use mathlib.Core.List.{List, [], ◌∷◌, ◌++◌}
use native.Mathlib.Omega.{arith}
use lib.Dec.{lit<}
use lib.ListN.{get_or}
use Rattle.stops.specs.Stops.{first_of, then_stop}
use Rattle.stops.specs.View.{stop_number}
use Rattle.stops.specs.declared.Stop.{Stop}
use Rattle.stops.specs.declared.Stop.TheVariants.{RingSize, FramSize, KeyNonceTagSize, BufferSize, RingInUse, RingBlank, RingUnreadable, StaleSession, PagePending, NonceUsed, BadHead, TagDiffers, RestartLimit, BadJob, BadLine, BadChecksum, DataMisplaced, PacketTooLarge, NotFirstSave, BadTrace, BadEntries, NoOrder, BadList, BadKinds, BadValue, PastLastShape}

-- the conditions of a list tried in turn, from what was found before them
unfoldable pub tried : Option ℕ → List (ℕ × Bool) → Option ℕ
tried o [] = o
tried o (c ∷ more) = tried (then_stop o c.0 c.1) more

-- a stop stays
stays : (s : ℕ) (cs : List (ℕ × Bool)) → tried (some s) cs ≡ some s
unfolding tried
stays s [] = refl
stays s (c ∷ cs) = stays s cs

tried_cond : (b : Bool) (n : ℕ) (cs : List (ℕ × Bool)) → tried none cs ≡ first_of cs → tried (cond b (some n) none) cs ≡ cond b (some n) (first_of cs)
tried_cond true n cs e = stays n cs
tried_cond false n cs e = e

pub tried_first : (cs : List (ℕ × Bool)) → tried none cs ≡ first_of cs
unfolding tried first_of
tried_first [] = refl
tried_first (c ∷ cs) = tried_cond c.1 c.0 cs (tried_first cs)

-- a list in two stages: the second is tried where the first finds nothing
pub first_append : (xs ys : List (ℕ × Bool)) {o : Option ℕ} → first_of xs ≡ o → first_of (xs ++ ys) ≡ tried o ys
unfolding tried
first_append xs ys e = sym (tried_first (xs ++ ys)) ∙ split none xs ∙ ap (λ (o : Option ℕ). tried o ys) (tried_first xs ∙ e)
  where
    split : (o : Option ℕ) (xs : List (ℕ × Bool)) → tried o (xs ++ ys) ≡ tried (tried o xs) ys
    split o [] = refl
    split o (x ∷ xs) = split (then_stop o x.0 x.1) xs

-- a stop of the first stage stays
pub first_stays : (xs ys : List (ℕ × Bool)) {s : ℕ} → first_of xs ≡ some s → first_of (xs ++ ys) ≡ some s
first_stays xs ys {s} e = first_append xs ys e ∙ stays s ys

-- and where it finds nothing the second is all
pub first_passes : (xs ys : List (ℕ × Bool)) → first_of xs ≡ none → first_of (xs ++ ys) ≡ first_of ys
first_passes xs ys e = first_append xs ys e ∙ tried_first ys

-- no condition yet, and one condition more, tried behind a list
pub no_lines : none ≡ first_of []
unfolding first_of
no_lines = refl

pub one_more : (xs : List (ℕ × Bool)) (n : ℕ) (W w : Bool) (o o' : Option ℕ) → o ≡ first_of xs → w ≡ W → o' ≡ then_stop o n w → o' ≡ first_of (xs ++ ((n, W) ∷ []))
unfolding tried
one_more xs n W w o o' e x f = f ∙ (λ i. then_stop (e i) n (x i)) ∙ sym (first_append xs ((n, W) ∷ []) refl)

-- a condition that never holds may be left out
pub skipped : (xs ys : List (ℕ × Bool)) (n : ℕ) → first_of (xs ++ (n, false) ∷ ys) ≡ first_of (xs ++ ys)
unfolding first_of
skipped [] ys n = refl
skipped (x ∷ xs) ys n = ap (λ (o : Option ℕ). cond x.1 (some x.0) o) (skipped xs ys n)

pub same_line : (xs ys : List (ℕ × Bool)) (n : ℕ) (a b : Bool) → a ≡ b → first_of (xs ++ (n, a) ∷ ys) ≡ first_of (xs ++ (n, b) ∷ ys)
same_line xs ys n a b e = ap (λ (t : Bool). first_of (xs ++ (n, t) ∷ ys)) e

-- a last condition that holds only where an earlier one does
pub last_skipped : (xs : List (ℕ × Bool)) (n : ℕ) (b : Bool) → (first_of xs ≡ none → b ≡ false) → first_of (xs ++ (n, b) ∷ []) ≡ first_of xs
unfolding tried
last_skipped xs n b f = first_append xs ((n, b) ∷ []) refl ∙ go (first_of xs) refl
  where
    go : (o : Option ℕ) → first_of xs ≡ o → tried o ((n, b) ∷ []) ≡ o
    go (some x) e = refl
    go none e = ap (λ (t : Bool). cond t (some n) none) (f e)

-- none of the conditions holds
abbrev pub Passes : List (ℕ × Bool) → Type 0
Passes [] = Unit {0}
Passes (c ∷ cs) = (c.1 ≡ false) × Passes cs

passes_cond : (b : Bool) (n : ℕ) {o : Option ℕ} → cond b (some n) o ≡ none → (b ≡ false) × (o ≡ none)
passes_cond true n e = let z : ◌≡◌ {A = ℕ} 0 1 = cc in absurd (omega arith)
passes_cond false n e = (refl, e)

pub passes : (cs : List (ℕ × Bool)) → first_of cs ≡ none → Passes cs
unfolding first_of
passes [] e = tt
passes (c ∷ cs) e =
    let p = passes_cond c.1 c.0 e in
    (p.0, passes cs p.1)

pub neither : (a b : Bool) → a || b ≡ false → (a ≡ false) × (b ≡ false)
neither true b e = let z : ◌≡◌ {A = ℕ} 0 1 = cc in absurd (omega arith)
neither false b e = (refl, e)

pub or_false : (a : Bool) → a || false ≡ a
or_false true = refl
or_false false = refl

-- the stops in the order of their numbers, from 1 on: no two have one number
stops : List Stop
stops =
    RingSize ∷ FramSize ∷ KeyNonceTagSize ∷ BufferSize ∷ RingInUse ∷ RingBlank ∷ RingUnreadable ∷ StaleSession ∷ PagePending ∷ NonceUsed
    ∷ BadHead ∷ TagDiffers ∷ RestartLimit ∷ BadJob ∷ BadLine ∷ BadChecksum ∷ DataMisplaced ∷ PacketTooLarge ∷ NotFirstSave ∷ BadTrace
    ∷ BadEntries ∷ NoOrder ∷ BadList ∷ BadKinds ∷ BadValue ∷ PastLastShape ∷ []

stop_of : ℕ → Stop
stop_of n = get_or stops (n - 1) RingSize

back : (s : Stop) → stop_of (stop_number s) ≡ s
unfolding stop_of stops
back RingSize = refl
back FramSize = refl
back KeyNonceTagSize = refl
back BufferSize = refl
back RingInUse = refl
back RingBlank = refl
back RingUnreadable = refl
back StaleSession = refl
back PagePending = refl
back NonceUsed = refl
back BadHead = refl
back TagDiffers = refl
back RestartLimit = refl
back BadJob = refl
back BadLine = refl
back BadChecksum = refl
back DataMisplaced = refl
back PacketTooLarge = refl
back NotFirstSave = refl
back BadTrace = refl
back BadEntries = refl
back NoOrder = refl
back BadList = refl
back BadKinds = refl
back BadValue = refl
back PastLastShape = refl

pub stop_number_injective : (s t : Stop) → stop_number s ≡ stop_number t → s ≡ t
stop_number_injective s t e = sym (back s) ∙ ap stop_of e ∙ back t

-- every number has at most two digits
pub stop_number_short : (s : Stop) → stop_number s < 100
stop_number_short RingSize = lit< tt
stop_number_short FramSize = lit< tt
stop_number_short KeyNonceTagSize = lit< tt
stop_number_short BufferSize = lit< tt
stop_number_short RingInUse = lit< tt
stop_number_short RingBlank = lit< tt
stop_number_short RingUnreadable = lit< tt
stop_number_short StaleSession = lit< tt
stop_number_short PagePending = lit< tt
stop_number_short NonceUsed = lit< tt
stop_number_short BadHead = lit< tt
stop_number_short TagDiffers = lit< tt
stop_number_short RestartLimit = lit< tt
stop_number_short BadJob = lit< tt
stop_number_short BadLine = lit< tt
stop_number_short BadChecksum = lit< tt
stop_number_short DataMisplaced = lit< tt
stop_number_short PacketTooLarge = lit< tt
stop_number_short NotFirstSave = lit< tt
stop_number_short BadTrace = lit< tt
stop_number_short BadEntries = lit< tt
stop_number_short NoOrder = lit< tt
stop_number_short BadList = lit< tt
stop_number_short BadKinds = lit< tt
stop_number_short BadValue = lit< tt
stop_number_short PastLastShape = lit< tt
