-- The sessions: none is left out, they stand in order, each once, and how many they are.
use mathlib.Core.Path.{◌≡◌, refl, sym, ap, ◌∙◌, subst}
use mathlib.Core.Logic.{◌⊎◌, inl, inr}
use mathlib.Core.List.Memᴰ
use mathlib.Core.List.{List, Memᴰ}
use mathlib.Core.List.{[], ◌∷◌, ◌++◌, map}
use Prim.Native.Nat.{ℕ, zero, suc, ◌+◌, ◌*◌, ◌≤◌, ◌<◌}
use native.Mathlib.Omega.{arith}
use native.Mathlib.Nat.{mul_assoc, mul-one, suc-mul}
use lib.ListN.{length, length-append}
use Rattle.short_sessions.specs.Sessions.{Before, EachOnce, InOrder, Lower, NoOther, NoneLeftOut, Number, Pairwise, Within, beginning_at, of_length, sessions}

abbrev on : ℕ → List ℕ → List ℕ
on p s = p ∷ s

-- None left out -------------------------------------------------------------------------------

beginning-in : (p count q : ℕ) (s : List ℕ) (l : List (List ℕ)) → p ≤ q → q < p + count → Memᴰ s l → Memᴰ (q ∷ s) (beginning_at p count l)
unfolding beginning_at
beginning-in p zero q s l a b m = absurd (omega arith)
beginning-in p (suc count) q s l a b m = go (split p q a) (λ c. beginning-in (suc p) count q s l c (omega arith) m)
  where
    split : (p q : ℕ) → p ≤ q → (q ≡ p) ⊎ (suc p ≤ q)
    split zero zero h = inl refl
    split zero (suc q) h = inr (omega arith)
    split (suc p) zero h = absurd (omega arith)
    split (suc p) (suc q) h = elim (split p q (omega arith)) [ inl e ↦ inl (ap suc e) | inr g ↦ inr (omega arith) ]

    go : (q ≡ p) ⊎ (suc p ≤ q) → (suc p ≤ q → Memᴰ (q ∷ s) (beginning_at (suc p) count l)) → Memᴰ (q ∷ s) (beginning_at p (suc count) l)
    go (inl e) later = Memᴰ.append_left (beginning_at (suc p) count l) (Memᴰ.cast (ap (λ (x : ℕ). x ∷ s) e) (Memᴰ.map (on p) m))
    go (inr c) later = Memᴰ.append_right (map (on p) l) (later c)

length-in : (k : ℕ) (s : List ℕ) → Within k s → Memᴰ s (of_length k (length s))
unfolding of_length Within
length-in k [] w = Memᴰ.head refl
length-in k (p ∷ s) w = beginning-in 0 k p s (of_length k (length s)) (omega arith) (let h = w.0 in omega arith) (length-in k s w.1)

pub none-left-out : NoneLeftOut
unfolding sessions
none-left-out k s few w = go (length s) few (length-in k s w)
  where
    go : (n : ℕ) → n ≤ 3 → Memᴰ s (of_length k n) → Memᴰ s (sessions k)
    go zero h m = Memᴰ.append_left _ m
    go (suc zero) h m = Memᴰ.append_right (of_length k 0) (Memᴰ.append_left _ m)
    go (suc (suc zero)) h m = Memᴰ.append_right (of_length k 0) (Memᴰ.append_right (of_length k 1) (Memᴰ.append_left _ m))
    go (suc (suc (suc zero))) h m = Memᴰ.append_right (of_length k 0) (Memᴰ.append_right (of_length k 1) (Memᴰ.append_right (of_length k 2) m))
    go (suc (suc (suc (suc n)))) h m = absurd (omega arith)

-- and no other --------------------------------------------------------------------------------

-- a session of `beginning_at`
record Begins (p count : ℕ) (l : List (List ℕ)) (t : List ℕ) : Type 0 where
  place : ℕ
  others : List ℕ
  is : t ≡ place ∷ others
  from : p ≤ place
  to : place < p + count
  others-in : Memᴰ others l

beginning-out : (p count : ℕ) (l : List (List ℕ)) (t : List ℕ) → Memᴰ t (beginning_at p count l) → Begins p count l t
unfolding beginning_at
beginning-out p zero l t m = absurd (Memᴰ.not-nil m)
beginning-out p (suc count) l t m = go (Memᴰ.append_cases (map (on p) l) m) (λ n. beginning-out (suc p) count l t n)
  where
    go : Memᴰ t (map (on p) l) ⊎ Memᴰ t (beginning_at (suc p) count l) → (Memᴰ t (beginning_at (suc p) count l) → Begins (suc p) count l t) → Begins p (suc count) l t
    go (inl n) later = let x = Memᴰ.of_map (on p) l n in record { place = p; others = x.0; is = sym x.2; from = omega arith; to = omega arith; others-in = x.1 }
    go (inr n) later =
        let x = later n in
        record { place = x.place; others = x.others; is = x.is; from = (let h = x.from in omega arith); to = (let h = x.to in omega arith); others-in = x.others-in }

length-out : (k n : ℕ) (s : List ℕ) → Memᴰ s (of_length k n) → (length s ≡ n) × Within k s
unfolding of_length Within
length-out k zero s m =
    let e : s ≡ [] = elim (Memᴰ.cases_cons m) [ inl e ↦ e | inr n ↦ absurd (Memᴰ.not-nil n) ] in
    (ap length e, subst (Within k) (sym e) tt)
length-out k (suc n) s m =
    let b = beginning-out 0 k (of_length k n) s m in
    let o = length-out k n b.others b.others-in in
    (ap length b.is ∙ ap suc o.0, subst (Within k) (sym b.is) (let h = b.to in omega arith, o.1))

-- the sessions' lengths, from one length to another
abbrev Long : (k from to : ℕ) → List ℕ → Type 0
Long k from to s = (from ≤ length s) × (length s ≤ to) × Within k s

-- those of one length, and then longer ones
long-out : (k n to : ℕ) (l : List (List ℕ)) (s : List ℕ) → n < to → ((t : List ℕ) → Memᴰ t l → Long k (suc n) to t) → Memᴰ s (of_length k n ++ l) → Long k n to s
long-out k n to l s h more m = go (Memᴰ.append_cases (of_length k n) m)
  where
    go : Memᴰ s (of_length k n) ⊎ Memᴰ s l → Long k n to s
    go (inl x) = let y = length-out k n s x in (omega arith, omega arith, y.1)
    go (inr x) = let y = more s x in (omega arith, y.1, y.2)

long3 : (k : ℕ) (s : List ℕ) → Memᴰ s (of_length k 3) → Long k 3 3 s
long3 k s m = let y = length-out k 3 s m in (omega arith, omega arith, y.1)

long2 : (k : ℕ) (s : List ℕ) → Memᴰ s (of_length k 2 ++ of_length k 3) → Long k 2 3 s
long2 k s m = long-out k 2 3 (of_length k 3) s (omega arith) (long3 k) m

long1 : (k : ℕ) (s : List ℕ) → Memᴰ s (of_length k 1 ++ (of_length k 2 ++ of_length k 3)) → Long k 1 3 s
long1 k s m = long-out k 1 3 (of_length k 2 ++ of_length k 3) s (omega arith) (long2 k) m

pub no_other : NoOther
unfolding sessions
no_other k s m = let y = long-out k 0 3 (of_length k 1 ++ (of_length k 2 ++ of_length k 3)) s (omega arith) (long1 k) m in (y.1, y.2)

-- In order ------------------------------------------------------------------------------------

lower-first : (p q : ℕ) (s t : List ℕ) → p < q → Lower (p ∷ s) (q ∷ t)
unfolding Lower
lower-first p q s t h = inl h

lower-later : (p : ℕ) (s t : List ℕ) → Lower s t → Lower (p ∷ s) (p ∷ t)
unfolding Lower
lower-later p s t h = inr (refl, h)

pair-append : (R : (s t : List ℕ) → Type 0) (a b : List (List ℕ)) → Pairwise R a → Pairwise R b → ((s t : List ℕ) → Memᴰ s a → Memᴰ t b → R s t) →
    Pairwise R (a ++ b)
unfolding Pairwise
pair-append R [] b x y z = y
pair-append R (s ∷ a) b x y z = (
  λ t m. elim (Memᴰ.append_cases a m) [ inl n ↦ x.0 t n | inr n ↦ z s t (Memᴰ.head refl) n ],
  pair-append R a b x.1 y (λ u t m n. z u t (Memᴰ.tail m) n),
)

pair-map : (p : ℕ) (l : List (List ℕ)) → Pairwise Lower l → Pairwise Lower (map (on p) l)
unfolding Pairwise
pair-map p [] x = tt
pair-map p (s ∷ l) x = (
  λ t m. let y = Memᴰ.of_map (on p) l m in subst (Lower (p ∷ s)) y.2 (lower-later p s y.0 (x.0 y.0 y.1)),
  pair-map p l x.1,
)

beginning-order : (p count : ℕ) (l : List (List ℕ)) → Pairwise Lower l → Pairwise Lower (beginning_at p count l)
unfolding beginning_at
beginning-order p zero l x = unfold Pairwise in tt
beginning-order p (suc count) l x =
    pair-append Lower (map (on p) l) (beginning_at (suc p) count l) (pair-map p l x) (beginning-order (suc p) count l x)
    (λ s t m n.
    let y = Memᴰ.of_map (on p) l m in
    let z = beginning-out (suc p) count l t n in
    subst (λ (u : List ℕ). Lower u t) y.2 (subst (Lower (p ∷ y.0)) (sym z.is) (lower-first p z.place y.0 z.others z.from)))

length-order : (k n : ℕ) → Pairwise Lower (of_length k n)
unfolding of_length
length-order k zero = unfold Pairwise in (λ t m. absurd (Memᴰ.not-nil m), tt)
length-order k (suc n) = beginning-order 0 k (of_length k n) (length-order k n)

-- lists of one length that stand by their places stand in order
pair_same : (n : ℕ) (l : List (List ℕ)) → ((s : List ℕ) → Memᴰ s l → length s ≡ n) → Pairwise Lower l → Pairwise Before l
unfolding Pairwise Before
pair_same n [] h x = tt
pair_same n (s ∷ l) h x =
    (λ t m. inr (h s (Memᴰ.head refl) ∙ sym (h t (Memᴰ.tail m)), x.0 t m), pair_same n l (λ t m. h t (Memᴰ.tail m)) x.1)

of_one : (k n : ℕ) → Pairwise Before (of_length k n)
of_one k n = pair_same n (of_length k n) (λ s m. (length-out k n s m).0) (length-order k n)

then-longer : (k n to : ℕ) (l : List (List ℕ)) → Pairwise Before l → ((t : List ℕ) → Memᴰ t l → Long k (suc n) to t) → Pairwise Before (of_length k n ++ l)
then-longer k n to l x h =
    pair-append Before (of_length k n) l (of_one k n) x
    (λ s t m o. let a = length-out k n s m in let b = h t o in unfold Before in inl (omega arith))

pub in_order : InOrder
unfolding sessions
in_order k = then-longer k 0 3 _ (then-longer k 1 3 _ (then-longer k 2 3 _ (of_one k 3) (long3 k)) (long2 k)) (long1 k)

-- each once
lower-not : (s : List ℕ) → Lower s s → ⊥
unfolding Lower
lower-not [] x = x
lower-not (p ∷ s) (inl h) = omega arith
lower-not (p ∷ s) (inr x) = lower-not s x.1

before-not : (s : List ℕ) → Before s s → ⊥
unfolding Before
before-not s (inl h) = omega arith
before-not s (inr x) = lower-not s x.1

pair-split : (R : (s t : List ℕ) → Type 0) (a b : List (List ℕ)) (s t : List ℕ) → Pairwise R (a ++ b) → Memᴰ s a → Memᴰ t b → R s t
unfolding Pairwise
pair-split R [] b s t x m n = absurd (Memᴰ.not-nil m)
pair-split R (u ∷ a) b s t x m n =
    elim (Memᴰ.cases_cons m) [
      | inl e ↦ subst (λ (v : List ℕ). R v t) (sym e) (x.0 t (Memᴰ.append_right a n))
      | inr o ↦ pair-split R a b s t x.1 o n
    ]

pub each-once : EachOnce
each-once k a b c s t e same =
    let x = pair-split Before (a ++ s ∷ b) (t ∷ c) s t (subst (Pairwise Before) e (in_order k)) (Memᴰ.append_right a (Memᴰ.head refl)) (Memᴰ.head refl) in
    before-not s (subst (Before s) (sym same) x)

-- How many ------------------------------------------------------------------------------------

length-map : (p : ℕ) (l : List (List ℕ)) → length (map (on p) l) ≡ length l
length-map p [] = refl
length-map p (s ∷ l) = ap suc (length-map p l)

pub beginning-number : (p count : ℕ) (l : List (List ℕ)) → length (beginning_at p count l) ≡ count * length l
unfolding beginning_at
beginning-number p zero l = omega arith
beginning-number p (suc count) l =
    let a = length-append (map (on p) l) (beginning_at (suc p) count l) in
    let b = length-map p l in
    let c = beginning-number (suc p) count l in
    let d = suc-mul count (length l) in
    omega arith

pub number : Number
unfolding sessions of_length
number k =
    simp (length-append, beginning-number, mul-one) (rw mul_assoc (omega arith))
