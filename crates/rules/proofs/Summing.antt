-- Sums over the places of a list, of any type, and what one place's change does to them.
use Rattle.std.specs.Prelude.{if◌then◌else◌}
use mathlib.Core.Path.{◌≡◌, ap, refl}
use mathlib.Core.Bool.{Bool, true, false}
use mathlib.Core.List.{List, [], ◌∷◌, ◌++◌}
use Prim.Native.Nat.{ℕ, zero, suc, ◌+◌, ◌-◌, ◌*◌, ◌≤◌, ◌<◌, min}
use native.Mathlib.Omega.{arith}
use native.Mathlib.Decide.{dec_lt, dec_le}
use native.Mathlib.Nat.{mul-suc}
use lib.ListN.{length, get_or, set, take, get_or-eq_default}
use lib.Seq.{set_out, get_or-set_other}
use Rattle.rules.specs.Base.{held}
use Rattle.rules.proofs.Tests.{held-pos, pos-held}

module _ {A : Type 0} (f : A → ℕ) where
  unfoldable pub sum : List A → ℕ
  sum [] = 0
  sum (x ∷ l) = f x + sum l

  -- what is set at a place takes the place of what was there
  pub sum-set : (none : A) (l : List A) (i : ℕ) (x : A) → i < length l → sum (set l i x) + f (get_or l i none) ≡ sum l + f x
  unfolding sum
  sum-set none [] i x h = absurd (omega arith)
  sum-set none (y ∷ l) zero x h = omega arith
  sum-set none (y ∷ l) (suc i) x h = let z = sum-set none l i x (omega arith) in omega arith

  -- and past the end nothing is set
  pub sum-set-le : (none : A) → f none ≡ 0 → (l : List A) (i : ℕ) (x : A) → sum (set l i x) + f (get_or l i none) ≤ sum l + f x
  sum-set-le none e l i x = elim (dec_lt i (length l)) [
    | yes h ↦ let z = sum-set none l i x h in omega arith
    | no h ↦ rw (set_out l i x (omega arith), get_or-eq_default l none {n = i} (omega arith), e) (omega arith)
  ]

  pub sum-most : (w : ℕ) → ((x : A) → f x ≤ w) → (l : List A) → sum l ≤ w * length l
  unfolding sum
  sum-most w h [] = omega arith
  sum-most w h (x ∷ l) = let z = sum-most w h l in let y = h x in rw (mul-suc w (length l)) (omega arith)

  pub sum-join : (l m : List A) → sum (l ++ m) ≡ sum l + sum m
  unfolding sum
  sum-join [] m = omega arith
  sum-join (x ∷ l) m = let z = sum-join l m in omega arith

  pub sum-firsts : (n : ℕ) (l : List A) → sum (take n l) ≤ sum l
  unfolding sum
  sum-firsts zero l = omega arith
  sum-firsts (suc n) [] = omega arith
  sum-firsts (suc n) (x ∷ l) = let z = sum-firsts n l in omega arith

-- place by place no more
pub sum-places : {A : Type 0} (f : A → ℕ) (none : A) (l m : List A) → length l ≡ length m → ((i : ℕ) → f (get_or l i none) ≤ f (get_or m i none)) → sum f l ≤ sum f m
unfolding sum
sum-places f none [] m e h = omega arith
sum-places f none (x ∷ l) [] e h = absurd (omega arith)
sum-places f none (x ∷ l) (y ∷ m) e h = let z = sum-places f none l m (omega arith) (λ i. h (suc i)) in let w = h 0 in omega arith

pub sum-plus : {A : Type 0} (f g : A → ℕ) (l : List A) → sum (λ x. f x + g x) l ≡ sum f l + sum g l
unfolding sum
sum-plus f g [] = refl
sum-plus f g (x ∷ l) = let z = sum-plus f g l in omega arith

-- of two measures: the lesser has the lesser sum, and by so much less as at one place
module _ {A : Type 0} (f g : A → ℕ) (lesser : (x : A) → g x ≤ f x) where
  pub sum_mono : (l : List A) → sum g l ≤ sum f l
  unfolding sum
  sum_mono [] = omega arith
  sum_mono (x ∷ l) = let h = lesser x in let k = sum_mono l in omega arith

  pub sum_drop : (none : A) (w : ℕ) (l : List A) (i : ℕ) → i < length l → g (get_or l i none) + w ≤ f (get_or l i none) → sum g l + w ≤ sum f l
  unfolding sum
  sum_drop none w [] i h d = absurd (omega arith)
  sum_drop none w (x ∷ l) zero h d = let k = sum_mono l in omega arith
  sum_drop none w (x ∷ l) (suc i) h d = let k = sum_drop none w l i (omega arith) d in let e = lesser x in omega arith

-- w while there is a quantity
unfoldable pub due : (w quantity : ℕ) → ℕ
due w q = if held q then w else 0

pub due-held : (w q : ℕ) → 0 < q → due w q ≡ w
unfolding due
due-held w q h = rw (pos-held q h)

pub due-none : (w : ℕ) → due w 0 ≡ 0
unfolding due
due-none w = refl

pub due-free : (w q : ℕ) → held q ≡ false → due w q ≡ 0
unfolding due
due-free w q h = rw h

pub due-most : (w q : ℕ) → due w q ≤ w
unfolding due
due-most w q = go (held q)
  where
    go : (b : Bool) → (if b then w else 0) ≤ w
    go true = omega arith
    go false = omega arith

pub due-less : (w q k : ℕ) → due w (q - k) ≤ due w q
unfolding due
due-less w q k = go (held (q - k)) refl
  where
    go : (b : Bool) → held (q - k) ≡ b → (if b then w else 0) ≤ (if held q then w else 0)
    go true e = let z = held-pos (q - k) e in rw (pos-held q (omega arith)) (omega arith)
    go false e = omega arith

-- Orders at places: each adds w while it has a quantity.
module _ {A : Type 0} (w : ℕ) (quantity : A → ℕ) (none : A) (empty : quantity none ≡ 0) where
  abbrev worths : List A → ℕ
  worths = sum (λ x. due w (quantity x))

  abbrev at : List A → ℕ → ℕ
  at l i = quantity (get_or l i none)

  free : due w (quantity none) ≡ 0
  free = rw empty (due-none w)

  pub worths-most : (l : List A) → worths l ≤ w * length l
  worths-most l = sum-most (λ x. due w (quantity x)) w (λ x. due-most w (quantity x)) l

  -- an order that is given a place adds at most w
  pub put-more : (i : ℕ) (x : A) (l : List A) → worths (set l i x) ≤ worths l + w
  put-more i x l =
      let z = sum-set-le (λ y. due w (quantity y)) none free l i x in
      let y = due-most w (quantity x) in
      omega arith

  -- a fill leaves so many contracts less
  module _ (less : ℕ → A → A) (lessens : (k : ℕ) (x : A) → quantity (less k x) ≡ quantity x - k) where
    abbrev fill : (i k : ℕ) → List A → List A
    fill i k l = set l i (less k (get_or l i none))

    filled : (i k : ℕ) (l : List A) → worths (fill i k l) + due w (at l i) ≤ worths l + due w (at l i - k)
    filled i k l =
        let z = sum-set-le (λ x. due w (quantity x)) none free l i (less k (get_or l i none)) in
        rw (← lessens k (get_or l i none)) z

    -- it adds nothing, and one that frees the place takes the order's w
    pub fill-less : (i k : ℕ) (l : List A) → worths (fill i k l) ≤ worths l
    fill-less i k l = let z = filled i k l in let y = due-less w (at l i) k in omega arith

    pub fill-gone : (i k : ℕ) (l : List A) → 0 < at l i → at l i ≤ k → worths (fill i k l) + w ≤ worths l
    fill-gone i k l h le =
        let z = filled i k l in
        let e : at l i - k ≡ 0 = omega arith in
        let d : due w (at l i - k) ≡ 0 = rw (e, due-none w) in
        omega (arith, due-held w (at l i) h)

    -- two filled for the lesser of both: a place is freed
    pub fill-both : (i j k : ℕ) (l : List A) → 0 < at l i → 0 < at l j → k ≡ min (at l i) (at l j) → worths (fill j k (fill i k l)) + w ≤ worths l
    fill-both i j k l p q e = go (dec_le (at l i) k)
      where
        go : Dec (at l i ≤ k) → worths (fill j k (fill i k l)) + w ≤ worths l
        go (yes le) = let a = fill-gone i k l p le in let b = fill-less j k (fill i k l) in omega arith
        go (no gt) =
            let other : get_or (fill i k l) j none ≡ get_or l j none =
            get_or-set_other l i j (less k (get_or l i none)) none (λ x. let same : at l j ≡ at l i = ap (at l) x in omega arith) in
            let s : at (fill i k l) j ≡ at l j = ap quantity other in
            let a = fill-less i k l in
            let b = fill-gone j k (fill i k l) (omega arith) (omega arith) in
            omega arith
