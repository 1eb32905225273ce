-- Signed numbers of 64 bits: an operation whose result fits is the integers' own, and the band's test is the definition's.
use Rattle.std.specs.Prelude.{if◌then◌else◌}
use mathlib.Core.Path.{◌≡◌, refl, sym, ap, ap₂, ◌∙◌, subst}
use mathlib.Core.Bool.{Bool, true, false, true≢false}
use Prim.Native.Nat.{ℕ, ◌+◌, ◌-◌, ◌*◌, ◌/◌, ◌≤◌, ◌<◌}
use native.Mathlib.Omega.{arith}
use native.Mathlib.Nat.{mul-add, mul-le-mul_right, mul-zero, not-suc-le-zero}
use lib.Dec.{leb, eqb}
use lib.IntN.{ℤ, pos, negsuc, nat_abs, neg_ℤ, ◌+ℤ◌, ◌-ℤ◌, ◌*ℤ◌, +ℤ_idl}
use lib.Signed.{le_z, lt_z}
use mir.Syntax.{w32, w64}
use mir.Val.{SFits, to_z, of_z}
use mir.ValLaws.{to_z-of_z}
use Rattle.rules.specs.Words.{sign_times}
use Rattle.rules.specs.Prices.{displayed_price, near_net}
use borrow.Author.Tests.{ltb-true}
use Rattle.rules.proofs.Integers.{plus, minus, add_is, abs_is, abs-add, abs_neg, mul-plus, mul-minus, le_is, leb-same}

-- a number below 2^63 in size fits
pub fits-of : (z : ℤ) → nat_abs z < 9223372036854775808 → SFits w64 z
fits-of (pos n) h = record { sfits = h }
fits-of (negsuc n) h = record { sfits = omega arith }

-- what the machine reads back
pub back : {z : ℤ} → SFits w64 z → to_z w64 (of_z w64 z) ≡ z
back {z} f = to_z-of_z w64 z f

-- an unsigned number, cast
pub cast-of : (n : ℕ) → n < 9223372036854775808 → to_z w64 n ≡ pos n
cast-of n h = back {z = pos n} (record { sfits = h })

-- 0 minus an unsigned number
pub neg-fits : (n : ℕ) → n < 9223372036854775808 → SFits w64 (pos 0 -ℤ to_z w64 n)
neg-fits n h = rw (cast-of n h, +ℤ_idl (neg_ℤ (pos n))) (fits-of (neg_ℤ (pos n)) (rw (abs_neg (pos n)) h))

pub neg-ok : (n : ℕ) → n < 9223372036854775808 → to_z w64 (of_z w64 (pos 0 -ℤ to_z w64 n)) ≡ neg_ℤ (pos n)
neg-ok n h = back (neg-fits n h) ∙ ap (λ (z : ℤ). pos 0 -ℤ z) (cast-of n h) ∙ +ℤ_idl (neg_ℤ (pos n))

-- a number of 32 bits, in 64
abs-small : (z : ℤ) → SFits w32 z → nat_abs z ≤ 2147483648
abs-small (pos n) f = let h : n < 2147483648 = f.sfits in omega arith
abs-small (negsuc n) f = let h : n < 2147483648 = f.sfits in omega arith

module _ (z : ℤ) (f : SFits w32 z) where
  pub wide_fits : SFits w64 (to_z w32 (of_z w32 z))
  wide_fits = rw (to_z-of_z w32 z f) (fits-of z (omega (arith, abs-small z f)))

  wide_back : to_z w64 (of_z w64 (to_z w32 (of_z w32 z))) ≡ z
  wide_back = back wide_fits ∙ to_z-of_z w32 z f

  pub wide_is : (to_z w64 (of_z w64 (to_z w32 (of_z w32 z))) ≡ z) × (nat_abs (to_z w64 (of_z w64 (to_z w32 (of_z w32 z)))) ≤ 2147483648)
  wide_is = (wide_back, rw wide_back (abs-small z f))

-- a sum of two results
module _ {a b : ℤ} (fa : SFits w64 a) (fb : SFits w64 b) where
  pub sum_fits : nat_abs a + nat_abs b < 9223372036854775808 → SFits w64 (to_z w64 (of_z w64 a) +ℤ to_z w64 (of_z w64 b))
  sum_fits h = rw (back fa, back fb) (fits-of (a +ℤ b) (omega (arith, abs-add a b)))

  pub sum-ok : SFits w64 (to_z w64 (of_z w64 a) +ℤ to_z w64 (of_z w64 b)) → to_z w64 (of_z w64 (to_z w64 (of_z w64 a) +ℤ to_z w64 (of_z w64 b))) ≡ a +ℤ b
  sum-ok f = back f ∙ ap₂ (λ (x y : ℤ). x +ℤ y) (back fa) (back fb)

-- a multiple
pub mul-fits : (k : ℕ) {z : ℤ} → SFits w64 z → k * nat_abs z < 9223372036854775808 → SFits w64 (pos k *ℤ to_z w64 (of_z w64 z))
mul-fits k {z} f h =
    rw (back f) (fits-of (pos k *ℤ z) (rw (abs_is (pos k *ℤ z), mul-plus k z, mul-minus k z, ← mul-add k (plus z) (minus z), ← abs_is z) h))

-- The band ------------------------------------------------------------------------------------

-- 100 t ≤ 100 o + x |o|, as a test of numbers
near-is : (x : ℕ) (o t : ℤ) →
    near_net x o t ≡ leb (100 * plus t + minus (pos 100 *ℤ o +ℤ pos (x * nat_abs o))) (plus (pos 100 *ℤ o +ℤ pos (x * nat_abs o)) + 100 * minus t)
unfolding near_net
near-is x o t = le_is (pos 100 *ℤ t) (pos 100 *ℤ o +ℤ pos (x * nat_abs o)) ∙ rw (mul-plus 100 t, mul-minus 100 t) refl

-- x |o| by its parts, one of which is 0
by_parts : (x : ℕ) (o : ℤ) → x * nat_abs o ≡ x * plus o + x * minus o
by_parts x o = ap (λ (n : ℕ). x * n) (abs_is o) ∙ mul-add x (plus o) (minus o)

none_of : (x n : ℕ) → n ≡ 0 → x * n ≡ 0
none_of x n h = rw h (mul-zero x)

-- of a credit it is 100 t + x o ≤ 100 o, of a debit 100 t ≤ 100 o + x o
near-credit : (x : ℕ) (o t : ℤ) → plus o ≡ 0 → le_z (pos 100 *ℤ t +ℤ pos x *ℤ o) (pos 100 *ℤ o) ≡ near_net x o t
unfolding plus minus
near-credit x o t h =
    let a = add_is (pos 100 *ℤ t) (pos x *ℤ o) in
    let b = add_is (pos 100 *ℤ o) (pos (x * nat_abs o)) in
    let p = mul-plus 100 o in
    let m = mul-minus 100 o in
    let p' = mul-plus 100 t in
    let m' = mul-minus 100 t in
    let q = mul-plus x o in
    let n = mul-minus x o in
    let y = by_parts x o in
    let z = none_of x (plus o) h in
    le_is (pos 100 *ℤ t +ℤ pos x *ℤ o) (pos 100 *ℤ o)
    ∙ leb-same (plus (pos 100 *ℤ t +ℤ pos x *ℤ o) + minus (pos 100 *ℤ o)) (plus (pos 100 *ℤ o) + minus (pos 100 *ℤ t +ℤ pos x *ℤ o))
    (100 * plus t + minus (pos 100 *ℤ o +ℤ pos (x * nat_abs o))) (plus (pos 100 *ℤ o +ℤ pos (x * nat_abs o)) + 100 * minus t)
    (omega arith) (omega arith)
    ∙ sym (near-is x o t)

near-debit : (x : ℕ) (o t : ℤ) → minus o ≡ 0 → le_z (pos 100 *ℤ t) (pos 100 *ℤ o +ℤ pos x *ℤ o) ≡ near_net x o t
unfolding plus minus
near-debit x o t h =
    let a = add_is (pos 100 *ℤ o) (pos x *ℤ o) in
    let b = add_is (pos 100 *ℤ o) (pos (x * nat_abs o)) in
    let p = mul-plus 100 o in
    let m = mul-minus 100 o in
    let p' = mul-plus 100 t in
    let m' = mul-minus 100 t in
    let q = mul-plus x o in
    let n = mul-minus x o in
    let y = by_parts x o in
    let z = none_of x (minus o) h in
    le_is (pos 100 *ℤ t) (pos 100 *ℤ o +ℤ pos x *ℤ o)
    ∙ leb-same (plus (pos 100 *ℤ t) + minus (pos 100 *ℤ o +ℤ pos x *ℤ o)) (plus (pos 100 *ℤ o +ℤ pos x *ℤ o) + minus (pos 100 *ℤ t))
    (100 * plus t + minus (pos 100 *ℤ o +ℤ pos (x * nat_abs o))) (plus (pos 100 *ℤ o +ℤ pos (x * nat_abs o)) + 100 * minus t)
    (omega arith) (omega arith)
    ∙ sym (near-is x o t)

-- the machine's test, for a percentage of one byte and nets of two prices by ratios of one byte
module _ (x : ℕ) (small : x < 256) {o t : ℤ} (fo : SFits w64 o) (ft : SFits w64 t) (os : nat_abs o ≤ 2190433320450) (ts : nat_abs t ≤ 2190433320450) where
  -- what the machine has of o, of t and of x
  abbrev O : ℤ
  O = to_z w64 (of_z w64 o)

  abbrev T : ℤ
  T = to_z w64 (of_z w64 t)

  abbrev X : ℤ
  X = to_z w64 x

  x-is : X ≡ pos x
  x-is = cast-of x (omega arith)

  below : x * nat_abs o ≤ 255 * nat_abs o
  below = mul-le-mul_right (nat_abs o) (omega arith)

  pub part-fits : SFits w64 (X *ℤ O)
  part-fits = rw x-is (mul-fits x fo (let z = below in omega arith))

  pub hundred-o : SFits w64 (pos 100 *ℤ O)
  hundred-o = mul-fits 100 fo (omega arith)

  pub hundred-t : SFits w64 (pos 100 *ℤ T)
  hundred-t = mul-fits 100 ft (omega arith)

  size : (k : ℕ) (z : ℤ) → nat_abs (pos k *ℤ z) ≡ k * nat_abs z
  size k z = rw (abs_is (pos k *ℤ z), mul-plus k z, mul-minus k z, ← mul-add k (plus z) (minus z), ← abs_is z) refl

  small-100 : {z : ℤ} → SFits w64 z → nat_abs z ≤ 2190433320450 → nat_abs (pos 100 *ℤ to_z w64 (of_z w64 z)) ≤ 219043332045000
  small-100 {z} f h = rw (back f, size 100 z) (omega arith)

  small-part : nat_abs (X *ℤ O) ≤ 558560496714750
  small-part = rw (x-is, back fo, size x o) (let z = below in omega arith)

  pub credit-fits : SFits w64 (to_z w64 (of_z w64 (pos 100 *ℤ T)) +ℤ to_z w64 (of_z w64 (X *ℤ O)))
  credit-fits = sum_fits hundred-t part-fits (let a = small-100 ft ts in let b = small-part in omega arith)

  pub debit-fits : SFits w64 (to_z w64 (of_z w64 (pos 100 *ℤ O)) +ℤ to_z w64 (of_z w64 (X *ℤ O)))
  debit-fits = sum_fits hundred-o part-fits (let a = small-100 fo os in let b = small-part in omega arith)

  pub credit-ok : plus o ≡ 0 →
      le_z (to_z w64 (of_z w64 (to_z w64 (of_z w64 (pos 100 *ℤ T)) +ℤ to_z w64 (of_z w64 (X *ℤ O))))) (to_z w64 (of_z w64 (pos 100 *ℤ O))) ≡ near_net x o t
  credit-ok h =
      ap₂ le_z (sum-ok hundred-t part-fits credit-fits ∙ ap₂ (λ (a b : ℤ). a +ℤ b) (ap (λ (z : ℤ). pos 100 *ℤ z) (back ft)) (ap₂ (λ (a b : ℤ). a *ℤ b) x-is (back fo)))
      (back hundred-o ∙ ap (λ (z : ℤ). pos 100 *ℤ z) (back fo))
      ∙ near-credit x o t h

  pub debit-ok : minus o ≡ 0 →
      le_z (to_z w64 (of_z w64 (pos 100 *ℤ T))) (to_z w64 (of_z w64 (to_z w64 (of_z w64 (pos 100 *ℤ O)) +ℤ to_z w64 (of_z w64 (X *ℤ O))))) ≡ near_net x o t
  debit-ok h =
      ap₂ le_z (back hundred-t ∙ ap (λ (z : ℤ). pos 100 *ℤ z) (back ft))
      (sum-ok hundred-o part-fits debit-fits ∙ ap₂ (λ (a b : ℤ). a +ℤ b) (ap (λ (z : ℤ). pos 100 *ℤ z) (back fo)) (ap₂ (λ (a b : ℤ). a *ℤ b) x-is (back fo)))
      ∙ near-debit x o t h

-- Signs ---------------------------------------------------------------------------------------

abs-if : (b : Bool) (p : ℕ) → nat_abs (if b then pos p else neg_ℤ (pos p)) ≡ p
abs-if true p = refl
abs-if false p = abs_neg (pos p)

pub abs-sign-times : (d p : ℕ) → nat_abs (sign_times d (pos p)) ≡ p
unfolding sign_times
abs-sign-times d p = abs-if (eqb d 0) p

-- Displayed prices ----------------------------------------------------------------------------

-- an increment of 0 shows nothing
pub displayed-none : (d p : ℕ) → displayed_price 0 d p ≡ 0
unfolding displayed_price
displayed-none d p = none (eqb d 0)
  where
    none : (b : Bool) → (if b then p / 0 * 0 else (p + (0 - 1)) / 0 * 0) ≡ 0
    none true = mul-zero (p / 0)
    none false = mul-zero ((p + (0 - 1)) / 0)

-- x is -1 - n
pub negative : (x : ℤ) → SFits w64 x → lt_z (to_z w64 (of_z w64 x)) (pos 0) ≡ true → (n : ℕ) × (x ≡ negsuc n) × (n < 9223372036854775808)
negative x f e = go x f (subst (λ (z : ℤ). lt_z z (pos 0) ≡ true) (to_z-of_z w64 x f) e)
  where
    go : (x : ℤ) → SFits w64 x → lt_z x (pos 0) ≡ true → (n : ℕ) × (x ≡ negsuc n) × (n < 9223372036854775808)
    go (pos n) f e = let h : n < 0 = ltb-true n 0 e in absurd (not-suc-le-zero h)
    go (negsuc n) f e = (n, refl, f.sfits)

-- x is n
pub positive : (x : ℤ) → SFits w64 x → lt_z (to_z w64 (of_z w64 x)) (pos 0) ≡ false → (n : ℕ) × (x ≡ pos n) × (n < 9223372036854775808)
positive x f e = go x f (subst (λ (z : ℤ). lt_z z (pos 0) ≡ false) (to_z-of_z w64 x f) e)
  where
    go : (x : ℤ) → SFits w64 x → lt_z x (pos 0) ≡ false → (n : ℕ) × (x ≡ pos n) × (n < 9223372036854775808)
    go (pos n) f e = (n, refl, f.sfits)
    go (negsuc n) f e = absurd (true≢false e)
