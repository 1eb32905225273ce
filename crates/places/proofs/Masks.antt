-- Laws of the mask of the legging places: one place anew, and the loop that counts it.
use Rattle.std.specs.Prelude.{if◌then◌else◌}
use mathlib.Core.Path.{◌≡◌, refl, sym, ap, ◌∙◌}
use mathlib.Core.Bool.{Bool, true, false}
use mathlib.Core.List.{List, [], ◌∷◌}
use Prim.Native.Nat.{ℕ, zero, suc, ◌+◌, ◌*◌, ◌-◌, ◌^◌, ◌%◌, ◌≤◌, ◌<◌}
use native.Mathlib.Omega.{arith}
use native.Mathlib.Nat.{pow-suc, pow-succ', mul_left_comm, lt_of_lt_of_le, zero-mul, one-mul}
use borrow.Author.Tests.{eq-eqb, ne_eqb}
use lib.Dec.{lit<, lit≤}
use lib.Pow.{pow_mono, shl_exact}
use lib.ListN.{length, get_or, set}
use Rattle.rules.specs.declared.Legging.{Legging}
use Rattle.rules.specs.Base.{held}
use Rattle.rules.specs.Words.{no_legging}
use Rattle.rules.specs.Step.{mask}
use Rattle.places.specs.Layout.{upto, legging_in, venue_of, bit_of, Marked}
use Rattle.places.specs.Offsets.{legging_mask_at}
use Rattle.places.proofs.Tables.{upto-length, upto-at}

cond-le : (b : Bool) → (if b then 1 else 0) ≤ 1
cond-le true = lit≤ tt
cond-le false = lit≤ tt

pub bit_le : (l : Legging) → bit_of l ≤ 1
unfolding bit_of
bit_le l = cond-le (held l.quantity)

pub bit-free : (l : Legging) → l.quantity ≡ 0 → 0 ≡ bit_of l
unfolding bit_of
bit-free l e = simp (eq-eqb _ _ e)

pub bit-held : (l : Legging) → (l.quantity ≡ 0 → ⊥) → 1 ≡ bit_of l
unfolding bit_of
bit-held l e = simp (ne_eqb _ _ e)

-- what a place adds, as the code has it
pub weight-free : (n : ℕ) (l : Legging) → l.quantity ≡ 0 → (0 ≡ bit_of l * 2 ^ n) × (0 ≤ 32768)
weight-free n l e = (sym (zero-mul (2 ^ n)) ∙ ap (λ (x : ℕ). x * 2 ^ n) (bit-free l e), lit≤ tt)

pub weight-held : (n : ℕ) (l : Legging) → n < 16 → (l.quantity ≡ 0 → ⊥) → ((1 * 2 ^ n) % 2 ^ 32 ≡ bit_of l * 2 ^ n) × ((1 * 2 ^ n) % 2 ^ 32 ≤ 32768)
weight-held n l h e =
    let z = shl_exact {a = 1} 1 n 32 (lit< tt) (omega arith) in
    (z ∙ ap (λ (x : ℕ). x * 2 ^ n) (bit-held l e), rw (z, one-mul (2 ^ n)) (pow_mono {j = 15} (omega arith)))

-- One place anew ------------------------------------------------------------------------------

mask_lt : (ls : List Legging) → mask ls < 2 ^ length ls
unfolding mask bit_of
mask_lt [] = lit< tt
mask_lt (l ∷ ls) = rw pow-suc (omega (arith, bit_le l, mask_lt ls))

mask-set : (ls : List Legging) (n : ℕ) (l : Legging) → n < length ls →
    mask (set ls n l) + bit_of (get_or ls n no_legging) * 2 ^ n ≡ mask ls + bit_of l * 2 ^ n
unfolding mask bit_of
mask-set [] n l h = absurd (omega arith)
mask-set (x ∷ ls) zero l h = omega arith
mask-set (x ∷ ls) (suc n) l h =
    let e = mask-set ls n l (omega arith) in
    let p = mul_left_comm (bit_of (get_or ls n no_legging)) 2 (2 ^ n) in
    let q = mul_left_comm (bit_of l) 2 (2 ^ n) in
    rw pow-succ' (omega (arith, e, p, q))

-- a place's part is not more than the mask
mask-has : (ls : List Legging) (n : ℕ) → n < length ls → bit_of (get_or ls n no_legging) * 2 ^ n ≤ mask ls
mask-has ls n h =
    let z : 0 ≡ bit_of no_legging * 2 ^ n = (weight-free n no_legging refl).0 in
    omega (arith, mask-set ls n no_legging h, z)

module _ (b : List ℕ) where
  pub legging-many : length (venue_of b).legging ≡ 16
  unfolding venue_of
  legging-many = upto-length (legging_in b) 0 16

  pub mask-under : mask (venue_of b).legging < 65536
  mask-under = lt_of_lt_of_le (mask_lt (venue_of b).legging) (pow_mono {j = 16} (omega (arith, legging-many)))

  -- the mask that is kept, as it is read
  pub mask-read : Marked b → get_or b legging_mask_at 0 % 65536 ≡ mask (venue_of b).legging
  mask-read m = omega (arith, m.legging, mask-under)

  legging-here : (n : ℕ) → n < 16 → get_or (venue_of b).legging n no_legging ≡ legging_in b n
  unfolding venue_of
  legging-here n h = upto-at (legging_in b) no_legging 0 16 n h ∙ ap (legging_in b) (omega arith)

  -- and as it is written where a legging order is put
  pub mask-put : (n rest u w : ℕ) (old l : Legging) → n < 16 → get_or b legging_mask_at 0 ≡ mask (venue_of b).legging → old ≡ legging_in b n →
      rest ≡ get_or b legging_mask_at 0 % 65536 - u → u ≡ bit_of old * 2 ^ n → w ≡ bit_of l * 2 ^ n → rest + w ≡ mask (set (venue_of b).legging n l)
  mask-put n rest u w old l h e o r p q =
      let m : n < length (venue_of b).legging = omega (arith, legging-many) in
      let z : u ≡ bit_of (get_or (venue_of b).legging n no_legging) * 2 ^ n = p ∙ ap (λ (x : Legging). bit_of x * 2 ^ n) (o ∙ sym (legging-here n h)) in
      omega (arith, mask-under, mask-has (venue_of b).legging n m, mask-set (venue_of b).legging n l m)

-- The loop, counting down ---------------------------------------------------------------------

module _ (b : List ℕ) where
  abbrev pub above : (i : ℕ) → ℕ
  above i = mask (upto (legging_in b) i (16 - i))

  pub mask-none : 0 ≡ above 16
  unfolding mask upto
  mask-none = refl

  -- below 2 ^ 15 while a place is still to come
  pub mask-small : (i : ℕ) → 0 < i → above i < 32768
  mask-small i p = lt_of_lt_of_le (mask_lt (upto (legging_in b) i (16 - i))) (pow_mono {j = 15} (omega (arith, upto-length (legging_in b) i (16 - i))))

  pub mask-back : (i m : ℕ) → 0 < i → i ≤ 16 → m ≡ above i → m * 2 + bit_of (legging_in b (i - 1)) ≡ above (i - 1)
  unfolding mask bit_of upto
  mask-back i m p h e =
      let z : 16 - (i - 1) ≡ suc (16 - i) = omega arith in
      let y : suc (i - 1) ≡ i = omega arith in
      omega (arith, ap (λ (k : ℕ). mask (upto (legging_in b) (i - 1) k)) z, ap (λ (k : ℕ). mask (legging_in b (i - 1) ∷ upto (legging_in b) k (16 - i))) y)

  pub mask_end : (i m : ℕ) → i ≡ 0 → m ≡ above i → m ≡ mask (venue_of b).legging
  unfolding venue_of
  mask_end i m z e = e ∙ ap above z
