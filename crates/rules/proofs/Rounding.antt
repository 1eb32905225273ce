-- Rounding to an increment: what is displayed is the one multiple that 01's words name, of every increment.
use Rattle.std.specs.Prelude.{if◌then◌else◌}
use mathlib.Core.Path.{◌≡◌, refl, sym, ◌∙◌}
use mathlib.Core.Bool.{Bool, true, false, true≢false}
use Prim.Native.Nat.{ℕ, ◌+◌, ◌-◌, ◌*◌, ◌/◌, ◌%◌, ◌≤◌, ◌<◌}
use native.Mathlib.Omega.{arith}
use native.Mathlib.Nat.{div-add-mod', div-eq_of_lt-le, mod-lt, mul-mod_left}
use lib.Dec.{eqb}
use Rattle.rules.specs.Words.{buy}
use Rattle.rules.specs.Prices.{displayed_price, Rounds, DisplayedRounds}

-- a multiple of i from which x is less than one increment away is what x rounds down to
down-only : (i x r : ℕ) → 0 < i → r % i ≡ 0 → r ≤ x → x < r + i → r ≡ x / i * i
down-only i x r h m a b =
    let whole = div-add-mod' r i in
    let next : (r / i + 1) * i ≡ r / i * i + i = omega arith in
    let k = div-eq_of_lt-le {k = r / i} i {m = x} (omega arith) (omega arith) in
    rw k (omega arith)

module _ (i d p : ℕ) (some : 0 < i) where
  rounds-if : (t : Bool) → eqb d buy ≡ t → Rounds i d p (if t then p / i * i else (p + (i - 1)) / i * i)
  rounds-if true e = record {
    multiple = mul-mod_left (p / i) i;
    down = λ _. (let a = div-add-mod' p i in let b = mod-lt p some in (omega arith, omega arith));
    up = λ f. absurd (true≢false (sym e ∙ f));
  }
  rounds-if false e = record {
    multiple = mul-mod_left ((p + (i - 1)) / i) i;
    down = λ t. absurd (true≢false (sym t ∙ e));
    up = λ _. (let a = div-add-mod' (p + (i - 1)) i in let b = mod-lt (p + (i - 1)) some in (omega arith, omega arith));
  }

  only_if : (t : Bool) → eqb d buy ≡ t → (r : ℕ) → Rounds i d p r → r ≡ (if t then p / i * i else (p + (i - 1)) / i * i)
  only_if true e r z = down-only i p r some z.multiple (z.down e).0 (z.down e).1
  only_if false e r z = let a = z.up e in down-only i (p + (i - 1)) r some z.multiple (omega arith) (omega arith)

pub displayed-rounds : DisplayedRounds
unfolding displayed_price
displayed-rounds i d p h = (rounds-if i d p h (eqb d buy) refl, only_if i d p h (eqb d buy) refl)
