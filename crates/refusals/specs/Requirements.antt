-- What the functions require, each part by its name.
use Rattle.std.specs.Prelude.{◌≡◌, true, List, ℕ}
use Rattle.rules.specs.Refusals.{regular_in_range, complex_in_range}
use Rattle.places.specs.Layout.{Dense}
use Rattle.rules.specs.declared.Regular.{Regular}
use Rattle.rules.specs.declared.Complex.{Complex}

-- numbers without gaps, and an order in range
pub record OrderInRange (b : List ℕ) (o : Regular) : Type 0 where
  pub dense : Dense b
  pub in_range : regular_in_range o ≡ true

-- numbers without gaps, and a complex order in range
pub record ComplexInRange (b : List ℕ) (c : Complex) : Type 0 where
  pub dense : Dense b
  pub in_range : complex_in_range c ≡ true
