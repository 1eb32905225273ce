-- The code's pick, as the definitions'.
use Rattle.std.specs.Prelude.{ℕ, Option}
use Rattle.rules.specs.declared.Complex.{Complex}
use Rattle.prices.specs.Picks.{choice_of}
use Rattle.rules.specs.Base.{Choice}

unfoldable pub picked_of : Option (ℕ × Complex) → Choice Complex
picked_of x = choice_of x
