-- The code's pick of a scan, as the definitions'.
use Rattle.std.specs.Prelude.{ℕ, Option, Some, None}
use Rattle.rules.specs.Base.{Choice, nobody, picked}

unfoldable pub choice_of : {A : Type 0} → Option (ℕ × A) → Choice A
choice_of None = nobody
choice_of (Some x) = picked x.0 x.1
