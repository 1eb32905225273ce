-- What a turn of an incoming order is to do.
use Rattle.std.specs.Prelude.{ℕ, ◌<◌}
use Rattle.rules.specs.declared.Venue.{Venue}
use Rattle.rules.specs.Effects.{Turn, ended, turned}
use Rattle.rules.specs.Order.{meet, hit}
use Rattle.matching.specs.declared.Plan.{Plan}
use Rattle.matching.specs.declared.Plan.TheVariants.{Ended, Hit, Meet}

-- the turn that a plan is, of the order at place i
unfoldable pub turn_of : (i : ℕ) → Venue → Plan → Turn
turn_of i v Ended = ended
turn_of i v (Hit l k) = turned (hit i l k v)
turn_of i v (Meet j k) = turned (meet i j k v)

-- a plan's place is one of n in use
abbrev pub InUse : (n : ℕ) → Plan → Type 0
InUse n Ended = Unit {0}
InUse n (Hit l k) = Unit {0}
InUse n (Meet j k) = j < n
