-- A venue with what is written of the report: what a rule that changes the one and writes to the other leaves.
use Rattle.std.specs.Prelude.{List, ℕ}
use Rattle.rules.specs.declared.Venue.{Venue}
use Rattle.rules.specs.Effects.{Effect}
use Rattle.records.specs.Seen.{Seen, seen, ◌writes◌}

pub record Stage : Type 0 where
  pub venue : Venue
  pub written : Seen

unfoldable pub stage : Venue → List ℕ → ℕ → Stage
stage v l at = record { venue = v; written = seen l at }

-- the effect's venue, and its records written after w
infixl 6 ◌does◌
unfoldable pub ◌does◌ : Seen → Effect → Stage
w does e = record { venue = e.venue; written = w writes e.reports }
