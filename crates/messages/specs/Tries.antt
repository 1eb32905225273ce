-- What a message leaves whose records may not fit in the report memory.
use Rattle.std.specs.Prelude.{◌≡◌, List, ℕ, ◌≤◌, ◌<◌, length}
use Rattle.rules.specs.Step.{StepOutcome}
use Rattle.records.specs.Seen.{seen, ◌writes◌}
use Rattle.places.specs.Layout.{venue_of, Dense}
use Rattle.answers.specs.declared.Stepped.{Stepped}

-- a message done where its records fit; where not, the venue is as it was
pub record Tries (a : StepOutcome) (b₀ out₀ : List ℕ) (r : Stepped) (b out : List ℕ) : Type 0 where
  pub refused : r.refused ≡ a.refused
  pub written : seen out r.written ≡ seen out₀ 0 writes a.effect.reports
  pub done : r.written ≤ length out₀ → venue_of b ≡ a.effect.venue
  pub left : length out₀ < r.written → venue_of b ≡ venue_of b₀
  pub dense : Dense b
