-- Parts of the test that a function of their own decides.
use Rattle.std.specs.Prelude.{ℕ, eqb, if◌then◌else◌}
use Rattle.rules.specs.declared.Complex.{Complex}
use Rattle.places.specs.declared.Level.{Level}
use Rattle.levels.specs.declared.TakenLevels.{TakenLevels}

-- of the levels that the legs of c take, that of the leg that is not in series s
unfoldable pub other_taken : TakenLevels → Complex → (series : ℕ) → Level
other_taken t c s = if eqb c.series1 s then t.second else t.first
