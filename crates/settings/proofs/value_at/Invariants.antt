use mathlib.Core.Path.{◌≡◌}
use lib.ListN.{drop}
use Rattle.settings.specs.Forced.{value_at}
use Rattle.settings.proofs.ForcedLaws.{value_from}
use Rattle.settings.proofs.value_at.Given as goal

abbrev pub invariant-loop-e : goal.invariant-loop-e
invariant-loop-e l = value_from l.number l.f l.x (drop l.e-index l.editions) ≡ value_at l.editions l.number l.f
