use mathlib.Core.Path.{◌≡◌}
use Rattle.book.specs.Picks.{pick_of}
use Rattle.book.proofs.Ranking.{met_from}
use Rattle.book.proofs.first_ranked.Given as goal

abbrev pub invariant-loop-i : goal.invariant-loop-i
invariant-loop-i l = l.best ≡ pick_of (met_from l.numbers l.series l.side l.price l.i)
