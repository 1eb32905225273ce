use Rattle.rules.specs.Places.{holds_edition}
use Rattle.places.specs.Layout.{edition_in, Filled}
use Rattle.places.proofs.free_edition.Given as goal

abbrev pub invariant-loop-i : goal.invariant-loop-i
invariant-loop-i l = Filled holds_edition (edition_in l.numbers) l.i
