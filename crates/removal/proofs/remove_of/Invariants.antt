use lib.Dec.{eqb}
use Rattle.rules.specs.Removal.{fail_if}
use Rattle.removal.proofs.RemovalLaws.{Removing}
use Rattle.removal.proofs.remove_of.Given as goal

abbrev pub invariant-loop-n : goal.invariant-loop-n
invariant-loop-n m = Removing (λ k l. fail_if (eqb l.parent m.parent) m.cause) m.initial.numbers m.initial.out m.at m.numbers m.out m.pos m.n
