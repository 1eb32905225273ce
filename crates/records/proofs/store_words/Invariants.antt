use Rattle.records.proofs.SeenLaws.{Laid}
use Rattle.records.proofs.store_words.Given as goal

abbrev pub invariant-loop-i : goal.invariant-loop-i
invariant-loop-i l = Laid l.initial.out l.at l.words l.out l.i
