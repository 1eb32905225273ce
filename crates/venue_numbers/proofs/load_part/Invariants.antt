use Rattle.venue_numbers.proofs.Loaded.{Loading}
use Rattle.venue_numbers.proofs.load_part.Given as goal

abbrev pub invariant-loop-i : goal.invariant-loop-i
invariant-loop-i g l = Loading g.T.Part.with g.T.Part.part l.initial.numbers l.numbers l.l l.i
