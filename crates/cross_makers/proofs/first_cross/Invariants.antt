use mathlib.Core.Path.{◌≡◌}
use Prim.Native.Nat.{◌-◌}
use Rattle.rules.specs.Base.{first_from}
use Rattle.rules.specs.Complex.{crosses, limit_then_id}
use Rattle.places.specs.Layout.{upto, complexes_used, complex_in, venue_of}
use Rattle.cross_makers.specs.Picks.{picked_of}
use Rattle.cross_makers.proofs.first_cross.Given as goal

abbrev pub invariant-loop-i : goal.invariant-loop-i
invariant-loop-i l = picked_of l.best ≡ first_from (crosses (venue_of l.numbers) l.c) limit_then_id l.i (upto (complex_in l.numbers) l.i (complexes_used l.numbers - l.i))
