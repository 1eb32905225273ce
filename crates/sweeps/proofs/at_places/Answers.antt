-- `sweeps::at_places` meets its contract.
use native.Mathlib.Omega.{arith}
use Rattle.rules.specs.Complex.{each_of}
use Rattle.places.specs.Layout.{venue_of}
use Rattle.sweeps.specs.Round.{places_from}
use Rattle.places.proofs.Parts.{complexes-few}
use Rattle.removal.proofs.Loops.{doing-turn, doing_end}
use Rattle.sweeps.proofs.RoundLaws.{each_of-none, each_of-turn}
use Rattle.sweeps.proofs.at_places.Goals as goal

pub overflow_add-k-end : goal.overflow_add-k-end
overflow_add-k-end g c = omega (arith, c.requires.in_use, complexes-few c.args.numbers.now)

pub loop-k-preserved : goal.loop-k-preserved
loop-k-preserved g c =
    doing-turn c.loop-k.invariant _ _ _ _ _
    (each_of-turn (g.T.Task.effect c.args.task) _ _ _ _ _ (omega (arith, c.loop-k-test.true)) (omega arith))
    (omega arith) c.perform-pos.ensures.result_after c.perform-pos.ensures.counts

pub returns-clause-result_after : goal.returns-clause-result_after
returns-clause-result_after g c = let l = c.loop-k.invariant in
    doing_end {e = each_of (g.T.Task.effect c.args.task) (places_from c.args.first c.args.count) (venue_of c.args.numbers.now)} l (each_of-none (g.T.Task.effect c.args.task) _ _ _ (omega (arith, c.loop-k-test.false)))
