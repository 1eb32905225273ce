-- `trades::fill_pair` meets its contract.
use native.Mathlib.Omega.{arith}
use Rattle.trades.proofs.HitsLaws.{fill-unused}
use Rattle.trades.proofs.fill_pair.Goals as goal

pub returns-then-complexes_used-i-clause-numbers_after : goal.returns-then-complexes_used-i-clause-numbers_after
returns-then-complexes_used-i-clause-numbers_after c =
    fill-unused c.args.numbers.now c.args.i c.args.k (omega (arith, c.if-complexes_used-i.true, c.complexes_used.ensures.0))
