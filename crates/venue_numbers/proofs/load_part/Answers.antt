-- `venue_numbers::load_part` meets its contract.
use native.Mathlib.Omega.{arith}
use Rattle.venue_numbers.proofs.Loaded.{loading-first, loading-next, loading-last}
use Rattle.venue_numbers.proofs.load_part.Goals as goal

pub loop-i-init : goal.loop-i-init
loop-i-init g c = loading-first _ _ _ g.met.T.Part.own_part _ _

pub put-requires : goal.put-requires
put-requires g c = omega (arith, c.loop-i-test.true, c.requires)

pub loop-i-preserved : goal.loop-i-preserved
loop-i-preserved g c =
    loading-next _ _ _ g.met.T.Part.own_part _ _ c.index-l-i.result _ _ _ c.loop-i.invariant (omega (arith, c.loop-i-test.true, c.requires)) c.requires
    _ c.index-l-i.is c.put.ensures.numbers_after c.put.ensures.used

pub returns-clause-numbers_after : goal.returns-clause-numbers_after
returns-clause-numbers_after g c = loading-last _ _ _ g.met.T.Part.own_part _ _ _ _ c.loop-i.invariant (omega (arith, c.loop-i-test.false, c.requires)) c.requires

pub returns-clause-used : goal.returns-clause-used
returns-clause-used g c = c.loop-i.invariant.used
