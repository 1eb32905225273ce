-- `levels::levels` meets its contract.
use native.Mathlib.Omega.{arith}
use Rattle.levels.proofs.GridLaws.{filling-start, filling-turn, filling-end}
use Rattle.levels.proofs.levels.Goals as goal

pub loop-s-init : goal.loop-s-init
loop-s-init c = filling-start _

pub level_at-bids-requires : goal.level_at-bids-requires
level_at-bids-requires c = omega (arith, c.loop-s-test.true)

pub level_at-offers-requires : goal.level_at-offers-requires
level_at-offers-requires c = omega (arith, c.loop-s-test.true)

pub bounds-g-s : goal.bounds-g-s
bounds-g-s c = omega (arith, c.loop-s.invariant.long, c.loop-s-test.true)

pub loop-s-preserved : goal.loop-s-preserved
loop-s-preserved c = filling-turn _ _ _ c.loop-s.invariant c.loop-s-test.true _ _ c.level_at-bids.ensures c.level_at-offers.ensures

pub returns : goal.returns
returns c = filling-end _ _ _ c.loop-s.invariant (omega (arith, c.loop-s-test.false)) c.requires
