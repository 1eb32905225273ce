-- `levels::make_levels` meets its contract.
use borrow.Author.Rules.{rules}
use native.Mathlib.Omega.{arith}
use Rattle.places.proofs.Parts.{regulars-few}
use Rattle.levels.proofs.LevelsKept.{making-start, making-turn, making-bound, making-end, key-few}
use Rattle.levels.proofs.make_levels.Goals as goal

pub loop-i-init : goal.loop-i-init
loop-i-init c = making-start _ _ _ c.regulars_used-n.ensures.0
    (c.zero_levels.array_long)
    c.zero_levels.ensures

pub regular_at-o-requires : goal.regular_at-o-requires
regular_at-o-requires c = let f = regulars-few c.args.numbers.now in
    omega (arith, c.loop-i.invariant.below, c.loop-i.invariant.used)

pub key_at-key-requires : goal.key_at-key-requires
key_at-key-requires c = let f = regulars-few
    c.args.numbers.now in omega (arith, c.loop-i.invariant.below, c.loop-i.invariant.used)

pub level_at-l-requires : goal.level_at-l-requires
level_at-l-requires c = key-few _ _ _ c.key_at-key.ensures

pub with_order-requires : goal.with_order-requires
with_order-requires c = rw c.level_at-l.ensures
    (making-bound _ _ _ _ _ c.loop-i.invariant
    (key-few _ _ _ c.key_at-key.ensures))

pub put_level-requires : goal.put_level-requires
put_level-requires c = key-few _ _ _ c.key_at-key.ensures

pub loop-i-preserved : goal.loop-i-preserved
loop-i-preserved c = making-turn _ _ _ _ _ c.loop-i.invariant
    c.loop-i-test.true
    c.regular_at-o.result
    c.regular_at-o.ensures _
    c.key_at-key.ensures _ _ c.level_at-l.ensures
    c.with_order.ensures (search rules) (omega arith) c.put_level.ensures

pub returns : goal.returns
returns c = making-end _ _ _ _ _ c.zero_levels.ensures c.loop-i.invariant (omega (arith, c.loop-i-test.false))
