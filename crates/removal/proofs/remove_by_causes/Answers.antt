-- `removal::remove_by_causes` meets its contract.
use borrow.Author.Rules.{rules}
use mathlib.Core.Path.{sym, ◌∙◌}
use Prim.Native.Nat.{◌<◌}
use native.Mathlib.Omega.{arith}
use Rattle.removal.proofs.RemovalLaws.{removing-start, removing-turn, removing-past, removing-over, left-start, left-few, left-on, left_here, left_over}
use Rattle.removal.proofs.remove_by_causes.Goals as goal

pub loop-rest-init : goal.loop-rest-init
loop-rest-init c =
    (removing-start _ _ _ _ c.told-numbers, left-start c.args.causes (search rules))

-- a place that has a cause left is one of the sixteen

pub loop-rest-preserved-in_default : goal.loop-rest-preserved-in_default
loop-rest-preserved-in_default c =
    let few : c.loop-rest.n < 16 = let i = c.loop-rest.invariant in
    left-few i.1 i.0.few c.loop-rest-test.true in
    let i = c.loop-rest.invariant in (
      removing-past _ i.0 few (left_here i.1 _ ∙ sym c.verdict_by.ensures ∙ c.in_default.is),
      left-on i.1 few,
    )

pub loop-rest-preserved : goal.loop-rest-preserved
loop-rest-preserved c =
    let few : c.loop-rest.n < 16 = let i = c.loop-rest.invariant in
    left-few i.1 i.0.few c.loop-rest-test.true in
    let i = c.loop-rest.invariant in (
      removing-turn _ i.0 _ _ _ _ few (left_here i.1 _ ∙ sym c.verdict_by.ensures ∙ c.in-Fails.is) (omega arith) (c.remove_one-pos.ensures.place_after, c.remove_one-pos.ensures.counts),
      left-on i.1 few,
    )

pub returns-clause-result_after : goal.returns-clause-result_after
returns-clause-result_after c =
    let i = c.loop-rest.invariant in
    (removing-over _ i.0 (left_over i.1 (omega arith))).0
