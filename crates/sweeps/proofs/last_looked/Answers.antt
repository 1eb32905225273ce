-- `sweeps::last_looked` meets its contract.
use mathlib.Core.Path.{◌∙◌}
use native.Mathlib.Omega.{arith}
use Prim.Native.Nat.{◌-◌}
use Rattle.places.proofs.Parts.{complexes-few}
use Rattle.sweeps.proofs.RoundLaws.{last-other, last-above, last_none}
use Rattle.sweeps.proofs.last_looked.Goals as goal

pub complex_at-c-requires : goal.complex_at-c-requires
complex_at-c-requires c = omega (arith, c.if-r-gt0.true, c.requires.others, complexes-few c.args.numbers.now)

pub returns-then-r-gt0 : goal.returns-then-r-gt0
returns-then-r-gt0 c =
    last-other _ c.args.r _ c.complex_at-c.result c.complex_at-c.ensures (omega (arith, c.if-r-gt0.true, c.requires.others)) (omega (arith, c.if-r-gt0.true))

pub overflow_add-r : goal.overflow_add-r
overflow_add-r c = omega (arith, c.requires.above, complexes-few c.args.numbers.now)

pub complex_at-c-requires-then-r-gt0-2 : goal.complex_at-c-requires-then-r-gt0-2
complex_at-c-requires-then-r-gt0-2 c = omega (arith, c.if-r-gt0-2.true, c.requires.above, complexes-few c.args.numbers.now)

pub returns-then-r-gt0-2 : goal.returns-then-r-gt0-2
returns-then-r-gt0-2 c =
    let r = c.args.r in
    let t = c.if-r-gt0-2.true in
    last-above _ r _ c.complex_at-c-then-r-gt0-2.result c.complex_at-c-then-r-gt0-2.ensures (omega (arith, t, c.requires.above)) (r.above - 1) (omega (arith, t)) (omega (arith, t)) (omega (arith, c.if-r-gt0.false))

pub returns : goal.returns
returns c = c.reached_id.ensures ∙ last_none _ c.args.r (omega (arith, c.if-r-gt0-2.false))
    (omega (arith, c.if-r-gt0.false))
