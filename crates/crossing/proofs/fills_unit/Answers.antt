-- `crossing::fills_unit` meets its contract.
use mathlib.Core.Path.{ap, ◌∙◌}
use Prim.Native.Nat.{ℕ}
use native.Mathlib.Omega.{arith}
use lib.Dec.{leb}
use Rattle.levels.proofs.Sides.{opposite-in}
use Rattle.crossing.proofs.Touches.{unit-short, unit-second}
use Rattle.crossing.proofs.fills_unit.Goals as goal

pub own_size-first-requires : goal.own_size-first-requires
own_size-first-requires c =
    let p = c.requires in
    record { level = rw c.opposite_of.ensures p.taken.first; series = p.legs.first; side = rw c.opposite_of.ensures (opposite-in _) }

pub returns-then-first-from : goal.returns-then-first-from
returns-then-first-from c =
    unit-short _ c.args.c _ _ c.opposite_of.ensures c.own_size-first.ensures (omega (arith, c.from.ensures, c.if-first-from.true))

pub own_size-second-requires : goal.own_size-second-requires
own_size-second-requires c =
    let p = c.requires in
    record { level = rw c.opposite_of-2.ensures p.taken.second; series = p.legs.second; side = rw c.opposite_of-2.ensures (opposite-in _) }

pub returns : goal.returns
returns c =
    ap (λ (k : ℕ). leb k c.own_size-second.result) c.from-2.ensures
    ∙ unit-second _ c.args.c _ _ c.opposite_of.ensures c.own_size-first.ensures (omega (arith, c.from.ensures, c.if-first-from.false)) _ _
    c.opposite_of-2.ensures c.own_size-second.ensures
