-- `set_parts::put_sides` meets its contract.
use mathlib.Core.Path.{◌≡◌, ap, ◌∙◌}
use Prim.Native.Nat.{◌+◌, ◌*◌}
use native.Mathlib.Omega.{arith}
use Rattle.rules.specs.declared.Legging.{Legging}
use Rattle.rules.specs.Base.{held}
use Rattle.places.specs.Layout.{legging_in}
use Rattle.sets.specs.Set.{legging_record}
use Rattle.set_parts.specs.Parts.{record_if, side_record}
use Rattle.set_parts.proofs.SetMemoryLaws.{adds_same, adds_then}
use Rattle.set_parts.proofs.put_sides.Goals as goal

pub returns : goal.returns
unfolding side_record
returns c =
    let z : 2 * c.args.s ≡ 2 * c.args.s + 0 = omega arith in
    adds_then _ _ _ _ _
    (adds_same _ _ _ _ c.put_legging-pos.ensures
    (ap (λ (l : Legging). record_if (held l.quantity) (legging_record c.args.s 0 l))
    (c.legging_at-l.ensures ∙ ap (legging_in c.args.numbers.now) z)))
    (adds_same _ _ _ _ c.put_legging.ensures
    (ap (λ (l : Legging). record_if (held l.quantity) (legging_record c.args.s 1 l))
    c.legging_at-k.ensures))
