-- `set_parts::put_orders` meets its contract.
use mathlib.Core.Path.{sym, ap, ap₂, ◌∙◌}
use Prim.Native.Nat.{ℕ}
use native.Mathlib.Omega.{arith}
use Rattle.sets.specs.Set.{joined, regular_record, complex_record}
use Rattle.set_parts.specs.Parts.{orders_from}
use Rattle.set_parts.proofs.SetMemoryLaws.{adds_same, left-next, left-none}
use Rattle.set_parts.proofs.PartsLaws.{orders-none, regular-there, complex-there, regular-after, complex-after}
use Rattle.set_parts.proofs.put_orders.Goals as goal

pub regular_at-o-requires : goal.regular_at-o-requires
regular_at-o-requires c = omega (arith, regular-there _ _ _ _ _ (sym c.regular_next.ensures ∙ c.if-regular_next.true))

pub loop-turn-preserved-then-regular_next : goal.loop-turn-preserved-then-regular_next
loop-turn-preserved-then-regular_next c =
    let n = sym c.regular_next.ensures ∙ c.if-regular_next.true in
    let k = regular-there _ _ _ _ _ n in
    let l = c.loop-turn.invariant in (
      left-next _ _ _ _ _ _ _ _ _ _ l.0 (regular-after _ _ _ _ _ n) (adds_same _ _ _ _ c.put_regular-pos.ensures (ap regular_record c.regular_at-o.ensures)),
      omega (arith, k),
      omega arith,
      omega arith,
    )

pub complex_at-c-requires : goal.complex_at-c-requires
complex_at-c-requires c = omega (
  arith,
  complex-there _ _ _ _ _ (omega arith) (omega arith) (omega arith)
      (sym c.regular_next.ensures ∙ c.if-regular_next.false),
)

pub loop-turn-preserved : goal.loop-turn-preserved
loop-turn-preserved c =
    let n = sym c.regular_next.ensures ∙ c.if-regular_next.false in
    let k = complex-there _ _ _ _ _ (omega arith) (omega arith) (omega arith) n in
    let l = c.loop-turn.invariant in (
      left-next _ _ _ _ _ _ _ _ _ _ l.0 (complex-after _ _ _ _ _ (omega arith) (omega arith) (omega arith) n) (adds_same _ _ _ _ c.put_complex-pos.ensures (ap complex_record c.complex_at-c.ensures)),
      omega arith,
      omega (arith, k),
      omega arith,
    )

pub returns : goal.returns
returns c =
    let l = c.loop-turn.invariant in
    adds_same _ _ _ _ (left-none _ _ _ _ _ _ l.0 (orders-none _ _ _ _ _ (omega arith) (omega arith)))
    (ap₂ (λ (n m : ℕ). joined (orders_from c.args.numbers.now n m 0 0)) c.regulars_used-n.ensures.0 c.complexes_used-m.ensures.0)
