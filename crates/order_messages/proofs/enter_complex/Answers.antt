-- `order_messages::enter_complex` meets its contract.
use mathlib.Core.Path.{ap, ◌∙◌}
use Rattle.rules.specs.declared.Venue.{Venue}
use native.Mathlib.Omega.{arith}
use Rattle.rules.specs.Complex.{complex}
use Rattle.records.specs.Seen.{seen}
use Rattle.records.specs.Stage.{◌does◌}
use Rattle.order_messages.proofs.Entering.{last-dense}
use Rattle.order_messages.proofs.enter_complex.Goals as goal

pub complex_order-requires : goal.complex_order-requires
complex_order-requires c = let p = c.put_last.ensures in let k = p.counts.complexes in let h = c.requires.room in
    record {
      dense = last-dense _ _ _ p.numbers_after p.counts c.requires.dense;
      room = omega arith;
      legs = c.requires.legs;
    }

pub returns : goal.returns
returns c =
    let k = c.complex_order.ensures in
    record { result_after = k.result_after ∙ ap (λ (w : Venue). seen c.args.out.now c.args.at does complex c.args.number c.args.c w) c.put_last.ensures.numbers_after; right = k.counts.right (c.put_last.ensures.counts.right c.requires.dense.right) }
