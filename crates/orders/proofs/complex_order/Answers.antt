-- `orders::complex_order` meets its contract.
use mathlib.Core.Path.{sym, ap, ◌∙◌}
use Prim.Native.Nat.{ℕ}
use native.Mathlib.Omega.{arith}
use Rattle.rules.specs.Trading.{put_complex}
use Rattle.places.specs.Layout.{venue_of}
use Rattle.place_writes.proofs.Closed.{dense-complex}
use Rattle.orders.proofs.OrderLaws.{complex-law}
use Rattle.orders.proofs.complex_order.Goals as goal

pub work-worked-requires : goal.work-worked-requires
work-worked-requires c =
    record {
      right = c.add_complex.ensures.counts.right c.requires.dense.right;
      in_use = omega (arith, c.add_complex.ensures.counts.complexes, c.complexes_used-i.ensures.0);
    }

pub settle_all-settled-requires : goal.settle_all-settled-requires
settle_all-settled-requires c =
    c.work-worked.ensures.counts.right (c.add_complex.ensures.counts.right c.requires.dense.right)

pub generate_order-requires : goal.generate_order-requires
generate_order-requires c =
    c.settle_all-settled.ensures.counts.right (c.work-worked.ensures.counts.right (c.add_complex.ensures.counts.right c.requires.dense.right))

pub returns-clause-result_after : goal.returns-clause-result_after
returns-clause-result_after c =
    complex-law c.args.number c.args.c _ _ _ _ _ _ _ _ _ _ _ _ _ _ (c.complexes_used-i.ensures.0 ∙ sym (dense-complex c.args.numbers.now c.requires.dense))
    (c.add_complex.ensures.numbers_after ∙ ap (λ (k : ℕ). put_complex k c.args.c (venue_of c.args.numbers.now)) (sym c.complexes_used-i.ensures.0)) c.work-worked.ensures.result_after c.settle_all-settled.ensures.result_after c.generate_order.ensures.result_after
