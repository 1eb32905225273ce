-- `venue_numbers::count_mask` meets its contract.
use mathlib.Core.Path.{ap, ◌∙◌}
use Prim.Native.Nat.{ℕ, ◌+◌, ◌*◌}
use native.Mathlib.Omega.{arith}
use Rattle.places.specs.Layout.{bit_of}
use Rattle.places.proofs.Masks.{mask-none, mask-small, mask-back, mask_end, bit_le}
use Rattle.venue_numbers.proofs.count_mask.Goals as goal

pub loop-i-init : goal.loop-i-init
loop-i-init c = mask-none c.args.numbers.now

pub overflow_mul-m : goal.overflow_mul-m
overflow_mul-m c = omega (arith, c.loop-i.invariant, mask-small c.args.numbers.now c.loop-i.i (omega arith))

pub overflow_add-m : goal.overflow_add-m
overflow_add-m c =
    omega
    (arith, c.loop-i.invariant, mask-small c.args.numbers.now c.loop-i.i (omega arith), c.bit.ensures, bit_le c.legging_at-l.result)

pub loop-i-preserved : goal.loop-i-preserved
loop-i-preserved c =
    ap (λ (x : ℕ). c.loop-i.m * 2 + x) (c.bit.ensures ∙ ap bit_of c.legging_at-l.ensures)
    ∙ mask-back c.args.numbers.now c.loop-i.i c.loop-i.m (omega arith) (omega arith) c.loop-i.invariant

pub returns : goal.returns
returns c = mask_end c.args.numbers.now c.loop-i.i _ (omega arith) c.loop-i.invariant
