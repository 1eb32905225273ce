-- `generation::plan_leg` meets its contract.
use Rattle.settling.proofs.PartsLaws.{off, on, size_is}
use Rattle.generation.proofs.PartsLaws.{planned-free, planned-not, planned-new}
use Rattle.places.specs.Layout.{venue_of}
use Prim.Native.Nat.{min}
use mathlib.Core.Path.{refl, ap, ◌∙◌}
use Rattle.generation.proofs.plan_leg.Goals as goal

pub returns-then-price-eq0 : goal.returns-then-price-eq0
returns-then-price-eq0 c =
    planned-free _ c.args.c _ _ _ c.leg_price-price.ensures c.requires.some c.if-price-eq0.true

pub returns-then-not-may_stand : goal.returns-then-not-may_stand
returns-then-not-may_stand c =
    planned-not _ c.args.c _ _ _ c.leg_price-price.ensures c.requires.some c.if-price-eq0.false (off _ _ c.may_stand.ensures c.if-not-may_stand.true-raw)

pub returns : goal.returns
returns c =
    let a = c.args in
    planned-new _ a.c _ _ _ _ c.leg_price-price.ensures c.requires.some c.if-price-eq0.false (on _ _ c.may_stand.ensures c.if-not-may_stand.false-raw)
    (c.leg_quantity-quantity.ensures ∙ ap (min a.c.quantity) (size_is (venue_of a.numbers.now) c.sides_at-sides.result.taken a.c a.s c.sides_at-sides.ensures.taken _ refl))
