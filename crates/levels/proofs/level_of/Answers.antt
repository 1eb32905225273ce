-- `levels::level_of` meets its contract.
use mathlib.Core.Path.{refl, sym, ◌∙◌}
use native.Mathlib.Omega.{arith}
use borrow.Author.Rules.{rules}
use Rattle.levels.proofs.LevelChanges.{scanned-none, scanned-past, scanned-on, scanned-all}
use Rattle.levels.proofs.level_of.Goals as goal

pub loop-i-init : goal.loop-i-init
loop-i-init c = scanned-none _ _ _ _ _ refl

pub key_at-requires : goal.key_at-requires
key_at-requires c =
    omega (arith, c.loop-i.invariant.below, c.regulars_used-n.ensures.1)

pub loop-i-preserved-then-key_at-key : goal.loop-i-preserved-then-key_at-key
loop-i-preserved-then-key_at-key c = scanned-past _ _ _ _ _ _ c.loop-i.invariant (omega (arith, c.loop-i-test.true))
    (λ e. c.if-key_at-key.true (c.key_at.ensures ∙ e ∙ sym c.place_of-key.ensures))

pub regular_at-o-requires : goal.regular_at-o-requires
regular_at-o-requires c = omega (arith, c.loop-i.invariant.below, c.regulars_used-n.ensures.1)

pub with_order-l-requires : goal.with_order-l-requires
with_order-l-requires c = omega (
  arith,
  c.loop-i.invariant.bound,
  c.loop-i.invariant.below,
  c.regulars_used-n.ensures.1,
)

pub loop-i-preserved : goal.loop-i-preserved
loop-i-preserved c = scanned-on _ _ _ _ _ _ c.loop-i.invariant
    (omega (arith, c.loop-i-test.true)) c.regular_at-o.result c.regular_at-o.ensures
    (sym c.key_at.ensures ∙ c.if-key_at-key.false
    ∙ c.place_of-key.ensures)
    c.requires.side (search rules) _ c.with_order-l.ensures

pub returns : goal.returns
returns c = scanned-all _ _ _ _ _ _ c.loop-i.invariant c.regulars_used-n.ensures.0 (omega (arith, c.loop-i-test.false))
