-- `refusals::is_idle` meets its contract.
use mathlib.Core.Path.{sym, ap, ◌∙◌}
use Prim.Native.Nat.{ℕ}
use lib.Dec.{eqb}
use borrow.Author.Tests.{eq-eqb, ne_eqb}
use Rattle.rules.specs.Words.{closed}
use Rattle.places.specs.Layout.{venue_of}
use Rattle.refusals.proofs.RefusalFound.{busy-open, busy-order, idle-legs}
use Rattle.refusals.proofs.is_idle.Goals as goal

pub returns-then-status_of-ne0 : goal.returns-then-status_of-ne0
returns-then-status_of-ne0 c = busy-open (venue_of c.args.numbers.now) c.args.s
    (ap (λ (x : ℕ). eqb x closed) (sym c.status_of.ensures) ∙ ne_eqb _ _ c.if-status_of-ne0.true)

pub returns-then-not-no_order_in : goal.returns-then-not-no_order_in
returns-then-not-no_order_in c = busy-order (venue_of c.args.numbers.now) c.args.s
    (ap (λ (x : ℕ). eqb x closed) (sym c.status_of.ensures) ∙ eq-eqb _ _ c.if-status_of-ne0.false)
    (sym c.no_order_in.ensures ∙ c.if-not-no_order_in.true)

pub returns : goal.returns
returns c = c.no_leg_in.ensures ∙ idle-legs (venue_of c.args.numbers.now)
    c.args.s (ap (λ (x : ℕ). eqb x closed) (sym c.status_of.ensures) ∙ eq-eqb _ _
    c.if-status_of-ne0.false) (sym c.no_order_in.ensures ∙ c.if-not-no_order_in.false)
