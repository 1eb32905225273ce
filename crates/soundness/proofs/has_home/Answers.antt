-- `soundness::has_home` meets its contract.
use mathlib.Core.Path.{sym, ◌∙◌}
use Rattle.places.specs.Layout.{venue_of}
use Rattle.soundness.proofs.Beside.{home-none, home-uneven, home-open}
use Rattle.soundness.proofs.has_home.Goals as goal

pub returns-then-not-has_leg : goal.returns-then-not-has_leg
returns-then-not-has_leg c =
    home-none (venue_of c.args.numbers.now) c.args.l c.args.s c.args.d c.parent_of-c.result
    c.parent_of-c.ensures (sym c.has_leg.ensures ∙ c.if-not-has_leg.true)

pub returns-then-not-is_one_to_one : goal.returns-then-not-is_one_to_one
returns-then-not-is_one_to_one c =
    home-uneven (venue_of c.args.numbers.now) c.args.l c.args.s c.args.d c.parent_of-c.result
    c.parent_of-c.ensures (sym c.has_leg.ensures ∙ c.if-not-has_leg.false)
    (sym c.is_one_to_one.ensures ∙ c.if-not-is_one_to_one.true)

pub returns : goal.returns
returns c =
    home-open (venue_of c.args.numbers.now) c.args.l c.args.s c.args.d c.parent_of-c.result
    c.parent_of-c.ensures (sym c.has_leg.ensures ∙ c.if-not-has_leg.false)
    (sym c.is_one_to_one.ensures ∙ c.if-not-is_one_to_one.false)
