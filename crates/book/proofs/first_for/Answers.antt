-- `book::first_for` meets its contract.
use mathlib.Core.Path.{sym, ap, ◌∙◌}
use native.Mathlib.Omega.{arith}
use Rattle.rules.specs.declared.Regular.{Regular}
use Rattle.rules.specs.Prices.{shows_for}
use Rattle.places.specs.Layout.{regular_in}
use Rattle.places.proofs.Parts.{regulars-few}
use Rattle.book.proofs.FirstPlace.{passed_on}
use Rattle.book.proofs.PicksLaws.{for-key}
use Rattle.book.proofs.Earliest.{for-at, for-none}
use borrow.Author.Rules.{rules}
use Rattle.book.proofs.first_for.Goals as goal

pub loop-i-init : goal.loop-i-init
loop-i-init c = λ j q. absurd (omega arith)

pub key_at-requires : goal.key_at-requires
key_at-requires c = let w = regulars-few c.args.numbers.now in search rules

pub loop-i-preserved-then-key_at-key : goal.loop-i-preserved-then-key_at-key
loop-i-preserved-then-key_at-key c =
    passed_on (shows_for c.args.series c.args.side c.args.price) (regular_in c.args.numbers.now) _ c.loop-i.invariant
    (for-key c.args.series c.args.side c.args.price _ (λ e. c.if-key_at-key.true (c.key_at.ensures ∙ e ∙ sym c.place_of-key.ensures)))

pub regular_at-o-requires : goal.regular_at-o-requires
regular_at-o-requires c = let w = regulars-few c.args.numbers.now in search rules

pub returns-then-shows_for : goal.returns-then-shows_for
returns-then-shows_for c =
    for-at c.args.numbers.now c.requires c.args.series c.args.side c.args.price _ _ (omega arith) c.regular_at-o.ensures
    (sym c.shows_for.ensures ∙ c.if-shows_for.true) c.loop-i.invariant

pub loop-i-preserved : goal.loop-i-preserved
loop-i-preserved c =
    passed_on (shows_for c.args.series c.args.side c.args.price) (regular_in c.args.numbers.now) _ c.loop-i.invariant
    (ap (λ (o : Regular). shows_for c.args.series c.args.side c.args.price o) (sym c.regular_at-o.ensures) ∙ sym c.shows_for.ensures ∙ c.if-shows_for.false)

pub returns : goal.returns
returns c =
    for-none c.args.numbers.now c.requires c.args.series c.args.side c.args.price (λ j q. c.loop-i.invariant j (omega arith))
