-- `refusals::edition_refusal` meets its contract.
use mathlib.Core.Path.{sym, ap, ◌∙◌}
use lib.Dec.{leb}
use borrow.Author.Tests.{le-leb, lt-leb}
use Rattle.places.specs.Layout.{venue_of}
use Rattle.refusals.proofs.RefusalFound.{edition-low, edition-used, edition-none-left, edition-taken}
use Rattle.refusals.proofs.edition_refusal.Goals as goal

pub returns-then-not-is_above : goal.returns-then-not-is_above
returns-then-not-is_above c = edition-low (venue_of c.args.numbers.now) c.args.edition c.args.used
    (sym c.is_above.ensures ∙ c.if-not-is_above.true)

pub returns-then-used : goal.returns-then-used
returns-then-used c = edition-used (venue_of c.args.numbers.now) c.args.edition c.args.used
    (sym c.is_above.ensures ∙ c.if-not-is_above.false) c.if-used.true

pub returns-then-free_edition-ge32 : goal.returns-then-free_edition-ge32
returns-then-free_edition-ge32 c = edition-none-left (venue_of c.args.numbers.now)
    c.args.edition c.args.used
    (sym c.is_above.ensures ∙ c.if-not-is_above.false) c.if-used.false
    (ap (leb 32) (sym c.free_edition.ensures) ∙ le-leb _ _ c.if-free_edition-ge32.true)

pub returns : goal.returns
returns c = edition-taken (venue_of c.args.numbers.now) c.args.edition
    c.args.used (sym c.is_above.ensures ∙ c.if-not-is_above.false)
    c.if-used.false (ap (leb 32) (sym c.free_edition.ensures) ∙ lt-leb _ _ c.if-free_edition-ge32.false)
