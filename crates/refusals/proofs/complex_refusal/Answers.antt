-- `refusals::complex_refusal` meets its contract.
use mathlib.Core.Path.{refl, sym, ap, ◌∙◌}
use lib.Dec.{leb}
use borrow.Author.Tests.{le-leb, lt-leb}
use Rattle.rules.specs.declared.Message.TheVariants.{TwoLeg}
use Rattle.rules.specs.Refusals.{off_increment, edition_too_low, in_use, no_edition_left, id_too_low, on_closed, full, unknown}
use Rattle.places.specs.Layout.{venue_of}
use Rattle.place_writes.proofs.Closed.{dense-complex}
use Rattle.refusals.proofs.RefusalFound.{legs-in, refuses-low, refuses-closed, refuses-full, accepts}
use Rattle.refusals.proofs.complex_refusal.Goals as goal

pub returns-then-c-last_id : goal.returns-then-c-last_id
unfolding off_increment edition_too_low in_use no_edition_left id_too_low
returns-then-c-last_id c = refuses-low (venue_of c.args.numbers.now) (TwoLeg c.args.c) refl refl refl refl
    (ap (leb c.args.c.id) (sym c.last_id.ensures) ∙ le-leb _ _ c.if-c-last_id.true)

pub any_closed-requires : goal.any_closed-requires
any_closed-requires c = legs-in c.args.c c.requires.in_range

pub returns-then-any_closed : goal.returns-then-any_closed
unfolding off_increment edition_too_low in_use no_edition_left id_too_low on_closed
returns-then-any_closed c = refuses-closed (venue_of c.args.numbers.now) (TwoLeg c.args.c) refl refl
    refl refl (ap (leb c.args.c.id) (sym c.last_id.ensures) ∙ lt-leb _ _ c.if-c-last_id.false)
    (sym c.any_closed.ensures ∙ c.if-any_closed.true)

pub returns-then-complexes_used-ge32 : goal.returns-then-complexes_used-ge32
unfolding off_increment edition_too_low in_use no_edition_left id_too_low on_closed full
returns-then-complexes_used-ge32 c = refuses-full (venue_of c.args.numbers.now) (TwoLeg c.args.c) refl refl refl refl
    (ap (leb c.args.c.id) (sym c.last_id.ensures) ∙ lt-leb _ _
    c.if-c-last_id.false) (sym c.any_closed.ensures ∙ c.if-any_closed.false)
    (ap (leb 32) (dense-complex c.args.numbers.now c.requires.dense ∙ sym c.complexes_used.ensures.0) ∙ le-leb _ _ c.if-complexes_used-ge32.true)

pub returns : goal.returns
unfolding off_increment edition_too_low in_use no_edition_left id_too_low on_closed full unknown
returns c = accepts (venue_of c.args.numbers.now) (TwoLeg c.args.c) refl refl refl refl
    (ap (leb c.args.c.id) (sym c.last_id.ensures) ∙ lt-leb _ _
    c.if-c-last_id.false) (sym c.any_closed.ensures ∙ c.if-any_closed.false)
    (ap (leb 32) (dense-complex c.args.numbers.now c.requires.dense ∙ sym c.complexes_used.ensures.0) ∙ lt-leb _ _ c.if-complexes_used-ge32.false) refl
