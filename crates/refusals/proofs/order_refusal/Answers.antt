-- `refusals::order_refusal` meets its contract.
use mathlib.Core.Path.{◌≡◌, refl, sym, ap, ◌∙◌}
use mathlib.Core.Bool.{false}
use Prim.Native.Nat.{ℕ}
use lib.Dec.{leb, eqb}
use borrow.Author.Tests.{le-leb, lt-leb, eq-eqb, ne_eqb}
use Rattle.rules.specs.declared.Message.TheVariants.{Order}
use Rattle.rules.specs.Words.{closed}
use Rattle.rules.specs.Refusals.{off_increment, edition_too_low, in_use, no_edition_left, id_too_low, on_closed, full, unknown}
use Rattle.places.specs.Layout.{venue_of}
use Rattle.venue_numbers.proofs.Loaded.{regular-side}
use Rattle.place_writes.proofs.Closed.{dense-regular}
use Rattle.refusals.proofs.RefusalFound.{refuses-off, refuses-low, refuses-closed, refuses-full, accepts}
use Rattle.refusals.proofs.order_refusal.Goals as goal

pub off_increment-requires : goal.off_increment-requires
off_increment-requires c = record { series = (regular-side c.args.o c.requires.in_range).series; figures = c.requires.dense.right.marked.figures }

pub returns-then-off_increment : goal.returns-then-off_increment
returns-then-off_increment c = refuses-off (venue_of c.args.numbers.now) (Order c.args.o) (sym c.off_increment.ensures ∙ c.if-off_increment.true)

pub returns-then-o-last_id : goal.returns-then-o-last_id
unfolding edition_too_low in_use no_edition_left id_too_low
returns-then-o-last_id c =
    let on-increment : off_increment (venue_of c.args.numbers.now) (Order c.args.o) ≡ false = sym c.off_increment.ensures ∙ c.if-off_increment.false in
    refuses-low (venue_of c.args.numbers.now) (Order c.args.o)
    on-increment refl refl refl
    (ap (leb c.args.o.id) (sym c.last_id.ensures) ∙ le-leb _ _ c.if-o-last_id.true)

pub status_of-requires : goal.status_of-requires
status_of-requires c = (regular-side c.args.o c.requires.in_range).series

pub returns-then-status_of-eq0 : goal.returns-then-status_of-eq0
unfolding edition_too_low in_use no_edition_left id_too_low on_closed
returns-then-status_of-eq0 c =
    let on-increment : off_increment (venue_of c.args.numbers.now) (Order c.args.o) ≡ false = sym c.off_increment.ensures ∙ c.if-off_increment.false in
    refuses-closed (venue_of c.args.numbers.now)
    (Order c.args.o) on-increment refl refl refl
    (ap (leb c.args.o.id) (sym c.last_id.ensures) ∙ lt-leb _ _ c.if-o-last_id.false)
    (ap (λ (x : ℕ). eqb x closed) (sym c.status_of.ensures) ∙ eq-eqb _ _ c.if-status_of-eq0.true)

pub returns-then-regulars_used-ge128 : goal.returns-then-regulars_used-ge128
unfolding edition_too_low in_use no_edition_left id_too_low on_closed full
returns-then-regulars_used-ge128 c =
    let on-increment : off_increment (venue_of c.args.numbers.now) (Order c.args.o) ≡ false = sym c.off_increment.ensures ∙ c.if-off_increment.false in
    refuses-full (venue_of c.args.numbers.now)
    (Order c.args.o) on-increment refl refl refl
    (ap (leb c.args.o.id) (sym c.last_id.ensures) ∙ lt-leb _ _
    c.if-o-last_id.false)
    (ap (λ (x : ℕ). eqb x closed) (sym c.status_of.ensures) ∙ ne_eqb _ _ c.if-status_of-eq0.false)
    (ap (leb 128) (dense-regular c.args.numbers.now c.requires.dense ∙ sym c.regulars_used.ensures.0) ∙ le-leb _ _ c.if-regulars_used-ge128.true)

pub returns : goal.returns
unfolding edition_too_low in_use no_edition_left id_too_low on_closed full unknown
returns c =
    let on-increment : off_increment (venue_of c.args.numbers.now) (Order c.args.o) ≡ false = sym c.off_increment.ensures ∙ c.if-off_increment.false in
    accepts (venue_of c.args.numbers.now) (Order c.args.o) on-increment refl
    refl refl (ap (leb c.args.o.id) (sym c.last_id.ensures) ∙ lt-leb _ _
    c.if-o-last_id.false)
    (ap (λ (x : ℕ). eqb x closed) (sym c.status_of.ensures) ∙ ne_eqb _ _ c.if-status_of-eq0.false)
    (ap (leb 128) (dense-regular c.args.numbers.now c.requires.dense ∙ sym c.regulars_used.ensures.0) ∙ lt-leb _ _ c.if-regulars_used-ge128.false) refl
