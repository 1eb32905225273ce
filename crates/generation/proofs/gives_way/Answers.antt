-- `generation::gives_way` meets its contract.
use Rattle.generation.proofs.PartsLaws.{way-better, way-worse, way-other, way-class}
use Rattle.places.specs.Layout.{venue_of}
use Rattle.rules.specs.Standing.{parent_of}
use Rattle.rules.specs.Words.{place_of}
use Rattle.places.proofs.Parts.{legging-read}
use mathlib.Core.Path.{sym, ap, ◌∙◌}
use borrow.Author.Rules.{rules}
use Rattle.generation.proofs.gives_way.Goals as goal

pub returns-then-is_better : goal.returns-then-is_better
returns-then-is_better c = way-better _ c.args.c _ _ _ _ c.own_price-own.ensures (sym c.is_better.ensures ∙ c.if-is_better.true)

pub returns-then-p-own : goal.returns-then-p-own
returns-then-p-own c = way-worse _ c.args.c _ _ _ _ c.own_price-own.ensures
    (sym c.is_better.ensures ∙ c.if-is_better.false) c.if-p-own.true

pub returns-then-c-ne0 : goal.returns-then-c-ne0
returns-then-c-ne0 c = way-other _ c.args.c _ _ _ _
    c.own_price-own.ensures
    (sym c.is_better.ensures ∙ c.if-is_better.false) c.if-p-own.false
    c.if-c-ne0.true

pub legging_at-requires : goal.legging_at-requires
unfolding place_of
legging_at-requires c = search rules

pub returns : goal.returns
returns c = let a = c.args in let p = c.requires in
    way-class _ a.c _ _ _ _ c.own_price-own.ensures
    (sym c.is_better.ensures
    ∙ c.if-is_better.false) c.if-p-own.false
    c.if-c-ne0.false c.parent_of-holder.result
    (c.parent_of-holder.ensures ∙ ap (parent_of (venue_of a.numbers.now))
    (legging-read _ _ _ _ c.legging_at.result p.series p.side c.place_of.ensures
    c.legging_at.ensures))
