-- `soundness::orders_sound` meets its contract.
use mathlib.Core.Path.{sym, ◌∙◌}
use mathlib.Core.Bool.{◌&&◌}
use Rattle.rules.specs.Base.{all}
use Rattle.rules.specs.Sound.{apart, leggings_sound, ids_distinct}
use Rattle.rules.proofs.Tests.{and_in}
use Rattle.places.specs.Layout.{venue_of}
use Rattle.soundness.specs.Checked.{on_increments, eight}
use Rattle.sound_places.proofs.Passes.{out_of_range, out-of-last, first-fails, second-fails, last-decides}
use Rattle.soundness.proofs.CheckedLaws.{orders-are}
use Rattle.soundness.proofs.orders_sound.Goals as goal

pub on_increments-requires : goal.on_increments-requires
on_increments-requires c = c.requires.marked.figures

pub returns-then-not-on_increments : goal.returns-then-not-on_increments
returns-then-not-on_increments c = let b = c.args.numbers.now in let v = venue_of b in first-fails (on_increments v && ids_distinct v)
    (all (apart v) eight) (leggings_sound v 0 v.legging)
    (out_of_range (on_increments v) (ids_distinct v) (sym c.on_increments.ensures ∙ c.if-not-on_increments.true)) ∙ orders-are b
    (c.fits-numbers 778)

pub returns-then-not-ids_distinct : goal.returns-then-not-ids_distinct
returns-then-not-ids_distinct c = let b = c.args.numbers.now in let v = venue_of b in first-fails (on_increments v && ids_distinct v)
    (all (apart v) eight) (leggings_sound v 0 v.legging)
    (out-of-last (on_increments v) (ids_distinct v) (sym c.ids_distinct.ensures ∙ c.if-not-ids_distinct.true)) ∙ orders-are b
    (c.fits-numbers 778)

pub all_apart-requires : goal.all_apart-requires
all_apart-requires c = c.requires

pub returns-then-not-all_apart : goal.returns-then-not-all_apart
unfolding all
returns-then-not-all_apart c = let b = c.args.numbers.now in let v = venue_of b in
    second-fails (on_increments v && ids_distinct v) (all (apart v) eight) (leggings_sound v 0 v.legging)
    (sym c.all_apart.ensures ∙ c.if-not-all_apart.true) ∙ orders-are b
    (c.fits-numbers 778)

pub levels-g-requires : goal.levels-g-requires
levels-g-requires c = c.requires

pub leggings_sound-requires : goal.leggings_sound-requires
leggings_sound-requires c = record { grid = c.levels-g.ensures; figures = c.requires.marked.figures }

pub returns : goal.returns
unfolding all
returns c = let b = c.args.numbers.now in let v = venue_of b in
    c.leggings_sound.ensures ∙ last-decides (on_increments v && ids_distinct v) (all (apart v) eight) (leggings_sound v 0 v.legging)
    (and_in (on_increments v) (ids_distinct v)
    (sym c.on_increments.ensures ∙ c.if-not-on_increments.false)
    (sym c.ids_distinct.ensures ∙ c.if-not-ids_distinct.false))
    (sym c.all_apart.ensures ∙ c.if-not-all_apart.false) ∙ orders-are b
    (c.fits-numbers 778)
