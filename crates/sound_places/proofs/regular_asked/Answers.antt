-- `sound_places::regular_asked` meets its contract.
use mathlib.Core.Path.{sym, ◌∙◌}
use Rattle.rules.specs.Refusals.{regular_in_range}
use Rattle.rules.specs.Sound.{shows_fully}
use Rattle.sound_places.proofs.Passes.{display-in, shows-less, shows-all, first-fails, second-fails, last-decides}
use Rattle.sound_places.proofs.regular_asked.Goals as goal

pub returns-then-not-regular_in_range : goal.returns-then-not-regular_in_range
returns-then-not-regular_in_range c = first-fails _ _ _ (sym c.regular_in_range.ensures ∙ c.if-not-regular_in_range.true)

pub overflow_sub-o : goal.overflow_sub-o
overflow_sub-o c = display-in c.args.o (sym c.regular_in_range.ensures ∙ c.if-not-regular_in_range.false)

pub returns-then-o : goal.returns-then-o
returns-then-o c =
    let o = c.args.o in
    second-fails (regular_in_range o) (shows_fully o) _ (shows-less o c.if-o.true)

pub returns : goal.returns
returns c =
    let o = c.args.o in
    last-decides (regular_in_range o) (shows_fully o) _ (sym c.regular_in_range.ensures ∙ c.if-not-regular_in_range.false) (shows-all o c.if-o.false)
