-- `soundness::follows_kept` meets its contract.
use mathlib.Core.Path.{sym, ◌∙◌}
use Rattle.places.specs.Layout.{venue_of}
use Rattle.soundness.proofs.Beside.{follows-not, follows-rest}
use Rattle.soundness.proofs.follows_kept.Goals as goal

pub returns-then-not-follows_editions : goal.returns-then-not-follows_editions
returns-then-not-follows_editions c = follows-not c.args.number (venue_of c.args.numbers.now) (sym c.follows_editions.ensures ∙ c.if-not-follows_editions.true)

pub returns : goal.returns
returns c = c.follows_generations.ensures ∙ follows-rest c.args.number
    (venue_of c.args.numbers.now) (sym c.follows_editions.ensures ∙ c.if-not-follows_editions.false)
