-- `settings::settings` meets its contract.
use mathlib.Core.Path.{sym, ◌∙◌}
use Rattle.settings.proofs.ForcedLaws.{settings-not, settings-told}
use Rattle.settings.proofs.settings.Goals as goal

pub returns-then-not-load_sound : goal.returns-then-not-load_sound
returns-then-not-load_sound c = settings-not c.args.venue c.args.number (sym c.load_sound.ensures.answer ∙ c.if-not-load_sound.true)

pub returns : goal.returns
returns c = settings-told c.args.venue c.args.number
    (sym c.load_sound.ensures.answer ∙ c.if-not-load_sound.false) _ _
    c.increments_at-increments.ensures c.value_at-percent.ensures
