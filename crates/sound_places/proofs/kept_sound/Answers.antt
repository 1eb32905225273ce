-- `sound_places::kept_sound` meets its contract.
use mathlib.Core.Path.{sym, ◌∙◌}
use lib.Dec.{leb}
use Rattle.rules.specs.Base.{all}
use Rattle.rules.specs.Sound.{editions_sound, generations_sound}
use Rattle.sound_places.specs.Checked.{editions_from, numbers_from, numbers_sound, kept_sound}
use Rattle.sound_places.proofs.Passes.{first-fails, second-fails, last-decides}
use Rattle.sound_places.proofs.kept_sound.Goals as goal

pub returns-then-not-editions_sound : goal.returns-then-not-editions_sound
unfolding kept_sound editions_sound editions_from
returns-then-not-editions_sound c = let v = c.args.v.now in first-fails (editions_sound v) (generations_sound v) (leb v.reached v.last)
    (sym c.editions_sound.ensures ∙ c.if-not-editions_sound.true)

pub returns-then-not-generations_sound : goal.returns-then-not-generations_sound
unfolding kept_sound generations_sound numbers_sound numbers_from all
returns-then-not-generations_sound c = let v = c.args.v.now in second-fails (editions_sound v) (generations_sound v)
    (leb v.reached v.last) (sym c.generations_sound.ensures ∙ c.if-not-generations_sound.true)

pub returns : goal.returns
unfolding kept_sound editions_sound editions_from generations_sound numbers_sound numbers_from all
returns c = let v = c.args.v.now in last-decides (editions_sound v) (generations_sound v)
    (leb v.reached v.last)
    (sym c.editions_sound.ensures ∙ c.if-not-editions_sound.false)
    (sym c.generations_sound.ensures ∙ c.if-not-generations_sound.false)
