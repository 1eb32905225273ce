-- `soundness::load_ready` meets its contract.
use mathlib.Core.Path.{sym, ◌∙◌}
use Rattle.soundness.proofs.ReadyFor.{unready, ready-last, ready-next}
use Rattle.soundness.proofs.load_ready.Goals as goal

pub returns-then-not-load_sound : goal.returns-then-not-load_sound
returns-then-not-load_sound c = unready c.args.venue c.args.before _
    (sym c.load_sound.ensures.answer ∙ c.if-not-load_sound.true)

pub returns-then-before-eq4294967295 : goal.returns-then-before-eq4294967295
returns-then-before-eq4294967295 c = let t = c.if-not-load_sound.false in ready-last c.args.venue c.args.before _ (sym c.load_sound.ensures.answer ∙ t) (c.load_sound.ensures.loaded t) c.if-before-eq4294967295.true

pub returns : goal.returns
returns c = let t = c.if-not-load_sound.false in
    ready-next c.args.venue c.args.before _ (sym c.load_sound.ensures.answer ∙ t) (c.load_sound.ensures.loaded t) _ c.follows_kept.ensures
