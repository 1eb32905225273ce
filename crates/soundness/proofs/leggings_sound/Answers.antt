-- `soundness::leggings_sound` meets its contract.
use mathlib.Core.Path.{sym, ◌∙◌}
use Rattle.places.specs.Layout.{venue_of}
use Rattle.soundness.proofs.Beside.{leggings-past, leggings-stop, leggings-none, leggings-scan}
use Rattle.soundness.proofs.leggings_sound.Goals as goal

pub loop-n-init : goal.loop-n-init
loop-n-init c = (leggings-scan c.args.numbers.now)

pub returns-then-not-legging_sound : goal.returns-then-not-legging_sound
returns-then-not-legging_sound c = leggings-stop c.args.numbers.now (venue_of c.args.numbers.now)
    c.loop-n.n c.loop-n-test.true (sym c.legging_sound.ensures ∙ c.if-not-legging_sound.true)
    ∙ c.loop-n.invariant

pub loop-n-preserved : goal.loop-n-preserved
loop-n-preserved c =
    leggings-past c.args.numbers.now
    (venue_of c.args.numbers.now) c.loop-n.n c.loop-n-test.true
    (sym c.legging_sound.ensures ∙ c.if-not-legging_sound.false) ∙ c.loop-n.invariant

pub returns : goal.returns
returns c = leggings-none c.args.numbers.now (venue_of c.args.numbers.now)
    c.loop-n.n c.loop-n-test.false ∙ c.loop-n.invariant
