-- `soundness::load_sound` meets its contract.
use mathlib.Core.Path.{sym, ◌∙◌}
use Rattle.soundness.proofs.CheckedLaws.{checked-not, checked, places-load}
use Rattle.soundness.proofs.load_sound.Goals as goal

pub returns-then-not-places_sound : goal.returns-then-not-places_sound
returns-then-not-places_sound c = checked-not _ _ (sym c.places_sound.ensures ∙ c.if-not-places_sound.true)

pub load-requires : goal.load-requires
load-requires c = places-load c.args.v (sym c.places_sound.ensures ∙ c.if-not-places_sound.false)

pub orders_sound-requires : goal.orders_sound-requires
orders_sound-requires c =
    c.load.ensures.dense.right

pub returns : goal.returns
returns c = checked _ _ _
    (sym c.places_sound.ensures ∙ c.if-not-places_sound.false) c.load.ensures c.orders_sound.ensures
