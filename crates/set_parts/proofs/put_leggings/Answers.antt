-- `set_parts::put_leggings` meets its contract.
use mathlib.Core.Path.{refl}
use native.Mathlib.Omega.{arith}
use Rattle.places.specs.Layout.{venue_of}
use Rattle.set_parts.proofs.SetMemoryLaws.{left-next, left-none}
use Rattle.set_parts.proofs.PartsLaws.{leggings-next, leggings-none}
use Rattle.set_parts.proofs.put_leggings.Goals as goal

pub loop-s-init : goal.loop-s-init
unfolding venue_of
loop-s-init c = refl

pub loop-s-preserved : goal.loop-s-preserved
loop-s-preserved c = left-next _ _ _ _ _ _ _ _ _ _ c.loop-s.invariant (leggings-next _ _ (omega arith)) c.put_sides-pos.ensures

pub returns : goal.returns
unfolding venue_of
returns c = left-none _ _ _ _ _ _ c.loop-s.invariant (leggings-none _ _ (omega arith))
