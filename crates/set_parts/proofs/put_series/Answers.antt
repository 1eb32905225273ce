-- `set_parts::put_series` meets its contract.
use mathlib.Core.Path.{refl, ap}
use mathlib.Core.List.{◌++◌}
use native.Mathlib.Omega.{arith}
use Rattle.rules.specs.declared.Listed.{Listed}
use Rattle.rules.specs.declared.Message.TheVariants.{Away, Status}
use Rattle.rules.specs.Messages.{encode_message}
use Rattle.places.specs.Layout.{venue_of}
use Rattle.set_parts.proofs.SetMemoryLaws.{adds_same, left-next, left-none}
use Rattle.set_parts.proofs.PartsLaws.{series-next, series-none}
use Rattle.set_parts.proofs.put_series.Goals as goal

pub loop-s-init : goal.loop-s-init
unfolding venue_of
loop-s-init c = refl

pub loop-s-preserved : goal.loop-s-preserved
loop-s-preserved c = left-next _ _ _ _ _ _ _ _ _ _ c.loop-s.invariant (series-next _ _ (omega arith))
    (adds_same _ _ _ _ c.put_listed-pos.ensures
    (ap (λ (x : Listed). encode_message (Status c.loop-s.s x.status) ++ encode_message
    (Away c.loop-s.s x.bid x.offer))
    c.listed_at-x.ensures))

pub returns : goal.returns
unfolding venue_of
returns c = left-none _ _ _ _ _ _ c.loop-s.invariant (series-none _ _ (omega arith))
