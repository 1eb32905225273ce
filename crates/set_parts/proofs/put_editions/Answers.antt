-- `set_parts::put_editions` meets its contract.
use mathlib.Core.Path.{refl, ap}
use native.Mathlib.Omega.{arith}
use Rattle.rules.specs.declared.Edition.{Edition}
use Rattle.rules.specs.Places.{holds_edition}
use Rattle.places.specs.Layout.{venue_of}
use Rattle.sets.specs.Set.{edition_record}
use Rattle.set_parts.specs.Parts.{record_if}
use Rattle.set_parts.proofs.SetMemoryLaws.{adds_same, left-next, left-none}
use Rattle.set_parts.proofs.PartsLaws.{kept_next, kept-none}
use Rattle.set_parts.proofs.put_editions.Goals as goal

pub loop-i-init : goal.loop-i-init
unfolding venue_of
loop-i-init c = refl

pub loop-i-preserved : goal.loop-i-preserved
loop-i-preserved c = left-next _ _ _ _ _ _ _ _ _ _ c.loop-i.invariant (kept_next edition_record holds_edition _ _ _ (omega arith))
    (adds_same _ _ _ _ c.put_edition-pos.ensures (ap (λ (e : Edition). record_if (holds_edition e) (edition_record e)) c.edition_at-e.ensures))

pub returns : goal.returns
unfolding venue_of
returns c = left-none _ _ _ _ _ _ c.loop-i.invariant (kept-none edition_record holds_edition _ _ _ (omega arith))
