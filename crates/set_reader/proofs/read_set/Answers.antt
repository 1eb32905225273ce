-- `set_reader::read_set` meets its contract.
use mathlib.Core.Path.{◌≡◌, sym, ◌∙◌}
use native.Mathlib.Omega.{arith}
use Rattle.set_check.specs.declared.SetError.{SetError}
use Rattle.set_check.specs.declared.SetError.TheVariants.{NoSet, NoPlace}
use Rattle.set_check.specs.Order.{error_number}
use Rattle.sets.specs.Set.{number_told}
use Rattle.set_reader.proofs.ReturnedLaws.{looked-taken, looked-refused, carries-refused, carries-read}
use Rattle.set_reader.proofs.read_set.Goals as goal

some-number : (e : SetError) → error_number e ≡ 0 → ⊥
some-number NoSet h = omega (arith, h)
some-number NoPlace h = omega (arith, h)

pub returns-in-Err : goal.returns-in-Err
returns-in-Err c = c.refused.ensures ∙ looked-refused _ _ (c.number.ensures ∙ c.in-Err.ensures) (λ z. some-number _ (sym c.number.ensures ∙ z))

pub venue_told-venue-requires : goal.venue_told-venue-requires
venue_told-venue-requires c = looked-taken _ c.in_default.ensures

pub first_told-message-requires : goal.first_told-message-requires
first_told-message-requires c = looked-taken _ c.in_default.ensures

pub returns-then-not-is_carried : goal.returns-then-not-is_carried
unfolding number_told
returns-then-not-is_carried c = c.refused-then-not-is_carried.ensures ∙ carries-refused _
    (looked-taken _ c.in_default.ensures) _
    c.venue_told-venue.ensures _ c.first_told-message.ensures _
    c.is_carried.ensures c.if-not-is_carried.true

pub returns : goal.returns
unfolding number_told
returns c = carries-read _
    (looked-taken _ c.in_default.ensures) _
    c.venue_told-venue.ensures _ c.first_told-message.ensures _ c.is_carried.ensures
    c.if-not-is_carried.false
