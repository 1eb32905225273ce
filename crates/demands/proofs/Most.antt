-- No message upon a sound venue writes more than `most_report_bytes` bytes.
use mathlib.Core.Path.{◌∙◌, ap, refl}
use Prim.Native.Nat.{suc, ℕ}
use native.Mathlib.Omega.{arith}
use Rattle.rules.specs.declared.Complex.{Complex}
use Rattle.rules.specs.declared.Venue.{Venue}
use Rattle.rules.specs.Step.{step}
use Rattle.rules.specs.Calls.{after, called, ends, one}
use Rattle.demands.specs.Soundness.{SoundVenue}
use Rattle.demands.specs.Most.{Lengths, Parts, RoomEnough, WritesAtMost}
use Rattle.rules.proofs.CallsLaws.{not-exceeds, one_from-done}
use Rattle.rules.proofs.Costs.{Apart}
use Rattle.rules.proofs.Matching.{Housed}
use Rattle.rules.proofs.Worth.{lengths, written}
use Rattle.rules.proofs.Written.{places, step-writes}
use Rattle.demands.proofs.Homes.{parent-found}
use Rattle.demands.proofs.SoundnessLaws.{sound-out}

pub record-lengths : Lengths
record-lengths = lengths

pub parts : Parts
parts = refl

-- each legging order of a sound venue has its complex order
sound-housed : (v : Venue) → SoundVenue v → (n : ℕ) → Housed n v
unfolding Housed
sound-housed v s n h =
    let f = (sound-out v s).fine in
    ap (λ (c : Complex). c.id) (parent-found v f n h) ∙ (f.homes.home n h).id

sound-apart : (v : Venue) → SoundVenue v → (i : ℕ) → Apart i v
unfolding Apart
sound-apart v s i h = ((sound-out v s).fine.good.ranges i h).apart

pub writes-at-most : WritesAtMost
writes-at-most v s number bs =
    let a = step-writes v (record { places32 = s.shaped.complex; housed = sound-housed v s; apart = sound-apart v s }) number bs in
    let x = s.shaped.regular in
    let y = s.shaped.complex in
    let z = s.shaped.legging in
    rw (written (step v number bs).effect.reports) (unfold places in (omega arith))

pub room-enough : RoomEnough
unfolding one called after ends
room-enough v n s room bs few enough =
    let w = writes-at-most v s.venue (suc n) bs in
    rw (one_from-done v n room bs s.venue.is s.next (not-exceeds (suc n) room (step v (suc n) bs).effect.reports (omega arith) (omega arith)))
