-- The complex orders of a sound venue rest in rising id.
use mathlib.Core.Path.{◌≡◌, refl}
use mathlib.Core.Bool.{true}
use Rattle.rules.specs.declared.Venue.{Venue}
use Rattle.rules.specs.Words.{no_complex}
use Rattle.rules.specs.Places.{holds_complex, blank_complex}
use Rattle.rules.specs.Sound.{complexes_sound, sound}
use Rattle.rules.proofs.Tests.{and_l, and_r}
use Rattle.rules.proofs.Arranging.{arranged-out, blank-free_c}
use Rattle.sweeps.specs.Rising.{Rising}

complexes-rise : (v : Venue) → complexes_sound v ≡ true → Rising v.complex
unfolding complexes_sound
complexes-rise v h =
    let a = arranged-out no_complex holds_complex _ blank_complex (λ c. c.id) blank-free_c (unfold blank_complex in refl) 0 v.complex h in
    record { above = a.above; rises = a.rises }

pub sound-rising : (v : Venue) → sound v ≡ true → Rising v.complex
unfolding sound
sound-rising v h =
    let c : complexes_sound v ≡ true = search (and_l, and_r, h) depth 10 in
    complexes-rise v c
