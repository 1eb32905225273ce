use mathlib.Core.Path.{◌≡◌}
use Prim.Native.Nat.{◌-◌}
use Rattle.rules.specs.Sound.{leggings_sound}
use Rattle.places.specs.Layout.{upto, legging_in, venue_of}
use Rattle.soundness.proofs.leggings_sound.Given as goal

abbrev pub invariant-loop-n : goal.invariant-loop-n
invariant-loop-n l = leggings_sound (venue_of l.numbers) l.n (upto (legging_in l.numbers) l.n (16 - l.n)) ≡ leggings_sound (venue_of l.numbers) 0 (venue_of l.numbers).legging
