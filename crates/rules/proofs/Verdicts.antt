-- The standing test, passed: its four facts.
use Rattle.std.specs.Prelude.{if◌then◌else◌}
use mathlib.Core.Path.{◌≡◌, refl}
use mathlib.Core.Bool.{Bool, true, false, not}
use Prim.Native.Nat.{ℕ}
use native.Mathlib.Omega.{arith}
use Rattle.rules.specs.declared.Complex.{Complex}
use Rattle.rules.specs.declared.Legging.{Legging}
use Rattle.rules.specs.declared.Venue.{Venue}
use Rattle.rules.specs.declared.Cause.TheVariants.{Worse, Unpaired, OutOfBand, NotOpen}
use Rattle.rules.specs.declared.Verdict.{Verdict}
use Rattle.rules.specs.declared.Verdict.TheVariants.{Stands, Fails}
use Rattle.rules.specs.Prices.{in_band}
use Rattle.rules.specs.Standing.{both_open, displayed_no_worse, pairs, verdict_of}

pub record Passes (v : Venue) (c : Complex) (s d : ℕ) (l : Legging) : Type 0 where
  pub displayed : displayed_no_worse v s d l.price ≡ true
  pub band : in_band v c c.limit ≡ true
  pub pair : pairs v c s d l.price l.quantity ≡ true
  pub opens : both_open v c ≡ true

abbrev pub ladder : (a b c d : Bool) → Verdict
ladder a b c d =
    if not a then Fails Worse else if not b then Fails OutOfBand else if not c then Fails Unpaired else if not d then Fails NotOpen else Stands

pub fails-never {ℓ} : {A : Type ℓ} {x : _} → Fails x ≡ Stands → A
fails-never h = let z : ◌≡◌ {A = ℕ} 0 1 = cc in absurd (omega arith)

pub record All4 (a b c d : Bool) : Type 0 where
  pub p1 : a ≡ true
  pub p2 : b ≡ true
  pub p3 : c ≡ true
  pub p4 : d ≡ true

all4 : (a b c d : Bool) → ladder a b c d ≡ Stands → All4 a b c d
all4 false b c d h = fails-never h
all4 true false c d h = fails-never h
all4 true true false d h = fails-never h
all4 true true true false h = fails-never h
all4 true true true true h = record { p1 = refl; p2 = refl; p3 = refl; p4 = refl }

pub passed : {v : Venue} {c : Complex} {s d : ℕ} {l : Legging} → verdict_of v c s d l ≡ Stands → Passes v c s d l
unfolding verdict_of
passed h =
    let a = all4 _ _ _ _ h in
    record { displayed = a.p1; band = a.p2; pair = a.p3; opens = a.p4 }

pub passing : {v : Venue} {c : Complex} {s d : ℕ} {l : Legging} → Passes v c s d l → verdict_of v c s d l ≡ Stands
unfolding verdict_of
passing p = rw (p.displayed, p.band, p.pair, p.opens)
