-- Removal place by place, and by the number of a cause for each place.
use Rattle.std.specs.Prelude.{ℕ, zero, suc, ◌/◌, ◌%◌, eqb, get_or, if◌then◌else◌}
use Rattle.rules.specs.declared.Legging.{Legging}
use Rattle.rules.specs.declared.Venue.{Venue}
use Rattle.rules.specs.declared.Cause.TheVariants.{Worse, Unpaired, Executed, Withdrawn, OutOfBand, NotOpen, Replaced, Touched, NoUnit}
use Rattle.rules.specs.declared.Verdict.{Verdict}
use Rattle.rules.specs.declared.Verdict.TheVariants.{Stands, Fails}
use Rattle.rules.specs.Words.{no_legging}
use Rattle.rules.specs.Effects.{Effect}
use Rattle.rules.specs.Removal.{stay, goes}
use Rattle.rules.specs.Generation.{placed}

-- what the verdict x does at place n
unfoldable pub remove_place : (place : ℕ) → Verdict → Venue → Effect
remove_place n x v =
    let l = get_or v.legging n no_legging in
    record { venue = placed n (stay x l) v; reports = goes n x l }

-- the verdict of a number: that cause's, and Stands for a number that is no cause's
unfoldable pub verdict_by : ℕ → Verdict
verdict_by x =
    if eqb x 1 then Fails Worse
    else if eqb x 2 then Fails Unpaired
    else if eqb x 3 then Fails Executed
    else if eqb x 4 then Fails Withdrawn
    else if eqb x 5 then Fails OutOfBand
    else if eqb x 6 then Fails NotOpen
    else if eqb x 7 then Fails Replaced
    else if eqb x 8 then Fails Touched
    else if eqb x 10 then Fails NoUnit
    else Stands

-- the number of a place in causes: a digit to the base 16 for each place, the lowest that of place 0
unfoldable pub cause_at : (causes place : ℕ) → ℕ
cause_at causes zero = causes % 16
cause_at causes (suc n) = cause_at (causes / 16) n

-- each place by its number
unfoldable pub verdict_in : (causes place : ℕ) → Legging → Verdict
verdict_in causes n l = verdict_by (cause_at causes n)
