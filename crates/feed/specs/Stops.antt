-- What stopped the handing out, that the fuel of Feed: `handed` is enough for it, and that the call never returns 1.
use Rattle.std.specs.Prelude.{◌≡◌, ◌≢◌, true, ◌&&◌, List, ℕ, suc, ◌<◌, length}
use Rattle.feed.specs.Feed.{faultless, parts_of, absent, under, stop, next, handed, feed}

-- the number after the last one handed out came up, and that is what came of it
abbrev pub StopsThere : Type 0
StopsThere = (main spare : List ℕ) → (faultless main && faultless spare) ≡ true →
    next (suc (length (handed main spare).messages)) (parts_of main) (parts_of spare) ≡ stop (handed main spare).number

-- where nothing stopped it, no number beyond the list stands on either line
abbrev pub NoneLeft : Type 0
NoneLeft = (main spare : List ℕ) → (handed main spare).number ≡ 0 → (k : ℕ) → length (handed main spare).messages < k →
    (under k (parts_of main) ≡ absent) × (under k (parts_of spare) ≡ absent)

-- "what a run of the list handed out returns, but 19 to 21": the list has whole messages only, as a torn line is a 21, so a run of it is never ended by 1
abbrev pub NeverTorn : Type 0
NeverTorn = (room : ℕ) (main spare : List ℕ) → (feed room main spare).returned.number ≢ 1
