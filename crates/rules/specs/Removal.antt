-- Removal of legging orders: each place's verdict is given, those that fail go together, and their records come by rising place.
-- "Outside settling, removals made together come by place." 01 of a settling: "The 68 records of one settling may come in any order, each
-- once." Request (f): "The 68 records of one settling now come by rising place."
use Rattle.std.specs.Prelude.{Bool, List, [], ◌∷◌, ◌++◌, ℕ, suc, ◌/◌, ◌%◌, eqb, if◌then◌else◌}
use Rattle.rules.specs.declared.Legging.{Legging}
use Rattle.rules.specs.declared.Venue.{Venue}
use Rattle.rules.specs.declared.Cause.{Cause}
use Rattle.rules.specs.declared.Verdict.{Verdict}
use Rattle.rules.specs.declared.Verdict.TheVariants.{Stands, Fails}
use Rattle.rules.specs.Base.{held}
use Rattle.rules.specs.Words.{no_legging, with_legging}
use Rattle.rules.specs.Records.{Report, removed}
use Rattle.rules.specs.Effects.{Effect}

-- what is left at a place where l stands: l, or after a failure an empty place
unfoldable pub stay : Verdict → (l : Legging) → Legging
stay Stands l = l
stay (Fails c) l = if held l.quantity then no_legging else l

-- the record of what goes from place n, or none; place n is side n % 2 of series n / 2
unfoldable pub goes : (place : ℕ) → Verdict → (l : Legging) → List Report
goes n Stands l = []
goes n (Fails c) l = if held l.quantity then removed l.parent (n / 2) (n % 2) c ∷ [] else []

-- What is left at the places from n on, where the orders of the list stand: at each place what `stay` leaves there. f gives the verdict
-- on a place and the order there.
unfoldable pub stayers : (f : (place : ℕ) → Legging → Verdict) → (n : ℕ) → List Legging → List Legging
stayers f n [] = []
stayers f n (l ∷ ls) = stay (f n l) l ∷ stayers f (suc n) ls

-- The records of those that go from the places from n on, by rising place.
unfoldable pub leavers : (f : (place : ℕ) → Legging → Verdict) → (n : ℕ) → List Legging → List Report
leavers f n [] = []
leavers f n (l ∷ ls) = goes n (f n l) l ++ leavers f (suc n) ls

-- the legging orders that fail by f go, and their records are written
unfoldable pub remove : (f : (place : ℕ) → Legging → Verdict) → Venue → Effect
remove f v = record { venue = with_legging v (stayers f 0 v.legging); reports = leavers f 0 v.legging }

unfoldable pub fail_if : Bool → Cause → Verdict
fail_if t c = if t then Fails c else Stands

-- "removal of all its parent's legging orders"
unfoldable pub remove_of : (parent : ℕ) → Cause → Venue → Effect
remove_of id c = remove (λ n l. fail_if (eqb l.parent id) c)
