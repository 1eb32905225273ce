-- Request (f): "The 68 records of one settling now come by rising place." So do those of all removals made together.
use mathlib.Core.List.{List, [], ◌∷◌, ◌++◌}
use Prim.Native.Nat.{ℕ, suc, ◌≤◌, ◌/◌, ◌%◌}
use native.Mathlib.Omega.{arith}
use Rattle.rules.specs.declared.Cause.{Cause}
use Rattle.rules.specs.declared.Legging.{Legging}
use Rattle.rules.specs.declared.Venue.{Venue}
use Rattle.rules.specs.declared.Verdict.{Verdict}
use Rattle.rules.specs.declared.Verdict.TheVariants.{Stands, Fails}
use Rattle.rules.specs.Base.{held}
use Rattle.rules.specs.Records.{Report, removed}
use Rattle.rules.specs.Removal.{goes, leavers, remove}
use Rattle.rules.specs.Standing.{settle, show_again, verdict}
use Rattle.rules.proofs.Cases.{if-by}

-- removals alone, by rising place, each place m (side m % 2 of series m / 2) at least n: so no place is told twice
pub data ByPlace : (n : ℕ) → List Report → Type 0 where
  none : {n : ℕ} → ByPlace n []
  next : {n : ℕ} (m : ℕ) → n ≤ m → (parent : ℕ) (c : Cause) {rs : List Report} → ByPlace (suc m) rs → ByPlace n (removed parent (m / 2) (m % 2) c ∷ rs)

-- those of places from suc n on are of places from n on
later : {n : ℕ} {rs : List Report} → ByPlace (suc n) rs → ByPlace n rs
later none = none
later {n} (next m h p c r) = next {n = n} m (omega arith) p c r

goes_first : (n : ℕ) (x : Verdict) (l : Legging) {rs : List Report} → ByPlace (suc n) rs → ByPlace n (goes n x l ++ rs)
unfolding goes
goes_first n Stands l r = later r
goes_first n (Fails c) l {rs} r =
    if-by (λ (a : List Report). ByPlace n (a ++ rs)) (held l.quantity) (λ _. next {n = n} n (omega arith) l.parent c r) (λ _. later r)

leavers-by-place : (f : ℕ → Legging → Verdict) (n : ℕ) (ls : List Legging) → ByPlace n (leavers f n ls)
unfolding leavers
leavers-by-place f n [] = none
leavers-by-place f n (l ∷ ls) = goes_first n (f n l) l (leavers-by-place f (suc n) ls)

-- "removals made together come by place"
pub removed-by-place : (f : ℕ → Legging → Verdict) (v : Venue) → ByPlace 0 (remove f v).reports
unfolding remove
removed-by-place f v = leavers-by-place f 0 v.legging

-- "The 68 records of one settling now come by rising place", of every venue
pub settled-by-place : (v : Venue) → ByPlace 0 (settle v).reports
unfolding settle
settled-by-place v = removed-by-place (verdict (show_again v)) (show_again v)
