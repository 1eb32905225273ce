-- The witness, by computation.
use mathlib.Core.Path.{◌≡◌, refl, sym}
use mathlib.Core.List.{List, Memᴰ, [], ◌∷◌}
use Prim.Native.Nat.{◌<◌, suc, zero, ℕ}
use native.Mathlib.Omega.{arith}
use lib.ListN.{get_or, length}
use borrow.Author.Tests.{ltb-true}
use Rattle.rules.specs.Records.{Report, answer, cancelled}
use Rattle.rules.specs.Opened.{opened-rules}
use Rattle.demands.specs.Demand.{call_upon, calls, extend, given_to, opening, parts, start}
use Rattle.witness.specs.Witness.{Witness, arriving, at_end, bytes_of, causes, kind_of, later, of_kind, regular_sums, session, sums, unit_sums}

-- what stands at a place of a list is one of it
pub at_mem : {A : Type 0} (l : List A) (n : ℕ) (d r : A) → n < length l → get_or l n d ≡ r → Memᴰ r l
at_mem [] n d r h e = absurd (omega arith)
at_mem (x ∷ l) zero d r h e = Memᴰ.head (sym e)
at_mem (x ∷ l) (suc n) d r h e = Memᴰ.tail (at_mem l n d r (omega arith) e)

told : Memᴰ (answer 5 0 5 2) at_end.reports
unfolding opened-rules bytes_of session later at_end start extend parts opening calls call_upon given_to
told = at_mem at_end.reports 4 (cancelled 0 0) (answer 5 0 5 2) (ltb-true 4 (length at_end.reports) refl) refl

told-regular : Memᴰ (answer 4 0 0 0) at_end.reports
unfolding opened-rules bytes_of session later at_end start extend parts opening calls call_upon given_to
told-regular = at_mem at_end.reports 3 (cancelled 0 0) (answer 4 0 0 0) (ltb-true 3 (length at_end.reports) refl) refl

told-units : Memᴰ (answer 34 0 0 0) at_end.reports
unfolding opened-rules bytes_of session later at_end start extend parts opening calls call_upon given_to
told-units = at_mem at_end.reports 78 (cancelled 0 0) (answer 34 0 0 0) (ltb-true 78 (length at_end.reports) refl) refl

told-reserve : Memᴰ (answer 37 0 5 2) at_end.reports
unfolding opened-rules bytes_of session later at_end start extend parts opening calls call_upon given_to
told-reserve = at_mem at_end.reports 86 (cancelled 0 0) (answer 37 0 5 2) (ltb-true 86 (length at_end.reports) refl) refl

pub witness : Witness
unfolding opened-rules bytes_of session later at_end kind_of of_kind causes sums unit_sums regular_sums arriving start extend parts opening calls call_upon given_to
witness = record {
  done = refl;
  standing = refl;
  standing' = refl;
  made = refl;
  trades = refl;
  pairs = refl;
  crosses = refl;
  cancels = refl;
  removals = refl;
  accepted = record { before = 4; is = refl; mask = 5; count = 2; told = told };
  account = refl;
  units_accepted = record { before = 33; is = refl; mask = 0; count = 0; told = told-units };
  units_account = refl;
  regular_accepted = record { before = 3; is = refl; mask = 0; count = 0; told = told-regular };
  regular_account = refl;
  reserve_accepted = record { before = 36; is = refl; mask = 5; count = 2; told = told-reserve };
  reserve_account = refl;
  shows = refl;
  free = refl;
  hits = refl;
  others = refl;
  maker = refl;
}
