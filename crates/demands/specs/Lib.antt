-- The statements: Demand 3 (Demand), soundness is kept (Soundness), the sheet reads back (ReadsBack), the most that one message writes
-- (Most), a run and the calls that take the same list agree (Agree), the sheet tells the truth about itself (Truth), which orders go by the
-- rank of causes (Ranks), every cross respects the legs (Crosses), the settings tell what held when (Dates), what trades take of shown size
-- and of reserve (Reserve), the ceiling on legging traffic holds (Ceiling), limited sweeps go round (LimitedSweeps).
--
-- The notation is explained in the Lib of the rules (crates/rules/specs/Lib.antt). These are new:
--   n ≤ m, n < m              n is at most m, n is below m, as a statement (leb and ltb are the tests of it)
--   ⊥                         the statement that never holds
--   R : Type 0                R is a statement, or a type
--   data R … where            R holds in the cases that follow, each with a name;  of a type: these are its values
--   {x : A} → B               for every x of type A, B: as (x : A) → B, but whoever uses it does not write x
pub mod Demand
pub mod Soundness
pub mod ReadsBack
pub mod Most
pub mod Agree
pub mod Truth
pub mod Ranks
pub mod Crosses
pub mod Dates
pub mod Reserve
pub mod Ceiling
pub mod LimitedSweeps
