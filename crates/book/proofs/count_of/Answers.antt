-- `book::count_of` meets its contract.
use native.Mathlib.Omega.{arith}
use lib.Count.{ones-le}
use Rattle.book.proofs.count_of.Goals as goal

pub overflow_cast-result : goal.overflow_cast-result
overflow_cast-result c = let h = ones-le 16 c.args.mask c.ranges.mask.fits in record { fits = omega arith }
