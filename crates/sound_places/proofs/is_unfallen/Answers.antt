-- `sound_places::is_unfallen` meets its contract.
use mathlib.Core.Path.{sym}
use native.Mathlib.Omega.{arith}
use borrow.Author.Tests.{le-leb}
use lib.Dec.{leb}
use Rattle.rules.proofs.Tests.{and-true}
use Rattle.sound_places.proofs.is_unfallen.Goals as goal

pub returns : goal.returns
returns c = rw (le-leb c.args.n 4294967295 (omega arith)) (sym (and-true (leb c.args.low c.args.n)))
