use native.Mathlib.Numerals.{add-one}
use native.Mathlib.Omega.{arith}
use mathlib.Core.Path.{sym}
use Rattle.short_sessions.proofs.Following.{at_last, goes-up, longer, no-places, same_length}
use Rattle.short_sessions.proofs.after_one.Goals as goal

pub returns-then-a-last : goal.returns-then-a-last
returns-then-a-last c = rw add-one (sym (same_length _ _ _ (goes-up _ _ _ (no-places _) (omega arith))))

pub returns : goal.returns
returns c = sym (longer _ _ (at_last _ _ _ (no-places _) (omega arith)) (omega arith) (omega arith))
