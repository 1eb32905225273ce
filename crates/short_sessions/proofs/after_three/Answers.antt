use native.Mathlib.Numerals.{add-one}
use native.Mathlib.Omega.{arith}
use mathlib.Core.Path.{sym}
use Rattle.short_sessions.proofs.Following.{at_last, goes-up, longest, no-places, same_length, stays}
use Rattle.short_sessions.proofs.after_three.Goals as goal

pub returns-then-c-last : goal.returns-then-c-last
returns-then-c-last c = rw add-one (sym (same_length _ _ _ (stays _ _ _ _ (stays _ _ _ _ (goes-up _ _ _ (no-places _) (omega arith))))))

pub returns-then-b-last : goal.returns-then-b-last
returns-then-b-last c = rw add-one (sym (same_length _ _ _ (stays _ _ _ _ (goes-up _ _ _ (at_last _ _ _ (no-places _) (omega arith)) (omega arith)))))

pub returns-then-a-last : goal.returns-then-a-last
returns-then-a-last c = rw add-one (sym (same_length _ _ _ (goes-up _ _ _ (at_last _ _ _ (at_last _ _ _ (no-places _) (omega arith)) (omega arith)) (omega arith))))

pub returns : goal.returns
returns c = sym (longest _ _ (at_last _ _ _ (at_last _ _ _ (at_last _ _ _ (no-places _) (omega arith)) (omega arith)) (omega arith)) (omega arith))
