use native.Mathlib.Omega.{arith}
use Rattle.reader.proofs.Heads.{at-end, at-torn, at-message}
use Rattle.reader.proofs.head_at.Goals as goal

pub returns-then-messages-at : goal.returns-then-messages-at
returns-then-messages-at c = let s = c.args in at-end s.messages.now s.at (omega arith)

pub returns-then-left-lt4 : goal.returns-then-left-lt4
returns-then-left-lt4 c = let s = c.args in at-torn s.messages.now s.at (omega arith) (λ a b. omega arith)

pub returns-then-length-lt4 : goal.returns-then-length-lt4
returns-then-length-lt4 c = let s = c.args in at-torn s.messages.now s.at (omega arith) (λ a b. omega arith)

pub returns-then-left-length : goal.returns-then-left-length
returns-then-left-length c = let s = c.args in at-torn s.messages.now s.at (omega arith) (λ a b. omega arith)

pub returns : goal.returns
returns c = at-message _ _ (omega arith) _ c.u16_at-length.ensures (omega arith) (omega arith)
