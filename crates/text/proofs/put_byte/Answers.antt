use native.Mathlib.Omega.{arith}
use Rattle.text.proofs.TypingLaws.{types-in, types-out}
use Rattle.text.proofs.put_byte.Goals as goal

pub returns-then-n-at : goal.returns-then-n-at
returns-then-n-at c = types-out _ _ _ (omega arith)

pub returns : goal.returns
returns c = types-in _ _ _ (omega arith)
