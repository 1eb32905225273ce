use mathlib.Core.Path.{sym}
use native.Mathlib.Omega.{arith}
use Rattle.text.proofs.TypingLaws.{typed, typed-as, ◌then◌, signed-small, signed-large}
use Rattle.text.proofs.put_signed.Goals as goal

pub returns-then-bits-lt2147483648 : goal.returns-then-bits-lt2147483648
returns-then-bits-lt2147483648 c = typed-as _ _ _ _ c.put_number.ensures (sym (signed-small _ (omega arith)))

pub returns : goal.returns
returns c = typed-as _ _ _ _
    (typed _ _ _ c.put_byte-pos.ensures then typed _ _ _ c.put_number-2.ensures).is (sym (signed-large _ (omega arith)))
