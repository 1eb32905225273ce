use mathlib.Core.Path.{sym}
use native.Mathlib.Omega.{arith}
use Rattle.text.proofs.TypingLaws.{typed, typed-as, ◌then◌, decimal-small, decimal-more}
use Rattle.text.proofs.+put_number.Goals as goal

pub returns-then-n-lt10 : goal.returns-then-n-lt10
returns-then-n-lt10 t c = typed-as _ _ _ _ c.put_byte.ensures (rw c.digit.ensures (sym (decimal-small _ (omega arith))))

pub returns : goal.returns
returns t c =
    typed-as _ _ _ _ (typed _ _ _ c.put_number-pos.ensures then typed _ _ _ c.put_byte-2.ensures).is
    (rw c.digit-2.ensures (sym (decimal-more c.args.n (omega arith))))
