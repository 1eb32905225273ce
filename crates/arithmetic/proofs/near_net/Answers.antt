-- `arithmetic::near_net` meets its contract.
use native.Mathlib.Omega.{arith}
use Rattle.rules.proofs.Integers.{negative, positive}
use Rattle.rules.proofs.Machine.{back, credit-fits, credit-ok, debit-fits, debit-ok, hundred-o, hundred-t, part-fits}
use Rattle.arithmetic.proofs.near_net.Goals as goal

pub overflow_mul-result : goal.overflow_mul-result
overflow_mul-result c = hundred-t c.args.percent (omega arith) c.ranges.o c.ranges.t (omega arith) (omega arith)

pub overflow_mul-result-then-o-lt0 : goal.overflow_mul-result-then-o-lt0
overflow_mul-result-then-o-lt0 c = part-fits c.args.percent (omega arith) c.ranges.o c.ranges.t (omega arith) (omega arith)

pub overflow_add-result : goal.overflow_add-result
overflow_add-result c = credit-fits c.args.percent (omega arith) c.ranges.o c.ranges.t (omega arith) (omega arith)

pub overflow_mul-result-then-o-lt0-2 : goal.overflow_mul-result-then-o-lt0-2
overflow_mul-result-then-o-lt0-2 c = hundred-o c.args.percent (omega arith) c.ranges.o c.ranges.t (omega arith) (omega arith)

pub returns-then-o-lt0 : goal.returns-then-o-lt0
returns-then-o-lt0 c = credit-ok c.args.percent (omega arith) c.ranges.o c.ranges.t (omega arith) (omega arith) (negative c.args.o (rw (back c.ranges.o) at c.if-o-lt0.true))

pub overflow_mul-result-2 : goal.overflow_mul-result-2
overflow_mul-result-2 c = hundred-t c.args.percent (omega arith) c.ranges.o c.ranges.t (omega arith) (omega arith)

pub overflow_mul-result-3 : goal.overflow_mul-result-3
overflow_mul-result-3 c = hundred-o c.args.percent (omega arith) c.ranges.o c.ranges.t (omega arith) (omega arith)

pub overflow_mul-result-4 : goal.overflow_mul-result-4
overflow_mul-result-4 c = part-fits c.args.percent (omega arith) c.ranges.o c.ranges.t (omega arith) (omega arith)

pub overflow_add-result-2 : goal.overflow_add-result-2
overflow_add-result-2 c = debit-fits c.args.percent (omega arith) c.ranges.o c.ranges.t (omega arith) (omega arith)

pub returns : goal.returns
returns c = debit-ok c.args.percent (omega arith) c.ranges.o c.ranges.t (omega arith) (omega arith) (positive c.args.o (rw (back c.ranges.o) at c.if-o-lt0.false))
