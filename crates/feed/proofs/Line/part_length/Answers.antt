-- `feed::Line::part_length` meets its contract.
use mathlib.Core.Path.{sym, ◌∙◌}
use native.Mathlib.Omega.{arith}
use Rattle.feed.proofs.Cursors.{part_low, part-head, part-not, number-ahead}
use Rattle.feed.proofs.Line.part_length.Goals as goal

pub returns-then-number-last : goal.returns-then-number-last
returns-then-number-last c = let e = c.number-number.ensures in part_low c.args.last _ (omega arith)

pub overflow_add-self : goal.overflow_add-self
overflow_add-self c = let e = c.number-number.ensures in let z = number-ahead c.args.self.bytes.now c.args.self.at (omega arith) in omega arith

pub returns-in-Message : goal.returns-in-Message
returns-in-Message c =
    let e = c.number-number.ensures in
    part-head c.args.self.bytes.now c.args.self.at c.args.last (omega arith) _ (sym c.message_head.ensures ∙ c.in-Message.is)

pub returns-in_default : goal.returns-in_default
returns-in_default c =
    let e = c.number-number.ensures in
    part-not c.args.self.bytes.now c.args.self.at c.args.last (omega arith) (λ n m. c.in_default.not-Message n (c.message_head.ensures ∙ m))
