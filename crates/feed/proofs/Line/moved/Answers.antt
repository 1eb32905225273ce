-- `feed::Line::moved` meets its contract.
use mathlib.Core.Path.{◌≡◌, ap}
use Prim.Native.Nat.{ℕ, ◌+◌}
use native.Mathlib.Omega.{arith}
use Rattle.feed.proofs.Cursors.{ready-some, message-there, field-here, advance-not, advance-is}
use Rattle.feed.specs.declared.Line.{Line}
use Rattle.feed.specs.Cursors.{left_of, advance_of}
use Rattle.feed.proofs.Line.moved.Goals as goal

abbrev line_at : Line → ℕ → Line
line_at l k = record { bytes = l.bytes; at = k }

pub returns-then-number : goal.returns-then-number
returns-then-number c = let e = c.number.ensures in
    let z = advance-not c.args.number (left_of c.args.self) (λ h. omega arith) in
    let at : c.args.self.at ≡ c.args.self.at + advance_of c.args.number (left_of c.args.self) = omega arith in
    ap (λ (k : ℕ). line_at c.args.self k) at

pub overflow_add-from : goal.overflow_add-from
overflow_add-from c = let e = c.number.ensures in let p = c.requires.numbered in
    let w = (message-there c.args.self _ (ready-some _ _ c.requires.stands (omega arith))).head in omega arith

pub u16_at-length-requires : goal.u16_at-length-requires
u16_at-length-requires c = let e = c.number.ensures in let p = c.requires.numbered in
    let w = (message-there c.args.self _ (ready-some _ _ c.requires.stands (omega arith))).head in omega arith

pub overflow_add-result : goal.overflow_add-result
overflow_add-result c = let e = c.number.ensures in let p = c.requires.numbered in
    let n = c.u16_at-length.ensures in let w = (message-there c.args.self _ (ready-some _ _ c.requires.stands (omega arith))).whole in omega arith

pub returns : goal.returns
returns c = let e = c.number.ensures in let n = c.u16_at-length.ensures in let w = c.from.ensures in
    let g = field-here c.args.self.bytes.now c.args.self.at in let z = advance-is c.args.number (left_of c.args.self) (omega arith) in
    ap (λ (k : ℕ). line_at c.args.self k) (omega arith)
