use native.Mathlib.Omega.{arith}
use Rattle.sheet.proofs.SheetLaws.{one-done, within, advanced}
use Rattle.sheet.proofs.advance.Goals as goal

pub overflow_add-result : goal.overflow_add-result
overflow_add-result c = let p = c.requires in let q = one-done c.args.messages.now c.args.p p.stands p.left p.input _ _ _ p.report
    c.one_message-r.ensures in let h = p.stands.counted in omega arith

pub overflow_add-result-2 : goal.overflow_add-result-2
overflow_add-result-2 c = let p = c.requires in let q = within c.args.messages.now c.args.p p.stands p.left p.input _ _ _ p.report
    c.one_message-r.ensures _ c.message_end.ensures in
    omega arith

pub returns : goal.returns
returns c = let p = c.requires in advanced c.args.messages.now c.args.p p.stands p.left p.input _ _ _ p.report
    c.one_message-r.ensures _ c.message_end.ensures _ _
    _ p.text c.put_sheet-written.ensures
