-- `levels::with_order` meets its contract.
use mathlib.Core.Path.{sym, ◌∙◌}
use Rattle.levels.proofs.LevelWithOrder.{with-free, with-held, joined_same, joined-better, joined-not}
use Rattle.levels.proofs.with_order.Goals as goal

pub returns-then-shown-eq0 : goal.returns-then-shown-eq0
returns-then-shown-eq0 c = with-free _ _ _ c.shown_size-shown.ensures c.if-shown-eq0.true

pub returns-then-o-l : goal.returns-then-o-l
returns-then-o-l c = let s = c.args in
    let n = c.shown_size-shown in
    rw c.from-size.ensures (with-held s.o s.l n.result n.ensures c.if-shown-eq0.false _ (joined_same s.o.side s.o.price n.result s.l c.if-o-l.true))

pub returns-then-is_better : goal.returns-then-is_better
returns-then-is_better c = let s = c.args in
    let n = c.shown_size-shown in
    rw c.from-size.ensures
    (with-held s.o s.l n.result n.ensures c.if-shown-eq0.false _
    (joined-better s.o.side s.o.price n.result s.l c.if-o-l.false (sym c.is_better.ensures ∙ c.if-is_better.true)))

pub returns : goal.returns
returns c = let s = c.args in
    let n = c.shown_size-shown in
    with-held s.o s.l n.result n.ensures c.if-shown-eq0.false _
    (joined-not s.o.side s.o.price n.result s.l c.if-o-l.false (sym c.is_better.ensures ∙ c.if-is_better.false))
