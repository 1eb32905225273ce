-- `set_check::front_at` meets its contract.
use native.Mathlib.Omega.{arith}
use mathlib.Core.Path.{sym, ap, ◌∙◌}
use Rattle.set_check.proofs.Fronts.{front-ended, front-no-head, front-head, front-other, front-record, length-here, kind-here}
use lib.ListN.{length-drop}
use Rattle.reader.specs.Head.{head_length}
use Rattle.sets.specs.Set.{set_length}
use Rattle.set_check.proofs.front_at.Goals as goal

pub returns-then-u16_at-eq0 : goal.returns-then-u16_at-eq0
returns-then-u16_at-eq0 c = let s = c.args in front-ended _ (omega (arith, length-here s.memory.now s.at))

pub returns-then-size-eq0 : goal.returns-then-size-eq0
returns-then-size-eq0 c = let s = c.args in
    front-no-head _ (λ e. omega (arith, length-here s.memory.now s.at))
    (sym (ap head_length c.message_head.ensures) ∙ sym c.head_length-size.ensures ∙ c.if-size-eq0.true)

pub overflow_add-at : goal.overflow_add-at
overflow_add-at c = let s = c.args in
    let w = front-head _ _ (c.head_length-size.ensures ∙ ap head_length c.message_head.ensures) c.if-size-eq0.false in
    let x = w.four in let y = w.fits in omega (arith, length-drop s.at s.memory.now)

pub returns-then-size-set_length : goal.returns-then-size-set_length
returns-then-size-set_length c = let s = c.args in
    let w = front-head _ _
    (c.head_length-size.ensures ∙ ap head_length c.message_head.ensures)
    c.if-size-eq0.false in
    front-other _ _ w _ (c.set_length.ensures ∙ ap set_length
    (c.u16_at-2.ensures ∙ sym (kind-here s.memory.now s.at))) c.if-size-set_length.true

pub returns : goal.returns
returns c = let s = c.args in
    let w = front-head _ _
    (c.head_length-size.ensures ∙ ap head_length c.message_head.ensures)
    c.if-size-eq0.false in
    front-record _ _ w _ (c.set_length.ensures ∙ ap set_length
    (c.u16_at-2.ensures ∙ sym (kind-here s.memory.now s.at))) c.if-size-set_length.false
