-- `set_check::look` meets its contract.
use Prim.Native.Nat.{ℕ, ◌+◌, ◌-◌}
use mathlib.Core.List.{List}
use Prim.Native.Nat.{ℕ, ◌-◌}
use lib.ListN.{drop, length-drop}
use lib.Seq.{drop-drop}
use Rattle.set_check.proofs.Walks.{held-ended, held-broken, in-front, step-not, step-many, step-on}
use native.Mathlib.Omega.{arith}
use mathlib.Core.Path.{refl, sym, ap, ◌∙◌}
use Prim.Native.Nat.{◌-◌}
use Rattle.sets.specs.Set.{held_in}
use Rattle.set_check.specs.Order.{none_read, few, looked_at}
use Rattle.set_check.proofs.look.Goals as goal

pub loop-size-init : goal.loop-size-init
unfolding none_read few
loop-size-init c = let e = c.none_read-st.ensures in (omega arith, rw e refl, rw e refl)

pub returns-in-End : goal.returns-in-End
returns-in-End c = c.ended.ensures ∙ ap (looked_at c.loop-size.st)
    (sym (held-ended _ (sym c.front_at-front.ensures ∙ c.in-End.is)))
    ∙ c.loop-size.invariant.2

pub returns-in-Broken : goal.returns-in-Broken
unfolding looked_at
returns-in-Broken c = ap (looked_at c.loop-size.st) (sym (held-broken _ (sym c.front_at-front.ensures ∙ c.in-Broken.is))) ∙ c.loop-size.invariant.2

pub slice_bounds-is_next-end : goal.slice_bounds-is_next-end
slice_bounds-is_next-end c = let w = in-front _ _ (sym c.front_at-front.ensures ∙ c.in-Record.is) in let x = w.four in
    let y = w.fits in let l = length-drop c.loop-size.at
    c.args.memory.now in omega arith

pub returns-then-not-is_next : goal.returns-then-not-is_next
returns-then-not-is_next c = let w = in-front _ _
    (sym c.front_at-front.ensures ∙ c.in-Record.is) in
    let x = w.four in let y = w.fits in let l = length-drop c.loop-size.at
    c.args.memory.now in
    step-not _ _ _ (sym c.front_at-front.ensures ∙ c.in-Record.is)
    (c.loop-size.at + c.from.result -
    c.loop-size.at) (sym c.is_next.ensures ∙ c.if-not-is_next.true)
    (omega arith) ∙ c.loop-size.invariant.2

pub slice_bounds-passed-end : goal.slice_bounds-passed-end
slice_bounds-passed-end c = let w = in-front _ _
    (sym c.front_at-front.ensures ∙ c.in-Record.is) in
    let x = w.four in let y = w.fits in let l = length-drop c.loop-size.at
    c.args.memory.now in omega arith

pub returns-then-not-are_few : goal.returns-then-not-are_few
returns-then-not-are_few c = let w = in-front _ _ (sym c.front_at-front.ensures
    ∙ c.in-Record.is) in let x = w.four in let y = w.fits in
    let l = length-drop c.loop-size.at
    c.args.memory.now in
    step-many _ _ _ (sym c.front_at-front.ensures
    ∙ c.in-Record.is)
    (c.loop-size.at +
    c.from.result -
    c.loop-size.at) _ c.passed-st.ensures
    (sym c.are_few.ensures ∙ c.if-not-are_few.true) (omega arith)
    ∙ c.loop-size.invariant.2

pub loop-size-smaller : goal.loop-size-smaller
loop-size-smaller c = let w = in-front _ _ (sym c.front_at-front.ensures
    ∙ c.in-Record.is) in let x = w.four in let y = w.fits in
    let l = length-drop c.loop-size.at
    c.args.memory.now in
    omega arith

pub loop-size-preserved : goal.loop-size-preserved
loop-size-preserved c = let w = in-front _ _ (sym c.front_at-front.ensures
    ∙ c.in-Record.is) in let x = w.four in let y = w.fits in
    let l = length-drop c.loop-size.at
    c.args.memory.now in
    let f = sym c.are_few.ensures ∙ c.if-not-are_few.false in (
      omega arith,
      f,
      ap (λ (z : List ℕ). looked_at c.passed-st.result (held_in z))
          (ap (λ (k : ℕ). drop (c.loop-size.at + k) c.args.memory.now) c.from.ensures
          ∙ sym (drop-drop c.in-Record.size
          c.loop-size.at
          c.args.memory.now))
          ∙ step-on _ _ _ (sym c.front_at-front.ensures
          ∙ c.in-Record.is)
          (c.loop-size.at +
          c.from.result -
          c.loop-size.at) _ c.passed-st.ensures
          (sym c.is_next.ensures ∙ c.if-not-is_next.false) f (omega arith)
          ∙ c.loop-size.invariant.2,
    )
