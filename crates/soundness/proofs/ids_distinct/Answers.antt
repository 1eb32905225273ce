-- `soundness::ids_distinct` meets its contract.
use mathlib.Core.Path.{sym, ap, ◌∙◌}
use Prim.Native.Nat.{ℕ}
use native.Mathlib.Nat.{sub-zero}
use Rattle.rules.specs.Base.{all}
use Rattle.places.specs.Layout.{upto, regular_in, venue_of}
use Rattle.soundness.specs.Checked.{is_alone}
use Rattle.soundness.proofs.Beside.{scan-past, scan-stop, scan-none, ids-scan}
use Rattle.soundness.proofs.ids_distinct.Goals as goal

pub loop-i-init : goal.loop-i-init
loop-i-init c = let b = c.args.numbers.now in
    (ap (λ (k : ℕ). all (is_alone (venue_of b)) (upto (regular_in b) 0 k)) (sub-zero _ ∙ c.regulars_used-n.ensures.0) ∙ ids-scan b)

pub returns-then-not-is_alone : goal.returns-then-not-is_alone
returns-then-not-is_alone c = let b = c.args.numbers.now in scan-stop (is_alone (venue_of b)) (regular_in b)
    c.loop-i.i _ c.loop-i-test.true
    (ap (is_alone (venue_of b)) (sym c.regular_at-o.ensures) ∙ sym c.is_alone.ensures ∙ c.if-not-is_alone.true)
    ∙ c.loop-i.invariant

pub loop-i-preserved : goal.loop-i-preserved
loop-i-preserved c = let b = c.args.numbers.now in
    scan-past (is_alone (venue_of b)) (regular_in b) c.loop-i.i _
    c.loop-i-test.true
    (ap (is_alone (venue_of b)) (sym c.regular_at-o.ensures) ∙ sym c.is_alone.ensures ∙ c.if-not-is_alone.false)
    ∙ c.loop-i.invariant

pub returns : goal.returns
returns c = let b = c.args.numbers.now in scan-none (is_alone (venue_of b)) (regular_in b) c.loop-i.i _ c.loop-i-test.false ∙ c.loop-i.invariant
