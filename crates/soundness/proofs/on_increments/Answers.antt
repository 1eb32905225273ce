-- `soundness::on_increments` meets its contract.
use mathlib.Core.Path.{sym, ap, ◌∙◌}
use Prim.Native.Nat.{ℕ}
use native.Mathlib.Nat.{sub-zero}
use Rattle.rules.specs.Base.{all}
use Rattle.places.specs.Layout.{upto, regular_in, venue_of}
use Rattle.soundness.specs.Checked.{priced_on}
use Rattle.soundness.proofs.Beside.{scan-past, scan-stop, scan-none, series-in, prices-scan}
use Rattle.soundness.proofs.on_increments.Goals as goal

pub loop-i-init : goal.loop-i-init
loop-i-init c = let b = c.args.numbers.now in
    (ap (λ (k : ℕ). all (priced_on (venue_of b)) (upto (regular_in b) 0 k)) (sub-zero _ ∙ c.regulars_used-n.ensures.0) ∙ prices-scan b)

pub on_increment-requires : goal.on_increment-requires
on_increment-requires c = record { series = rw c.regular_at-o.ensures (series-in c.args.numbers.now c.loop-i.i); figures = c.requires }

pub returns-then-not-on_increment : goal.returns-then-not-on_increment
returns-then-not-on_increment c = let b = c.args.numbers.now in scan-stop (priced_on (venue_of b)) (regular_in b)
    c.loop-i.i _ c.loop-i-test.true
    (ap (priced_on (venue_of b)) (sym c.regular_at-o.ensures) ∙ sym c.on_increment.ensures ∙ c.if-not-on_increment.true)
    ∙ c.loop-i.invariant

pub loop-i-preserved : goal.loop-i-preserved
loop-i-preserved c = let b = c.args.numbers.now in
    scan-past (priced_on (venue_of b)) (regular_in b) c.loop-i.i _
    c.loop-i-test.true
    (ap (priced_on (venue_of b)) (sym c.regular_at-o.ensures) ∙ sym c.on_increment.ensures ∙ c.if-not-on_increment.false)
    ∙ c.loop-i.invariant

pub returns : goal.returns
returns c = let b = c.args.numbers.now in scan-none (priced_on (venue_of b)) (regular_in b) c.loop-i.i _ c.loop-i-test.false ∙ c.loop-i.invariant
