-- `sweeps::round_start` meets its contract.
use mathlib.Core.Path.{ap}
use native.Mathlib.Omega.{arith}
use Rattle.rules.specs.declared.Complex.{Complex}
use Rattle.sweeps.proofs.RoundLaws.{going-round}
use Rattle.sweeps.proofs.round_start.Goals as goal

pub returns-then-reached-c-clause-result_value : goal.returns-then-reached-c-clause-result_value
returns-then-reached-c-clause-result_value c =
    let l = c.loop-k.invariant in
    let e = ap (λ (o : Complex). o.id) c.complex_at-c.ensures in
    let t = c.loop-k-test.true in
    going-round _ c.requires.dense c.requires.rising _ (omega (arith, t, c.complexes_used-used.ensures.0)) (λ i h. let z = l i h in omega (arith, c.reached_id-reached.ensures, z)) (λ _. omega (arith, c.reached_id-reached.ensures, e, c.if-reached-c.true))

pub returns-clause-result_value : goal.returns-clause-result_value
returns-clause-result_value c =
    let l = c.loop-k.invariant in
    going-round _ c.requires.dense c.requires.rising _ (omega (arith, c.complexes_used-used.ensures.0)) (λ i h. let z = l i (omega (arith, h, c.loop-k-test.false)) in omega (arith, c.reached_id-reached.ensures, z)) (λ h. absurd (omega (arith, c.complexes_used-used.ensures.0, h)))
