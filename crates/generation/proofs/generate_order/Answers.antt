-- `generation::generate_order` meets its contract.
use Rattle.generation.proofs.PartsLaws.{generates-kept, generate-past, generate-gone, generate-shut, generate-is, complex-in}
use Rattle.settling.proofs.PartsLaws.{off, on}
use Rattle.places.specs.Layout.{venue_of, complexes_used}
use Rattle.records.proofs.StageLaws.{does-nothing, follow, stage-venue}
use Rattle.records.specs.Stage.{◌does◌}
use Rattle.records.specs.Seen.{seen}
use Rattle.rules.specs.Generation.{generate_leg}
use Rattle.rules.specs.Effects.{Effect}
use mathlib.Core.Path.{ap, ◌∙◌}
use Prim.Native.Nat.{◌<◌}
use native.Mathlib.Omega.{arith}
use Rattle.generation.proofs.generate_order.Goals as goal

pub returns-then-complexes_used-i-clause-result_after : goal.returns-then-complexes_used-i-clause-result_after
returns-then-complexes_used-i-clause-result_after c =
    let a = c.args in
    does-nothing (venue_of a.numbers.now) a.out.now a.at
    ∙ ap (λ (e : Effect). seen a.out.now a.at does e) (generate-past a.number a.numbers.now a.i (omega (arith, c.complexes_used.ensures.0, c.if-complexes_used-i.true)))

pub returns-then-c-eq0-clause-result_after : goal.returns-then-c-eq0-clause-result_after
returns-then-c-eq0-clause-result_after c =
    let used : let a = c.args in
    a.i < complexes_used a.numbers.now = omega (arith, c.complexes_used.ensures.0, c.if-complexes_used-i.false) in
    let a = c.args in
    does-nothing (venue_of a.numbers.now) a.out.now a.at
    ∙ ap (λ (e : Effect). seen a.out.now a.at does e) (generate-gone a.numbers.now a.i c.complex_at-c.result c.complex_at-c.ensures a.number used c.if-c-eq0.true)

pub taken_at-requires : goal.taken_at-requires
taken_at-requires c =
    record { right = c.requires; legs = complex-in _ _ c.complex_at-c.result c.complex_at-c.ensures }

pub may_generate-requires : goal.may_generate-requires
may_generate-requires c =
    record { taken = c.taken_at.ensures; legs = complex-in _ _ c.complex_at-c.result c.complex_at-c.ensures; figures = c.requires.marked.figures }

pub returns-then-not-may_generate-clause-result_after : goal.returns-then-not-may_generate-clause-result_after
returns-then-not-may_generate-clause-result_after c =
    let used : let a = c.args in
    a.i < complexes_used a.numbers.now = omega (arith, c.complexes_used.ensures.0, c.if-complexes_used-i.false) in
    let a = c.args in
    does-nothing (venue_of a.numbers.now) a.out.now a.at
    ∙ ap (λ (e : Effect). seen a.out.now a.at does e)
    (generate-shut a.numbers.now a.i c.complex_at-c.result c.complex_at-c.ensures a.number used (off _ _ c.may_generate.ensures c.if-not-may_generate.true-raw))

pub generate_leg-pos-requires : goal.generate_leg-pos-requires
generate_leg-pos-requires c =
    let h = complex-in _ _ c.complex_at-c.result c.complex_at-c.ensures in
    record {
      right = c.requires;
      legs = h;
      series = h.first;
      side = h.side1;
      some = omega (arith, c.if-c-eq0.false);
      may = on _ _ c.may_generate.ensures c.if-not-may_generate.false-raw;
    }

pub generate_leg-requires : goal.generate_leg-requires
generate_leg-requires c =
    let h = complex-in _ _ c.complex_at-c.result c.complex_at-c.ensures in
    record {
      right = c.generate_leg-pos.ensures.counts.right c.requires;
      legs = h;
      series = h.second;
      side = h.side2;
      some = omega (arith, c.if-c-eq0.false);
      may = generates-kept (venue_of c.args.numbers.now) c.complex_at-c.result c.complex_at-c.result.series1 c.complex_at-c.result.side1 c.args.number _ (stage-venue _ _ _ _ _ _ c.generate_leg-pos.ensures.result_after)
          ∙ on _ _ c.may_generate.ensures c.if-not-may_generate.false-raw;
    }

pub returns-clause-result_after : goal.returns-clause-result_after
returns-clause-result_after c =
    let used : let a = c.args in
    a.i < complexes_used a.numbers.now = omega (arith, c.complexes_used.ensures.0, c.if-complexes_used-i.false) in
    let a = c.args in
    follow _ (generate_leg a.number c.complex_at-c.result c.complex_at-c.result.series1 c.complex_at-c.result.side1 (venue_of a.numbers.now))
    (generate_leg a.number c.complex_at-c.result c.complex_at-c.result.series2 c.complex_at-c.result.side2) _ _ _ _ _ _ c.generate_leg-pos.ensures.result_after c.generate_leg.ensures.result_after
    ∙ ap (λ (e : Effect). seen a.out.now a.at does e) (generate-is a.numbers.now a.i c.complex_at-c.result c.complex_at-c.ensures a.number used)
