-- `generation::generate_leg` meets its contract.
use Rattle.generation.proofs.PartsLaws.{steps-some, made_none, made-alone, made-over, made-is, planned-displayed}
use Rattle.settling.proofs.PartsLaws.{off, on}
use Rattle.generation.specs.Parts.{made_by}
use Rattle.places.specs.Layout.{venue_of}
use Rattle.records.proofs.StageLaws.{does-nothing}
use Rattle.records.specs.Stage.{◌does◌}
use Rattle.records.specs.Seen.{seen}
use Rattle.rules.specs.Effects.{Effect, nothing}
use Rattle.rules.specs.Generation.{generations_of, under_ceiling}
use Rattle.rules.specs.Words.{place_of}
use Rattle.rules.specs.declared.Venue.{Venue}
use mathlib.Core.Path.{sym, ap, ◌∙◌}
use borrow.Author.Rules.{rules}
use Rattle.generation.proofs.generate_leg.Goals as goal

pub returns-then-l-eq0-clause-result_after : goal.returns-then-l-eq0-clause-result_after
returns-then-l-eq0-clause-result_after c = let a = c.args in let p = c.requires in
    does-nothing (venue_of a.numbers.now) a.out.now a.at
    ∙ ap (λ (e : Effect). seen a.out.now a.at does e)
    (made_none _ a.c _ _ a.number (steps-some _ _ p.right.marked.figures p.series) c.plan_leg-l.result
    c.plan_leg-l.ensures c.if-l-eq0.true)

pub others_stand_with-requires : goal.others_stand_with-requires
unfolding place_of
others_stand_with-requires c = search rules

pub returns-then-not-others_stand_with-clause-result_after : goal.returns-then-not-others_stand_with-clause-result_after
returns-then-not-others_stand_with-clause-result_after c = let a = c.args in
    does-nothing _ a.out.now a.at ∙ ap (λ (v : Venue). seen a.out.now a.at does nothing v) c.others_stand_with.ensures.kept
    ∙ ap (λ (e : Effect). seen a.out.now a.at does e)
    (made-alone _ a.c _ _ c.plan_leg-l.result
    c.plan_leg-l.ensures
    c.if-l-eq0.false _ c.place_of.ensures a.number
    (off _ _ c.others_stand_with.ensures.value c.if-not-others_stand_with.true-raw))

pub returns-then-not-is_under_ceiling-clause-result_after : goal.returns-then-not-is_under_ceiling-clause-result_after
returns-then-not-is_under_ceiling-clause-result_after c =
    let a = c.args in
    does-nothing _ a.out.now a.at ∙ ap (λ (v : Venue). seen a.out.now a.at does nothing v) c.others_stand_with.ensures.kept
    ∙ ap (λ (e : Effect). seen a.out.now a.at does e)
    (made-over _ a.c a.s _ a.number
    (ap (λ (v : Venue). under_ceiling a.number (generations_of v a.s)) (sym c.others_stand_with.ensures.kept) ∙ off _ _ c.is_under_ceiling.ensures
    c.if-not-is_under_ceiling.true-raw))

pub make_leg-requires : goal.make_leg-requires
make_leg-requires c = (
  c.requires.series,
  c.requires.side,
  rw c.others_stand_with.ensures.kept (planned-displayed _ c.args.c _ _ c.plan_leg-l.result c.plan_leg-l.ensures
      c.if-l-eq0.false),
  (c.others_stand_with.ensures.counts.right c.requires.right).marked.figures,
)

pub returns-clause-result_after : goal.returns-clause-result_after
returns-clause-result_after c =
    let a = c.args in
    c.make_leg.ensures.result_after ∙ ap (λ (v : Venue). seen a.out.now a.at does made_by a.number a.c.id a.s a.d c.plan_leg-l.result v) c.others_stand_with.ensures.kept
    ∙ ap (λ (e : Effect). seen a.out.now a.at does e)
    (made-is _ a.c _ _ c.plan_leg-l.result c.plan_leg-l.ensures
    c.if-l-eq0.false _ c.place_of.ensures a.number (on _ _ c.others_stand_with.ensures.value c.if-not-others_stand_with.false-raw)
    (ap (λ (v : Venue). under_ceiling a.number (generations_of v a.s)) (sym c.others_stand_with.ensures.kept)
    ∙ on _ _ c.is_under_ceiling.ensures
    c.if-not-is_under_ceiling.false-raw))
