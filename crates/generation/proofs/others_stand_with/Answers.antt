-- `generation::others_stand_with` meets its contract.
use Rattle.generation.proofs.PartsLaws.{grid-kept, placed-regular, placed-back}
use Rattle.rules.specs.Generation.{placed}
use Rattle.rules.specs.declared.Venue.{Venue}
use mathlib.Core.Path.{ap, ◌∙◌}
use Rattle.generation.proofs.others_stand_with.Goals as goal

pub others_stand-stand-requires : goal.others_stand-stand-requires
others_stand-stand-requires c =
    record {
      grid = grid-kept c.levels-g.result _ _ (ap (λ (w : Venue). w.regular) c.put_legging.ensures.numbers_after ∙ placed-regular _ _ _) c.levels-g.ensures;
      figures = (c.put_legging.ensures.counts.right c.requires.right).marked.figures;
    }

pub returns-clause-kept : goal.returns-clause-kept
returns-clause-kept c =
    let a = c.args in
    c.put_legging-2.ensures.numbers_after ∙ ap (placed a.n c.legging_at-old.result) c.put_legging.ensures.numbers_after ∙ placed-back a.numbers.now a.n a.l c.legging_at-old.result c.requires.place c.legging_at-old.ensures
