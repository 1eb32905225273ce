-- `crossing::cross` meets its contract.
use mathlib.Core.Path.{sym, ◌∙◌}
use native.Mathlib.Omega.{arith}
use Rattle.rules.proofs.Machine.{back}
use Rattle.places.proofs.Parts.{complexes-few, complex-at}
use Rattle.crossing.proofs.CrossLaws.{cross-law}
use Rattle.crossing.proofs.cross.Goals as goal

pub complex_at-c-requires : goal.complex_at-c-requires
complex_at-c-requires c = let z = complexes-few c.args.numbers.now in
    omega (arith, c.requires.first)

pub complex_at-m-requires : goal.complex_at-m-requires
complex_at-m-requires c = let z = complexes-few c.args.numbers.now in
    omega (arith, c.requires.second)

pub returns-clause-result_after : goal.returns-clause-result_after
returns-clause-result_after c = cross-law c.args.i c.args.j c.args.k _ _ _ _ _ _ _ _ _ _ _ _ _ _ _ _
    (c.complex_at-c.ensures
    ∙ sym (complex-at c.args.numbers.now c.args.i c.requires.first))
    (c.complex_at-m.ensures
    ∙ sym (complex-at c.args.numbers.now c.args.j c.requires.second))
    (back {z = c.net_against.result}
    (record {
      sfits = c.net_against.type_inv;
    }) ∙ c.net_against.ensures.0)
    c.fill_complex.ensures.numbers_after
    c.fill_complex-2.ensures.numbers_after
    c.emit_crossed-told.ensures c.remove_of-gone.ensures.result_after
    c.remove_of.ensures.result_after
