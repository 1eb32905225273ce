-- `trades::cancel_complex` meets its contract.
use mathlib.Core.Path.{sym, ◌∙◌}
use native.Mathlib.Omega.{arith}
use Rattle.places.specs.Layout.{venue_of}
use Rattle.places.proofs.Parts.{complexes-few, complex-at}
use Rattle.trades.proofs.HitsLaws.{cancel-complex-law}
use Rattle.trades.proofs.cancel_complex.Goals as goal

pub complex_at-c-requires : goal.complex_at-c-requires
complex_at-c-requires c = let w = complexes-few c.args.numbers.now in omega arith

pub returns-clause-result_after : goal.returns-clause-result_after
returns-clause-result_after c =
    cancel-complex-law _ (venue_of c.args.numbers.now) _ _ _ _ _ _ _ _ _
    (c.complex_at-c.ensures ∙ sym (complex-at c.args.numbers.now c.args.i c.requires)) c.fill_complex.ensures.numbers_after
    c.emit_cancelled-pos.ensures c.remove_of.ensures.result_after
