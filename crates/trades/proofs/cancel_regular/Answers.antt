-- `trades::cancel_regular` meets its contract.
use mathlib.Core.Path.{sym, ◌∙◌}
use native.Mathlib.Omega.{arith}
use Rattle.places.specs.Layout.{venue_of}
use Rattle.places.proofs.Parts.{regulars-few, regular-at}
use Rattle.trades.proofs.HitsLaws.{cancel-law}
use Rattle.trades.proofs.cancel_regular.Goals as goal

pub regular_at-o-requires : goal.regular_at-o-requires
regular_at-o-requires c = let w = regulars-few c.args.numbers.now in omega arith

pub returns-clause-result_after : goal.returns-clause-result_after
returns-clause-result_after c =
    cancel-law _ (venue_of c.args.numbers.now) _ _ _ _ _ _ (c.regular_at-o.ensures ∙ sym (regular-at c.args.numbers.now c.args.i c.requires))
    c.fill_order.ensures.numbers_after c.emit_cancelled.ensures
