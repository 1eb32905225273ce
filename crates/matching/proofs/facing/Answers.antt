-- `matching::facing` meets its contract.
use mathlib.Core.Path.{ap, ◌∙◌}
use native.Mathlib.Omega.{arith}
use Rattle.rules.specs.Words.{opposite, place_of}
use Rattle.trades.proofs.HitsLaws.{opposite-in}
use Rattle.places.proofs.Parts.{legging-read}
use Rattle.matching.proofs.facing.Goals as goal

pub legging_at-requires : goal.legging_at-requires
unfolding place_of
legging_at-requires c =
    let h = opposite-in c.args.side in
    omega (arith, c.place_of-n.ensures, c.opposite_of.ensures, c.requires)

pub returns : goal.returns
returns c =
    legging-read c.args.numbers.now c.args.series (opposite c.args.side) _ _ c.requires (opposite-in _)
    (c.place_of-n.ensures ∙ ap (place_of c.args.series) c.opposite_of.ensures) c.legging_at.ensures
