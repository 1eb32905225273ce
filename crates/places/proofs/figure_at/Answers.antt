-- `places::figure_at` meets its contract.
use Rattle.places.specs.Layout.{figure_in}
use Rattle.places.proofs.figure_at.Goals as goal

pub returns : goal.returns
unfolding figure_in
returns c = c.requires.figures.so _ c.requires.figure
