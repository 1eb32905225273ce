-- `set_tables::complexes_told` meets its contract.
use mathlib.Core.Path.{◌∙◌}
use Rattle.sets.specs.Set.{venue_told}
use Rattle.set_tables.proofs.TableFilled.{places_begun}
use Rattle.set_tables.proofs.Parted.{set-counts}
use Rattle.set_tables.proofs.complexes_told.Goals as goal

pub fill-requires-clause-room : goal.fill-requires-clause-room
fill-requires-clause-room c = (set-counts _ c.requires.ordered).2

pub returns : goal.returns
unfolding venue_told
returns c = c.fill.ensures ∙ places_begun 32 _ _
