-- `set_tables::venue_told` meets its contract.
use Rattle.places.proofs.Parts.{venue-is}
use Rattle.sets.specs.Set.{venue_told, last_told}
use Rattle.set_tables.proofs.venue_told.Goals as goal

pub returns : goal.returns
unfolding venue_told last_told
returns c = venue-is _ _ c.regulars_told-regular.ensures
    c.complexes_told-complex.ensures c.leggings_told-legging.ensures
    c.series_told-series.ensures c.editions_told-editions.ensures
    c.generations_told-generations.ensures c.first_told-last.ensures c.reached_told-reached.ensures
