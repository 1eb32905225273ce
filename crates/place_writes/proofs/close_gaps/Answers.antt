-- `place_writes::close_gaps` meets its contract.
use Rattle.place_writes.proofs.Closed.{both-closed}
use Rattle.place_writes.proofs.close_gaps.Goals as goal

pub close_complexes-requires : goal.close_complexes-requires
close_complexes-requires c = (c.close_regulars.ensures.counts.right c.requires).marked

pub returns : goal.returns
returns c =
    both-closed _ _ _ c.requires
    c.close_regulars.ensures c.close_complexes.ensures
