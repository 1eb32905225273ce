-- `venue_numbers::EditionPart::put` meets its contract.
use native.Mathlib.Omega.{arith}
use Rattle.venue_numbers.proofs.Loaded.{edition-put}
use Rattle.venue_numbers.proofs.EditionPart.put.Goals as goal

pub returns-clause-numbers_after : goal.returns-clause-numbers_after
returns-clause-numbers_after c =
    let e = c.write_edition.ensures in
    (edition-put _ _ _ _ c.told-numbers (omega arith) e.1 e.2 e.0).0

pub returns-clause-used : goal.returns-clause-used
returns-clause-used c =
    let e = c.write_edition.ensures in
    (edition-put _ _ _ _ c.told-numbers (omega arith) e.1 e.2 e.0).1
