-- `place_writes::put_edition` meets its contract.
use Rattle.place_writes.proofs.Figures.{put-edition}
use Rattle.place_writes.proofs.put_edition.Goals as goal

-- each clause by its name
each : {A B : Type 0} → A × B → record { numbers_after : A; counts : B }
each h = record { numbers_after = h.0; counts = h.1 }

pub returns : goal.returns
returns c = each (put-edition _ _ _ _ _ c.told-numbers c.requires.place c.write_edition.ensures.1 c.write_edition.ensures.2 c.requires.free c.requires.value c.write_edition.ensures.0 c.count_figures.ensures)
