-- `set_writer::put_set` meets its contract.
use Rattle.set_parts.proofs.SetMemoryLaws.{adds_same, adds_then}
use Rattle.set_writer.proofs.SavingLaws.{parts-joined}
use Rattle.set_writer.proofs.put_set.Goals as goal

pub returns : goal.returns
returns c =
    adds_same _ _ _ _
    (adds_then _ _ _ _ _ (adds_then _ _ _ _ _
    (adds_then _ _ _ _ _ (adds_then _ _ _ _ _
    (adds_then _ _ _ _ _ (adds_then _ _ _ _ _
    c.put_first-first.ensures
    c.put_series-series.ensures)
    c.put_editions-editions.ensures)
    c.put_orders-orders.ensures) c.put_leggings-leggings.ensures)
    c.put_all_generations-generations.ensures) c.put_reached.ensures)
    (parts-joined _ c.requires _ _ _
    c.last_id.ensures
    c.reached_id.ensures)
