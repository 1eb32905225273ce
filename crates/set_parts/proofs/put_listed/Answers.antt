-- `set_parts::put_listed` meets its contract.
use Rattle.set_parts.proofs.SetMemoryLaws.{adds_then}
use Rattle.set_parts.proofs.put_listed.Goals as goal

pub returns : goal.returns
returns c = adds_then _ _ _ _ _ c.put_status-pos.ensures c.put_away.ensures
