use mathlib.Core.Path.{ap}
use Rattle.records.specs.Seen.{Seen, seen}
use Rattle.records.proofs.set_answer.Goals as goal

pub returns : goal.returns
unfolding seen
returns c = ap (λ (w : Seen). w.memory) c.emit_answer.ensures
