use mathlib.Core.Path.{◌∙◌}
use Rattle.wire.proofs.Decoding.{contained}
use Rattle.wire.proofs.sweep_in_range.Goals as goal

pub returns : goal.returns
returns c = c.contains.ensures.value ∙ rw (c.new.ensures.start, c.new.ensures.end, c.new.ensures.exhausted) (contained 1 32 c.args.n)
