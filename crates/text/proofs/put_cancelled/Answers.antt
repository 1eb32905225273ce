use Rattle.text.specs.Lines.{line_of}
use Rattle.text.proofs.put_cancelled.Goals as goal

pub returns : goal.returns
unfolding line_of
returns c = rw (c.u32_at.ensures, c.u32_at-2.ensures) at c.put_fields.ensures
