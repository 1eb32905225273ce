use Rattle.text.specs.Lines.{line_of}
use Rattle.text.proofs.put_generated.Goals as goal

pub returns : goal.returns
unfolding line_of
returns c = rw (
  c.u32_at.ensures,
  c.byte_at.ensures,
  c.byte_at-2.ensures,
  c.u32_at-2.ensures,
  c.u32_at-3.ensures,
  c.u32_at-4.ensures,
) at c.put_fields.ensures
