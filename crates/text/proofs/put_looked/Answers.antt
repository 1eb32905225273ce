use Rattle.text.specs.Lines.{line_of}
use Rattle.text.proofs.put_looked.Goals as goal

pub returns : goal.returns
unfolding line_of
returns c = rw c.byte_at.ensures at c.put_fields.ensures
