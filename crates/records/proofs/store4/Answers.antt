use mathlib.Core.Path.{◌∙◌}
use native.Mathlib.Omega.{arith}
use Rattle.rules.specs.Bytes.{bytes}
use Rattle.records.proofs.SeenLaws.{pasted-part}
use Rattle.records.proofs.store4.Goals as goal

pub returns : goal.returns
returns c = let s = c.args in pasted-part s.out.now _ (bytes 4 s.x) s.at _ (c.copy_from_slice.ensures.after ∙ c.bytes4.ensures) (unfold bytes in omega arith)
