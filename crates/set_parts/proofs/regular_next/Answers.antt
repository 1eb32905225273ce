-- `set_parts::regular_next` meets its contract.
use mathlib.Core.Path.{sym, ap, ap₂, ◌∙◌}
use native.Mathlib.Omega.{arith}
use lib.Dec.{ltb}
use Rattle.rules.specs.declared.Complex.{Complex}
use Rattle.set_parts.proofs.PartsLaws.{next-none, next-alone, next-by-id}
use Rattle.set_parts.proofs.regular_next.Goals as goal

pub returns-then-n-i : goal.returns-then-n-i
returns-then-n-i c = sym (next-none _ _ _ _ _ (omega arith))

pub returns-then-m-j : goal.returns-then-m-j
returns-then-m-j c = sym (next-alone _ _ _ _ _ (omega arith) (omega arith))

pub returns : goal.returns
returns c = ap₂ ltb c.regular_id.ensures (ap (λ (x : Complex). x.id) c.complex_at-c.ensures) ∙ sym (next-by-id _ _ _ _ _ (omega arith) (omega arith))
