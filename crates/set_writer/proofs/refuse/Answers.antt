-- `set_writer::refuse` meets its contract.
use mathlib.Core.Path.{◌≡◌, ap, ◌∙◌}
use mathlib.Core.List.{List}
use Prim.Native.Nat.{ℕ, ◌-◌}
use native.Mathlib.Omega.{arith}
use lib.ListN.{length, replicate}
use Rattle.sets.specs.Set.{not_written}
use Rattle.set_writer.specs.Saving.{error_number}
use Rattle.set_writer.proofs.refuse.Goals as goal

pub returns : goal.returns
unfolding not_written
returns c =
    let z : length c.args.memory.now - 0 ≡ length c.args.memory.now = omega arith in
    ap (λ (l : List ℕ). record { number = error_number c.args.error; written = 0; memory = l }) (c.zero_from.ensures ∙ ap (λ (k : ℕ). replicate k 0) z)
