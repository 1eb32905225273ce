-- `places::GenerationsRow::read` meets its contract.
use mathlib.Core.Path.{◌≡◌, ap, ◌∙◌}
use Prim.Native.Nat.{ℕ, ◌+◌, ◌-◌, ◌*◌}
use native.Mathlib.Omega.{arith}
use lib.ListN.{take, drop}
use Rattle.places.specs.Offsets.{generation_messages_at}
use Rattle.places.proofs.Generations.{messages-read}
use Rattle.places.proofs.GenerationsRow.read.Goals as goal

pub returns : goal.returns
returns c =
    let first : ℕ = 20 * c.args.i + generation_messages_at in
    let many : first + 20 - first ≡ 20 = omega arith in
    messages-read c.args.numbers.now c.args.i _ (omega arith)
    (c.copy_from_slice.ensures.after ∙ ap (λ (k : ℕ). take k (drop first c.args.numbers.now)) many)
