use mathlib.Core.Path.{ap, ◌∙◌}
use lib.Dec.{leb}
use Prim.Native.Nat.{ℕ}
use lib.IntN.{nat_abs}
use mir.Syntax.{w32}
use mir.ValLaws.{to_z-of_z}
use Rattle.wire.proofs.Twos.{limit-size}
use Rattle.wire.proofs.is_limit.Goals as goal

pub returns : goal.returns
returns c =
    let n = c.args.n in
    let far = c.args.far in
    ap (λ (k : ℕ). leb k far) (c.unsigned_abs.ensures.value ∙ ap nat_abs (to_z-of_z w32 n c.ranges.n)) ∙ limit-size far n
