use mir.Syntax.{w64}
use mir.ValLaws.{to_z-of_z}
use Rattle.records.proofs.Fields.{clamped}
use Rattle.records.proofs.bits.Goals as goal

pub returns : goal.returns
returns c =
    rw (
      c.cast_unsigned-wide.ensures,
      to_z-of_z w64 c.max.result (record { sfits = c.max.type_inv }),
      c.max.ensures.value,
      to_z-of_z w64 c.args.x c.ranges.x,
    ) (clamped c.args.x c.ranges.x)
