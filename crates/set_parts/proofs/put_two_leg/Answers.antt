-- `set_parts::put_two_leg` meets its contract.
use mathlib.Core.Path.{ap, ◌∙◌}
use mathlib.Core.List.{List, [], ◌∷◌, ◌++◌}
use Prim.Native.Nat.{ℕ}
use mir.Syntax.{w32}
use mir.Val.{SFits}
use borrow.Author.Rules.{rules}
use Rattle.rules.specs.Bytes.{bytes, u32, i32}
use Rattle.rules.specs.Messages.{two_leg_fields}
use Rattle.rules.proofs.Reading.{byte}
use Rattle.records.specs.Seen.{word_bytes}
use Rattle.rules.proofs.Machine.{back}
use Rattle.places.proofs.Limits.{back32}
use Rattle.set_parts.proofs.SetMemoryLaws.{wrote}
-- the limit is an i32
use Rattle.set_parts.proofs.put_two_leg.Goals as goal

pub returns : goal.returns
unfolding two_leg_fields bytes word_bytes
returns c =
    let f : SFits w32 c.args.c.limit = record { sfits = c.struct_told-1.given.1.1.1.1.1.1.0.1 } in
    let n = c.bits.ensures ∙ ap i32 (back {z = c.from.result} (record { sfits = c.from.type_inv }) ∙ c.from.ensures ∙ back32 f) in
    wrote _ _ _ _ _ _ c.put_words.ensures
    (rw (
      c.bytes4-i.ensures,
      byte c.args.c.series1 (search rules),
      byte c.args.c.side1 (search rules),
      byte c.args.c.series2 (search rules),
      byte c.args.c.side2 (search rules),
      byte c.args.c.class (search rules),
    )
    (ap (λ (y : List ℕ). c.args.length ∷ 0 ∷ c.args.kind ∷ 0 ∷ u32 c.args.c.id
    ++ (c.args.c.series1 ∷ c.args.c.side1 ∷ c.args.c.series2 ∷ c.args.c.side2 ∷ c.args.c.class ∷ [])
    ++ (y ++ (u32 c.args.c.quantity ++ []))) n))
