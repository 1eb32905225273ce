-- `venue_writer::ComplexOrdersTable::put` meets its contract.
use mathlib.Core.Path.{ap, ◌∙◌}
use mathlib.Core.List.{List, [], ◌∷◌, ◌++◌}
use Prim.Native.Nat.{ℕ}
use mir.Syntax.{w32, w64}
use mir.Val.{SFits, to_z, of_z}
use mir.ValLaws.{to_z-of_z}
use Rattle.rules.specs.Bytes.{bytes, u32, i32}
use Rattle.rules.proofs.Reading.{byte}
use Rattle.records.specs.Seen.{word_bytes}
use Rattle.places.proofs.Limits.{number-cast, back32}
use Rattle.venue_bytes.specs.Held.{complex_bytes}
use Rattle.venue_writer.proofs.Whole.{plus_is}
use borrow.Author.Rules.{rules}
use Rattle.venue_writer.proofs.ComplexOrdersTable.put.Goals as goal

pub overflow_cast-c : goal.overflow_cast-c
overflow_cast-c c =
    let limit-fits : SFits w32 c.args.c.limit = record { sfits = c.struct_told-1.given.1.1.1.1.1.1.0.1 } in
    number-cast limit-fits

pub returns : goal.returns
unfolding complex_bytes bytes word_bytes
returns c =
    let limit-fits : SFits w32 c.args.c.limit = record { sfits = c.struct_told-1.given.1.1.1.1.1.1.0.1 } in
    let f = limit-fits in
    let n = c.bits.ensures ∙ ap i32 (to_z-of_z w64 (to_z w32 (of_z w32 c.args.c.limit)) (number-cast f) ∙ back32 f) in
    plus_is _ _ _ _ c.put_words.ensures
    (rw (
      c.bytes4-i.ensures,
      byte c.args.c.series1 (search rules),
      byte c.args.c.side1 (search rules),
      byte c.args.c.series2 (search rules),
      byte c.args.c.side2 (search rules),
      byte c.args.c.class (search rules),
    )
    (ap (λ (y : List ℕ). u32 c.args.c.id
    ++ (c.args.c.series1 ∷ c.args.c.side1 ∷ c.args.c.series2 ∷ c.args.c.side2 ∷ c.args.c.class ∷ [])
    ++ (y ++ (u32 c.args.c.quantity ++ []))) n))
