use mathlib.Core.Path.{ap, ◌∙◌}
use mathlib.Core.List.{List, [], ◌∷◌, ◌++◌}
use Prim.Native.Nat.{ℕ}
use mir.Syntax.{w64}
use mir.ValLaws.{to_z-of_z}
use Rattle.rules.specs.Bytes.{framed, bytes, u32, i32}
use Rattle.rules.specs.Records.{pair, encode}
use Rattle.records.specs.Seen.{word_bytes}
use Rattle.records.proofs.SeenLaws.{emitted}
use Rattle.records.proofs.emit_pair.Goals as goal

pub returns : goal.returns
unfolding encode framed bytes word_bytes
returns c =
    let n = c.bits.ensures ∙ ap i32 (to_z-of_z w64 c.args.net c.ranges.net) in
    emitted _ _ _ (pair c.args.id c.args.net c.args.quantity) c.put_words.ensures
    (ap (λ (y : List ℕ). (16 ∷ 0 ∷ 66 ∷ 0 ∷ []) ++ (u32 c.args.id ++ (y ++ (u32 c.args.quantity ++ [])))) n)
