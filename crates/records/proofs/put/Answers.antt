use mathlib.Core.Path.{ap, sym, ◌∙◌}
use mathlib.Core.List.{List}
use Prim.Native.Nat.{ℕ, ◌+◌}
use native.Mathlib.Omega.{arith}
use native.Mathlib.Numerals.{add-one}
use lib.ListN.{length}
use Rattle.records.specs.Seen.{seen}
use Rattle.records.proofs.SeenLaws.{plus-in, plus-out, pasted-part}
use Rattle.records.proofs.put.Goals as goal

pub returns-then-n-at : goal.returns-then-n-at
returns-then-n-at c = rw add-one (sym (plus-out _ _ _ (omega arith)))

pub returns-then-n-at-2 : goal.returns-then-n-at-2
returns-then-n-at-2 c = rw add-one (sym (plus-out _ _ _ (omega arith)))

pub returns : goal.returns
returns c =
    let s = c.args in
    ap (λ (l : List ℕ). seen l (s.at + length s.src.now)) (pasted-part s.out.now _ s.src.now s.at _ c.copy_from_slice.ensures.after (omega arith))
    ∙ sym (plus-in s.out.now s.src.now s.at (omega arith))
