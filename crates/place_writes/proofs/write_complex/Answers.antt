-- `place_writes::write_complex` meets its contract.
use native.Mathlib.Omega.{arith}
use mathlib.Core.Path.{◌≡◌, refl, ap, ◌∙◌}
use Prim.Native.Nat.{suc, ◌+◌, ◌*◌}
use mir.Syntax.{w32}
use mir.Val.{SFits}
use Rattle.rules.specs.Words.{place_of}
use Rattle.places.specs.Layout.{legs_key, ratios_number, limit_number, complex_row}
use Rattle.places.specs.Offsets.{complex_id_at, complex_legs_at, complex_ratios_at, complex_class_at, complex_limit_at, complex_quantity_at}
use Rattle.places.proofs.Limits.{back32, limit-back}
use borrow.Author.Rules.{rules}
use Rattle.place_writes.proofs.write_complex.Goals as goal

pub overflow_mul-numbers-2 : goal.overflow_mul-numbers-2
unfolding place_of
overflow_mul-numbers-2 c = search rules

pub overflow_add-numbers-2 : goal.overflow_add-numbers-2
unfolding place_of
overflow_add-numbers-2 c = search rules

pub returns : goal.returns
unfolding complex_row legs_key ratios_number
returns c =
    let a = c.args in
    let p1 : 6 * a.i + complex_legs_at ≡ suc (6 * a.i + complex_id_at) = omega arith in
    let p2 : 6 * a.i + complex_ratios_at ≡ suc (suc (6 * a.i + complex_id_at)) = omega arith in
    let p3 : 6 * a.i + complex_class_at ≡ suc (suc (suc (6 * a.i + complex_id_at))) = omega arith in
    let p4 : 6 * a.i + complex_limit_at ≡ suc (suc (suc (suc (6 * a.i + complex_id_at)))) = omega arith in
    let p5 : 6 * a.i + complex_quantity_at ≡ suc (suc (suc (suc (suc (6 * a.i + complex_id_at))))) = omega arith in
    let f : SFits w32 a.c.limit = record { sfits = c.struct_told-1.given.1.1.1.1.1.1.0.1 } in (
      rw (p1, p2, p3, p4, p5, c.from.ensures, c.from-2.ensures, c.from-3.ensures, c.place_number-one.ensures, c.place_number-two.ensures, c.limit_number-limit.ensures ∙ ap limit_number (back32 f)) refl,
      record { class = omega arith; limit = limit-back f; ratio1 = omega arith; ratio2 = omega arith },
    )
