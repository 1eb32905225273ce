-- `place_writes::write_regular` meets its contract.
use Rattle.places.specs.Layout.{regular_row, reserve_row}
use Rattle.places.specs.Offsets.{regular_reserve_at, regular_display_at}
use native.Mathlib.Omega.{arith}
use Prim.Native.Nat.{suc, ◌+◌, ◌*◌}
use mathlib.Core.Path.{◌≡◌, refl}
use Rattle.place_writes.proofs.write_regular.Goals as goal

pub returns : goal.returns
unfolding regular_row reserve_row
returns c = let i = c.args.i in
    let p1 : 4 * i + 1 ≡ suc (4 * i) = omega arith in
    let p2 : 4 * i + 2 ≡ suc (suc (4 * i)) = omega arith in
    let p3 : 4 * i + 3 ≡ suc (suc (suc (4 * i))) = omega arith in
    let p4 : 2 * i + regular_display_at ≡ suc (2 * i + regular_reserve_at) = omega arith in
    rw (p1, p2, p3, p4, c.place_number-place.ensures) refl
