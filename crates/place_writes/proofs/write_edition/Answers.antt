-- `place_writes::write_edition` meets its contract.
use mathlib.Core.Path.{◌≡◌, refl}
use Prim.Native.Nat.{suc, ◌+◌, ◌*◌}
use native.Mathlib.Omega.{arith}
use Rattle.places.specs.Layout.{edition_row}
use Rattle.places.specs.Offsets.{edition_number_at, edition_message_at, edition_figure_at, edition_value_at}
use Rattle.place_writes.proofs.write_edition.Goals as goal

pub returns : goal.returns
unfolding edition_row
returns c = let i = c.args.i in
    let p1 : 4 * i + edition_message_at ≡ suc (4 * i + edition_number_at) = omega arith in
    let p2 : 4 * i + edition_figure_at ≡ suc (suc (4 * i + edition_number_at)) = omega arith in
    let p3 : 4 * i + edition_value_at ≡ suc (suc (suc (4 * i + edition_number_at))) = omega arith in (
      rw (p1, p2, p3, c.from.ensures, c.from-2.ensures) refl,
      omega arith,
      omega arith,
    )
