-- `places::cross_key_at` meets its contract.
use mathlib.Core.Path.{◌≡◌, sym}
use Prim.Native.Nat.{ℕ, ◌+◌, ◌*◌, ◌/◌, ◌%◌}
use native.Mathlib.Nat.{div-div-eq-div-mul}
use native.Mathlib.Omega.{arith}
use lib.ListN.{get_or}
use Rattle.rules.specs.Words.{place_of}
use Rattle.places.specs.Offsets.{complex_legs_at, complex_ratios_at}
use Rattle.places.specs.Layout.{complex_in, legs_key, ratios_number, cross_key}
use Rattle.places.proofs.cross_key_at.Goals as goal

digits : (x : ℕ) → x % 65536 ≡ 256 * (x / 256 % 256) + x % 256
digits x = let e : x / 65536 ≡ x / 256 / 256 = sym (div-div-eq-div-mul x 256 256) in omega arith

legs : (x : ℕ) → x % 256 ≡ 16 * (2 * (x % 256 / 32) + x / 16 % 2) + (2 * (x % 16 / 2) + x % 2)
legs x = omega arith

pub returns : goal.returns
unfolding cross_key ratios_number legs_key complex_in place_of
returns c =
    let a = c.args in
    let r = digits (get_or a.numbers.now (6 * a.i + complex_ratios_at) 0) in
    let l = legs (get_or a.numbers.now (6 * a.i + complex_legs_at) 0) in
    omega arith
