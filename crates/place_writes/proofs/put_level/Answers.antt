-- `place_writes::put_level` meets its contract.
use mathlib.Core.Path.{◌≡◌}
use Prim.Native.Nat.{suc, ◌+◌, ◌*◌}
use native.Mathlib.Omega.{arith}
use Rattle.place_writes.proofs.Stores.{put-level}
use Rattle.places.specs.Offsets.{level_price_at, level_low_at, level_high_at}
use Rattle.place_writes.proofs.put_level.Goals as goal

pub returns : goal.returns
returns c = let n = c.args.n in
    let p1 : 3 * n + level_low_at ≡ suc (3 * n + level_price_at) = omega arith in
    let p2 : 3 * n + level_high_at ≡ suc (suc (3 * n + level_price_at)) = omega arith in
    rw (p1, p2) (put-level c.args.numbers.now n c.args.l c.told-numbers c.requires)
