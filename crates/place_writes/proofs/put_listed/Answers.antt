-- `place_writes::put_listed` meets its contract.
use Rattle.place_writes.proofs.Stores.{sets-outside, put-listed}
use Rattle.places.proofs.Beside.{counts-kept}
use mathlib.Core.Logic.{inr}
use mathlib.Core.List.{[], ◌∷◌}
use native.Mathlib.Omega.{arith}
use Prim.Native.Nat.{suc, ◌+◌, ◌*◌}
use mathlib.Core.Path.{◌≡◌}
use Rattle.places.specs.Offsets.{series_status_at, series_bid_at, series_offer_at}
use Rattle.place_writes.proofs.put_listed.Goals as goal

pub returns : goal.returns
returns c = let n = c.args.s in
    let p1 : 3 * n + series_bid_at ≡ suc (3 * n + series_status_at) = omega arith in
    let p2 : 3 * n + series_offer_at ≡ suc (suc (3 * n + series_status_at)) = omega arith in
    let x = c.args.x in
    record { numbers_after = rw (p1, p2, c.from.ensures) (put-listed c.args.numbers.now n x c.told-numbers c.requires (omega arith)); counts = rw (p1, p2, c.from.ensures) (counts-kept (sets-outside c.args.numbers.now (3 * n + series_status_at) (x.status ∷ x.bid ∷ x.offer ∷ [])) (omega arith) (omega arith) (inr (omega arith))) }
