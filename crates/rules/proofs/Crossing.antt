-- Request (b): in a cross neither party's net is above what best regular prices of both its legs would give it, where both legs have one.
use mathlib.Core.Path.{◌≡◌}
use mathlib.Core.Bool.{true}
use Prim.Native.Nat.{ℕ}
use lib.IntN.{ℤ, neg_ℤ}
use lib.Signed.{le_z}
use Rattle.rules.specs.declared.Complex.{Complex}
use Rattle.rules.specs.declared.Venue.{Venue}
use Rattle.rules.specs.Base.{held}
use Rattle.rules.specs.Words.{complex_at, no_complex, opposite}
use Rattle.rules.specs.Prices.{best_regular, net}
use Rattle.rules.specs.Effects.{Turn, ended, turned}
use Rattle.rules.specs.Complex.{cross, cross_turn, crosses, respects_legs}
use Rattle.rules.proofs.Cases.{cross_turn-by}
use Rattle.rules.proofs.Picking.{At}
use Rattle.rules.proofs.Tests.{and_l, and_r}

-- what the test says of a party at net t
pub respects : (v : Venue) (c : Complex) (t : ℤ) → respects_legs v c t ≡ true →
    let a = best_regular v c.series1 (opposite c.side1) in
    let b = best_regular v c.series2 (opposite c.side2) in
    held a ≡ true → held b ≡ true → le_z t (net c a b) ≡ true
unfolding respects_legs
respects v c t h p q = rw (p, q) at h

-- what a turn of crossing does for the order at place i: nothing, or a cross with the order at place j, at that one's limit
pub data Dealt (i : ℕ) (v : Venue) : Turn → Type 0 where
  none : Dealt i v ended
  dealt : (j k : ℕ) → respects_legs v (complex_at v i) (neg_ℤ (complex_at v j).limit) ≡ true →
      respects_legs v (complex_at v j) (complex_at v j).limit ≡ true → Dealt i v (turned (cross i j k v))

dealt-with : (i : ℕ) (v : Venue) (j : ℕ) (m : Complex) (k : ℕ) → At no_complex (crosses v (complex_at v i)) v.complex j m → Dealt i v (turned (cross i j k v))
unfolding complex_at crosses
dealt-with i v j m k h =
    let z = h.is in
    let x : respects_legs v (complex_at v i) (neg_ℤ m.limit) ≡ true = search (and_l, and_r, z) depth 10 in
    let y : respects_legs v m m.limit ≡ true = search (and_l, and_r, z) depth 10 in
    dealt j k (rw h.at x) (rw h.at y)

pub cross-respects : (i : ℕ) (v : Venue) → Dealt i v (cross_turn i v)
cross-respects i v = cross_turn-by (Dealt i v) i v (λ _. none) (λ _ _. none) (λ _ j m h. dealt-with i v j m _ h)
