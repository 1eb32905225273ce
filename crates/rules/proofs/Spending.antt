-- What taking costs: at most the trade with one maker that still shows some; and where it takes all of a level it pays. A maker whose shown size is gone pays
-- for its trade; that it may have a reserve left is no matter, as no more is taken from it.
use mathlib.Core.Path.{◌≡◌, ap, refl}
use Prim.Native.Nat.{ℕ, zero, suc, ◌+◌, ◌-◌, ◌≤◌, ◌<◌, min}
use native.Mathlib.Omega.{arith}
use native.Mathlib.Decide.{dec_le}
use Rattle.rules.specs.declared.Regular.{Regular}
use Rattle.rules.specs.declared.Venue.{Venue}
use Rattle.rules.specs.Words.{opposite, no_regular, regular_at}
use Rattle.rules.specs.Prices.{shown_size, shows_for, size_in}
use Rattle.rules.specs.Records.{trade}
use Rattle.rules.specs.Effects.{Effect, nothing, report, ◌⟫◌}
use Rattle.rules.specs.Trading.{fill_regular, trade_with, trade_at_price}
use Rattle.rules.specs.Lengths.{record_length, per_regular}
use Rattle.rules.proofs.Cases.{at-price-by}
use Rattle.rules.proofs.Picking.{At}
use Rattle.rules.proofs.Sizes.{size_none}
use Rattle.rules.proofs.TradingLaws.{left, some-shown}
use Rattle.rules.proofs.Tests.{free-none, held-pos}
use Rattle.rules.proofs.Summing.{due, due-none, due-most}
use Rattle.rules.proofs.Worth.{worth, fill-le, fill_shows, spent, spent-nothing, spent-report, spent-then}

-- what a maker whose shown size is gone pays for beside its own trade when legging in: a trade and a pair
abbrev pub spare : ℕ
spare = 38

-- a trade with the order at place i
pub trade-spent : (a b x d i k : ℕ) (v : Venue) → spent a b (trade_with x d i k v) ≡ 22 + worth a b (fill_regular i k v)
unfolding trade_with record_length
trade-spent a b x d i k v = spent-report a b (trade (regular_at v i).series d (regular_at v i).price k x (regular_at v i).id) (fill_regular i k v)

module _ (a b : ℕ) (pays : 22 ≤ a) (x s d p : ℕ) where
  -- one trade and then the rest
  then_spent : (i q : ℕ) (v : Venue) (f : Venue → Effect) → spent a b (trade_with x d i q v ⟫ f) ≡ 22 + spent a b (f (fill_regular i q v))
  unfolding trade_with report
  then_spent i q v f =
      let y = spent-then a b (trade_with x d i q v) f in
      let z = trade-spent a b x d i q v in
      omega arith

  -- the order o at place i is met first
  abbrev Met : Venue → (i : ℕ) → Regular → Type 0
  Met v i o = At no_regular (shows_for s (opposite d) p) v.regular i o

  frees : (v : Venue) (i : ℕ) (o : Regular) → Met v i o → (q : ℕ) → shown_size o ≤ q → worth a b (fill_regular i q v) + a ≤ worth a b v
  unfolding regular_at
  frees v i o m q le =
      let e : shown_size (regular_at v i) ≡ shown_size o = ap shown_size m.at in
      let z = some-shown x s d p i o v m in
      fill_shows a b i q v (omega arith) (omega arith)

  -- taking costs at most one trade
  abbrev Cheap : (k : ℕ) → Venue → Effect → Type 0
  Cheap k v e = (spent a b e ≤ worth a b v + 22) × (k ≡ 0 → spent a b e ≤ worth a b v)

  cheap-none : (k : ℕ) (v : Venue) → Cheap k v (nothing v)
  cheap-none k v = let z = spent-nothing a b v in (omega arith, λ _. omega arith)

  cheap-trade : (k : ℕ) (v : Venue) (i : ℕ) (o : Regular) (q : ℕ) → q ≡ min k (shown_size o) → 0 < k → Met v i o → (f : Venue → Effect) →
      Cheap (k - q) (fill_regular i q v) (f (fill_regular i q v)) → Cheap k v (trade_with x d i q v ⟫ f)
  cheap-trade k v i o q is h m f ih = (go (dec_le (shown_size o) k), λ e. absurd (omega arith))
    where
      go : Dec (shown_size o ≤ k) → spent a b (trade_with x d i q v ⟫ f) ≤ worth a b v + 22
      go (yes le) = let w = frees v i o m q (omega arith) in omega (arith, ih.0, then_spent i q v f)
      go (no gt) = let w = fill-le a b i q v in omega (arith, ih.1 (omega arith), then_spent i q v f)

  takes-cheaply : (fuel k : ℕ) (v : Venue) → Cheap k v (trade_at_price fuel x s d p k v)
  takes-cheaply zero k v = unfold trade_at_price in (cheap-none k v)
  takes-cheaply (suc fuel) k v =
      at-price-by (Cheap k v) fuel x s d p k v (λ _. cheap-none k v) (λ _ _. cheap-none k v)
      (λ h i o m. cheap-trade k v i o _ refl (held-pos k h) m _ (takes-cheaply fuel _ _))

  pub at-price-cheap : (fuel k : ℕ) (v : Venue) → spent a b (trade_at_price fuel x s d p k v) ≤ worth a b v + 22
  at-price-cheap fuel k v = (takes-cheaply fuel k v).0

-- where it takes all that there is at the price, no maker shows any more: with some there it pays for a trade and a pair besides
module _ (a b : ℕ) (pays : per_regular ≤ a) (x s d p : ℕ) where
  abbrev size : Venue → ℕ
  size v = size_in s (opposite d) p v.regular

  abbrev Empties : Venue → Effect → Type 0
  Empties v e = spent a b e + due spare (size v) ≤ worth a b v

  empties-none : (v : Venue) → size v ≡ 0 → Empties v (nothing v)
  empties-none v e = rw (e, due-none spare, spent-nothing a b v) (omega arith)

  empties-trade : (k : ℕ) (v : Venue) (i : ℕ) (o : Regular) (q : ℕ) → q ≡ min k (shown_size o) → size v ≤ k → Met a b (omega arith) x s d p v i o → (f : Venue → Effect) →
      (size (fill_regular i q v) ≤ k - q → Empties (fill_regular i q v) (f (fill_regular i q v))) → Empties v (trade_with x d i q v ⟫ f)
  empties-trade k v i o q is le m f ih =
      let all = left x s d p i o v m (shown_size o) (omega arith) in
      let some = left x s d p i o v m q (omega arith) in
      let w = frees a b (omega arith) x s d p v i o m q (omega arith) in
      let y = due-most spare (size v) in
      omega (arith, ih (omega arith), then_spent a b (omega arith) x s d p i q v f)

  pub at-price-empties : (fuel k : ℕ) (v : Venue) → size v ≤ k → k ≤ fuel → spent a b (trade_at_price fuel x s d p k v) + due spare (size v) ≤ worth a b v
  at-price-empties zero k v le enough = unfold trade_at_price in (empties-none v (omega arith))
  at-price-empties (suc fuel) k v le enough =
      at-price-by (Empties v) fuel x s d p k v (λ h. empties-none v (let z = free-none k h in omega arith)) (λ _ a. empties-none v (size_none s (opposite d) p v.regular a))
      (λ h i o m. empties-trade k v i o _ refl le m _
      (λ l. at-price-empties fuel _ _ l (let z = some-shown x s d p i o v m in let y = held-pos k h in omega arith)))
