-- Legging in, test by test and step by step.
use Rattle.std.specs.Prelude.{if◌then◌else◌}
use mathlib.Core.Path.{◌≡◌, refl, sym, ap, ap₂, ◌∙◌}
use mathlib.Core.Bool.{Bool, true, false, not, ◌&&◌}
use mathlib.Core.List.{List}
use Prim.Native.Nat.{ℕ, ◌*◌, ◌/◌, min}
use native.Mathlib.Omega.{arith}
use borrow.Author.Tests.{eq-eqb, ne_eqb}
use lib.IntN.{ℤ, ◌+ℤ◌}
use lib.Signed.{le_z, lt_z}
use Rattle.rules.specs.declared.Complex.{Complex}
use Rattle.rules.specs.declared.Venue.{Venue}
use Rattle.rules.specs.Base.{held}
use Rattle.rules.specs.Words.{opposite, complex_at}
use Rattle.rules.specs.Prices.{best_regular, weighed, net, in_band}
use Rattle.rules.specs.Effects.{Effect, ◌⟫◌, Turn, ended, turned}
use Rattle.rules.specs.Trading.{trade_at_price, pair_off}
use Rattle.rules.specs.Complex.{legs_in, leg_in, units_in, leg_in_turn}
use Rattle.records.specs.Seen.{seen}
use Rattle.records.specs.Stage.{stage, ◌does◌}
use Rattle.records.proofs.StageLaws.{follow}
use Rattle.levels.specs.declared.TakenLevels.{TakenLevels}
use Rattle.levels.specs.Grid.{TakenOf}
use Rattle.levels.proofs.Sides.{level-price, level-size}
use Rattle.rules.proofs.Ranges.{le_z-not}

-- The test ------------------------------------------------------------------------------------

module _ (v : Venue) (c : Complex) (a p : ℕ) where
  pub leg-free : c.quantity ≡ 0 → false ≡ legs_in v c a p
  unfolding legs_in
  leg-free h = rw (eq-eqb c.quantity 0 h)

  module _ (n : c.quantity ≡ 0 → ⊥) where
    pub leg-none1 : a ≡ 0 → false ≡ legs_in v c a p
    unfolding legs_in
    leg-none1 h = rw (ne_eqb c.quantity 0 n, eq-eqb a 0 h)

    module _ (m : a ≡ 0 → ⊥) where
      pub leg-none2 : p ≡ 0 → false ≡ legs_in v c a p
      unfolding legs_in
      leg-none2 h = rw (ne_eqb c.quantity 0 n, ne_eqb a 0 m, eq-eqb p 0 h)

      module _ (q : p ≡ 0 → ⊥) (x y : ℤ) (ex : x ≡ weighed c.ratio1 c.side1 a +ℤ weighed c.ratio2 c.side2 p) (ey : y ≡ c.limit) where
        limited : (t : Bool) → lt_z y x ≡ t → le_z x c.limit ≡ not t
        limited t h = ap (le_z x) (sym ey) ∙ le_z-not x y ∙ ap not h

        pub leg-over : lt_z y x ≡ true → false ≡ legs_in v c a p
        unfolding legs_in net
        leg-over h = rw (ne_eqb c.quantity 0 n, ne_eqb a 0 m, ne_eqb p 0 q, ← ex, limited true h)

        pub leg-band : lt_z y x ≡ false → (t : Bool) → t ≡ in_band v c x → t ≡ legs_in v c a p
        unfolding legs_in net
        leg-band h t e = rw (ne_eqb c.quantity 0 n, ne_eqb a 0 m, ne_eqb p 0 q, ← ex, limited false h) e

-- The effect ----------------------------------------------------------------------------------

-- the first leg's trades, x contracts, the second's, y contracts, the pair
pub leg-in-law : (i a p k x y : ℕ) (v v₁ v₂ v₃ : Venue) (l₀ l₁ l₂ l₃ : List ℕ) (a₀ a₁ a₂ a₃ : ℕ) (c : Complex) (n : ℤ) →
    c ≡ complex_at v i → n ≡ weighed c.ratio1 c.side1 a +ℤ weighed c.ratio2 c.side2 p → x ≡ c.ratio1 * k → y ≡ c.ratio2 * k →
    stage v₁ l₁ a₁ ≡ seen l₀ a₀ does trade_at_price x c.id c.series1 c.side1 a x v →
    stage v₂ l₂ a₂ ≡ seen l₁ a₁ does trade_at_price y c.id c.series2 c.side2 p y v₁ →
    stage v₃ l₃ a₃ ≡ seen l₂ a₂ does pair_off i c.id n k v₂ →
    stage v₃ l₃ a₃ ≡ seen l₀ a₀ does leg_in i a p k v
unfolding leg_in net
leg-in-law i a p k x y v v₁ v₂ v₃ l₀ l₁ l₂ l₃ a₀ a₁ a₂ a₃ c n ec en ex ey t u r =
    let steps : Complex → ℕ → ℕ → ℤ → Effect = λ c x y n.
    trade_at_price x c.id c.series1 c.side1 a x v ⟫ trade_at_price y c.id c.series2 c.side2 p y ⟫ pair_off i c.id n k in
    follow (seen l₀ a₀) (trade_at_price x c.id c.series1 c.side1 a x v ⟫ trade_at_price y c.id c.series2 c.side2 p y) (pair_off i c.id n k) v₂ v₃ l₂ l₃ a₂ a₃
    (follow (seen l₀ a₀) (trade_at_price x c.id c.series1 c.side1 a x v) (trade_at_price y c.id c.series2 c.side2 p y) v₁ v₂ l₁ l₂ a₁ a₂ t u) r
    ∙ ap (λ (z : ℤ). seen l₀ a₀ does steps c x y z) en
    ∙ ap₂ (λ (x y : ℕ). seen l₀ a₀ does steps c x y (net c a p)) ex ey
    ∙ ap (λ (z : Complex). seen l₀ a₀ does steps z (z.ratio1 * k) (z.ratio2 * k) (net z a p)) ec

-- The turn ------------------------------------------------------------------------------------

-- the turn, with the order at its place
turn_for : ℕ → Venue → Complex → Turn
turn_for i v c =
    let a = best_regular v c.series1 (opposite c.side1) in
    let p = best_regular v c.series2 (opposite c.side2) in
    let k = units_in v c in
    if legs_in v c a p && held k then turned (leg_in i a p k v) else ended

turn-for : (i : ℕ) (v : Venue) → turn_for i v (complex_at v i) ≡ leg_in_turn i v
unfolding turn_for leg_in_turn
turn-for i v = refl

-- t has the levels that the order's legs take
module _ (v : Venue) (c : Complex) (t : TakenLevels) (h : TakenOf t c v.regular) where
  -- the units that the sizes fill, and that are open
  pub units-are : (x y q r : ℕ) → x ≡ t.first.size / c.ratio1 → q ≡ min c.quantity x → y ≡ t.second.size / c.ratio2 → r ≡ min q y → r ≡ units_in v c
  unfolding units_in
  units-are x y q r ex eq ey er =
      rw (
        ← level-size v c.series1 (opposite c.side1) t.first h.first,
        ← level-size v c.series2 (opposite c.side2) t.second h.second,
        ← ex,
        ← ey,
      ) (omega arith)

  price1 : t.first.price ≡ best_regular v c.series1 (opposite c.side1)
  price1 = level-price v c.series1 (opposite c.side1) t.first h.first

  price2 : t.second.price ≡ best_regular v c.series2 (opposite c.side2)
  price2 = level-price v c.series2 (opposite c.side2) t.second h.second

  module _ (i : ℕ) (e : c ≡ complex_at v i) where
    here : turn_for i v c ≡ leg_in_turn i v
    here = ap (turn_for i v) e ∙ turn-for i v

    stops : legs_in v c t.first.price t.second.price ≡ false → ended ≡ turn_for i v c
    unfolding turn_for
    stops q = rw (← price1, ← price2, q)

    pub leg-stop : legs_in v c t.first.price t.second.price ≡ false → ended ≡ leg_in_turn i v
    leg-stop q = stops q ∙ here

    module _ (n : legs_in v c t.first.price t.second.price ≡ true) (k : ℕ) (ek : k ≡ units_in v c) where
      short : k ≡ 0 → ended ≡ turn_for i v c
      unfolding turn_for
      short z = rw (← price1, ← price2, n, ← ek, eq-eqb k 0 z)

      pub leg-short : k ≡ 0 → ended ≡ leg_in_turn i v
      leg-short z = short z ∙ here

      turns : (k ≡ 0 → ⊥) → turned (leg_in i t.first.price t.second.price k v) ≡ turn_for i v c
      unfolding turn_for
      turns z = rw (← price1, ← price2, n, ← ek, ne_eqb k 0 z)

      pub leg-turn : (k ≡ 0 → ⊥) → turned (leg_in i t.first.price t.second.price k v) ≡ leg_in_turn i v
      leg-turn z = turns z ∙ here
