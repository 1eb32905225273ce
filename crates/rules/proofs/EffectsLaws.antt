-- Whatever fills, removals and showing again keep, every effect keeps but admission and generation.
use mathlib.Core.Path.{subst}
use mathlib.Core.List.{List, [], ◌∷◌}
use mathlib.Core.Bool.{◌&&◌}
use Prim.Native.Nat.{suc, zero, ℕ}
use lib.IntN.{ℤ}
use Rattle.rules.specs.declared.Cause.{Cause}
use Rattle.rules.specs.declared.Legging.{Legging}
use Rattle.rules.specs.declared.Venue.{Venue}
use Rattle.rules.specs.declared.Verdict.{Verdict}
use Rattle.rules.specs.Base.{held}
use Rattle.rules.specs.Words.{complex_at}
use Rattle.rules.specs.Effects.{Effect, Turn, ◌⟫◌, ended, nothing, repeat, report, turned}
use Rattle.rules.specs.Removal.{remove, remove_of}
use Rattle.rules.specs.Standing.{settle, show_again, verdict}
use Rattle.rules.specs.Trading.{fill_complex, fill_regular, pair_off, trade_at_price, trade_with}
use Rattle.rules.specs.Order.{hit, meet, meet_turn}
use Rattle.rules.specs.Complex.{any_closed, cancel, cancel_complex, cancel_regular, cross, cross_turn, each_of, leg_in, leg_in_turn, legs_in, rests_regular, units_in, touch, touches, work}
use Rattle.rules.proofs.Cases.{cross_turn-by, if-by, meet_turn-by, repeat-by, at-price-by}

-- f for each order of a sweep
pub keeps-each_of : (P : Venue → Type 0) (f : ℕ → Venue → Effect) → ((i : ℕ) (v : Venue) → P v → P (f i v).venue) → (places : List ℕ) (v : Venue) → P v → P (each_of f places v).venue
unfolding each_of nothing ◌⟫◌
keeps-each_of P f ok [] v h = h
keeps-each_of P f ok (i ∷ places) v h = keeps-each_of P f ok places _ (ok i v h)

-- fills, removals and showing again keep P
pub record Lasts (P : Venue → Type 0) : Type 0 where
  pub fill_r : (i k : ℕ) (v : Venue) → P v → P (fill_regular i k v)
  pub fill_c : (i k : ℕ) (v : Venue) → P v → P (fill_complex i k v)
  pub gone : (f : ℕ → Legging → Verdict) (v : Venue) → P v → P (remove f v).venue
  pub again : (v : Venue) → P v → P (show_again v)

module _ {P : Venue → Type 0} (lasts : Lasts P) where
  pub keeps-remove_of : (id : ℕ) (c : Cause) (v : Venue) → P v → P (remove_of id c v).venue
  unfolding remove_of
  keeps-remove_of id c v h = lasts.gone _ v h

  pub keeps-settle : (v : Venue) → P v → P (settle v).venue
  unfolding settle
  keeps-settle v h = lasts.gone (verdict (show_again v)) (show_again v) (lasts.again v h)

  pub keeps-at-price : (x s d p fuel k : ℕ) (v : Venue) → P v → P (trade_at_price fuel x s d p k v).venue
  unfolding nothing ◌⟫◌ trade_with report
  keeps-at-price x s d p zero k v h = unfold trade_at_price in h
  keeps-at-price x s d p (suc fuel) k v h =
      at-price-by (λ e. P e.venue) fuel x s d p k v (λ _. h) (λ _ _. h) (λ _ i o _. keeps-at-price x s d p fuel _ _ (lasts.fill_r i _ v h))

  keeps-pair_off : (i id : ℕ) (n : ℤ) (k : ℕ) (v : Venue) → P v → P (pair_off i id n k v).venue
  unfolding pair_off report ◌⟫◌
  keeps-pair_off i id n k v h = keeps-remove_of _ _ _ (lasts.fill_c i k v h)

  -- each from the fill of its taker on
  pub meet-from : (i j k : ℕ) (v : Venue) → P (fill_regular i k v) → P (meet i j k v).venue
  unfolding meet trade_with report
  meet-from i j k v h = lasts.fill_r j k _ h

  pub hit-from : (i : ℕ) (l : Legging) (k : ℕ) (v : Venue) → P (fill_regular i k v) → P (hit i l k v).venue
  unfolding hit report nothing ◌⟫◌
  hit-from i l k v h = keeps-pair_off _ _ _ k _ (keeps-at-price _ _ _ _ k k _ h)

  pub cross-from : (i j k : ℕ) (v : Venue) → P (fill_complex i k v) → P (cross i j k v).venue
  unfolding cross report ◌⟫◌
  cross-from i j k v h = keeps-remove_of _ _ _ (keeps-remove_of _ _ _ (lasts.fill_c j k _ h))

  pub keeps-leg_in : (i a b k : ℕ) (v : Venue) → P v → P (leg_in i a b k v).venue
  unfolding leg_in report ◌⟫◌
  keeps-leg_in i a b k v h = keeps-pair_off i _ _ k _ (keeps-at-price _ _ _ _ _ _ _ (keeps-at-price _ _ _ _ _ _ v h))

  pub keeps-touch : (i : ℕ) (v : Venue) → P v → P (touch i v).venue
  unfolding touch nothing
  keeps-touch i v h = if-by (λ (e : Effect). P e.venue) (touches v (complex_at v i)) (λ _. lasts.gone _ v h) (λ _. h)

  -- Turns
  abbrev Turns : Turn → Type 0
  Turns ended = Unit {0}
  Turns (turned e) = P e.venue

  keeps-repeat : (turn : Venue → Turn) → ((v : Venue) → P v → Turns (turn v)) → (fuel : ℕ) (v : Venue) → P v → P (repeat fuel turn v).venue
  unfolding nothing ◌⟫◌
  keeps-repeat turn ok zero v h = unfold repeat in h
  keeps-repeat turn ok (suc fuel) v h =
      repeat-by (λ e. P e.venue) fuel turn v (λ _. h) (λ e is. keeps-repeat turn ok fuel _ (subst Turns is (ok v h)))

  meet_turn-keeps : (i : ℕ) (v : Venue) → P v → Turns (meet_turn i v)
  meet_turn-keeps i v h =
      meet_turn-by Turns i v (λ _. tt) (λ _ _ _. tt) (λ _ _ _. hit-from i _ _ v (lasts.fill_r i _ v h)) (λ _ j _ _ _. meet-from i j _ v (lasts.fill_r i _ v h))

  pub keeps-matching : (i fuel : ℕ) (v : Venue) → P v → P (repeat fuel (meet_turn i) v).venue
  keeps-matching i = keeps-repeat (meet_turn i) (meet_turn-keeps i)

  cross_turn-keeps : (i : ℕ) (v : Venue) → P v → Turns (cross_turn i v)
  cross_turn-keeps i v h = cross_turn-by Turns i v (λ _. tt) (λ _ _. tt) (λ _ j _ _. cross-from i j _ v (lasts.fill_c i _ v h))

  pub keeps-crossing : (i fuel : ℕ) (v : Venue) → P v → P (repeat fuel (cross_turn i) v).venue
  keeps-crossing i = keeps-repeat (cross_turn i) (cross_turn-keeps i)

  leg_in_turn-keeps : (i : ℕ) (v : Venue) → P v → Turns (leg_in_turn i v)
  unfolding leg_in_turn
  leg_in_turn-keeps i v h = if-by Turns (legs_in v (complex_at v i) _ _ && held (units_in v (complex_at v i))) (λ _. keeps-leg_in i _ _ _ v h) (λ _. tt)

  pub keeps-legging : (i fuel : ℕ) (v : Venue) → P v → P (repeat fuel (leg_in_turn i) v).venue
  keeps-legging i = keeps-repeat (leg_in_turn i) (leg_in_turn-keeps i)

  pub keeps-work : (i : ℕ) (v : Venue) → P v → P (work i v).venue
  unfolding work nothing ◌⟫◌
  keeps-work i v h =
      if-by (λ (e : Effect). P e.venue) (any_closed v (complex_at v i)) (λ _. h)
      (λ _. keeps-legging i _ _ (keeps-touch i _ (keeps-crossing i _ v h)))

  pub keeps-cancel : (id : ℕ) (v : Venue) → P v → P (cancel id v).venue
  unfolding cancel cancel_regular cancel_complex report ◌⟫◌
  keeps-cancel id v h =
      keeps-settle _ (if-by (λ (e : Effect). P e.venue) (rests_regular v id) (λ _. lasts.fill_r _ _ v h) (λ _. keeps-remove_of _ _ _ (lasts.fill_c _ _ v h)))
