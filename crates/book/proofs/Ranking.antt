-- The scan for the first in rank of those that are met, which counts down: its invariant is the first of the places from i on.
use Rattle.std.specs.Prelude.{Option, None}
use mathlib.Core.Path.{◌≡◌, refl, sym, ap, ◌∙◌}
use mathlib.Core.Bool.{true, false}
use mathlib.Core.List.{List}
use Prim.Native.Nat.{ℕ, ◌-◌, ◌≤◌, ◌<◌}
use native.Mathlib.Nat.{sub-zero}
use Rattle.rules.specs.declared.Regular.{Regular}
use Rattle.rules.specs.Base.{Choice, ranked, first_from, first}
use Rattle.rules.specs.Words.{no_regular}
use Rattle.rules.specs.Order.{is_met, price_then_id}
use Rattle.places.specs.Layout.{upto, regulars_used, regular_in, venue_of}
use Rattle.levels.proofs.Scanning.{first-used, scan-start, scan-past, scan-join}
use Rattle.book.specs.Picks.{pick_of}
use Rattle.book.proofs.PicksLaws.{met-free}

module _ (b : List ℕ) (s d p : ℕ) where
  abbrev pub met_from : ℕ → Choice Regular
  met_from i = first_from (is_met s d p) price_then_id i (upto (regular_in b) i (regulars_used b - i))

  pub met_start : (i : ℕ) → regulars_used b ≤ i → None ≡ pick_of (met_from i)
  unfolding pick_of
  met_start i h = ap pick_of (scan-start (is_met s d p) price_then_id (regular_in b) i (regulars_used b) h)

  module _ (i : ℕ) (best : Option (ℕ × Regular)) (q : 0 < i) (h : i ≤ regulars_used b) (e : best ≡ pick_of (met_from i)) where
    -- one place more, that is not met
    pub met-past : is_met s d p (regular_in b (i - 1)) ≡ false → best ≡ pick_of (met_from (i - 1))
    met-past n = e ∙ ap pick_of (scan-past (is_met s d p) price_then_id (regular_in b) i (regulars_used b) q h (met_from i) refl n)

    -- or is met
    pub met-join : (m : Regular) → m ≡ regular_in b (i - 1) → is_met s d p m ≡ true →
        (r : Option (ℕ × Regular)) → ((x : Choice Regular) → best ≡ pick_of x → r ≡ pick_of (ranked price_then_id (i - 1) m x)) → r ≡ pick_of (met_from (i - 1))
    met-join m em n r w =
        w (met_from i) e
        ∙ ap (λ (o : Regular). pick_of (ranked price_then_id (i - 1) o (met_from i))) em
        ∙ ap pick_of (scan-join (is_met s d p) price_then_id (regular_in b) i (regulars_used b) q h (met_from i) refl _ (ap (is_met s d p) (sym em) ∙ n) refl)

  pub met_all : (i : ℕ) (best : Option (ℕ × Regular)) → i ≡ 0 → best ≡ pick_of (met_from i) → best ≡ pick_of (first (is_met s d p) price_then_id (venue_of b).regular)
  unfolding venue_of
  met_all i best z e =
      e ∙ ap (λ (k : ℕ). pick_of (met_from k)) z
      ∙ ap (λ (k : ℕ). pick_of (first_from (is_met s d p) price_then_id 0 (upto (regular_in b) 0 k))) (sub-zero (regulars_used b))
      ∙ ap pick_of (first-used (is_met s d p) price_then_id (regular_in b) no_regular (regulars_used b) 128 (met-free s d p))
