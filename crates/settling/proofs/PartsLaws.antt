-- Laws of the standing test, as the code makes it.
use Rattle.std.specs.Prelude.{if◌then◌else◌}
use mathlib.Core.Path.{◌≡◌, refl, sym, ap, ap₂, ◌∙◌}
use mathlib.Core.Bool.{Bool, true, false, not, ◌&&◌, true≢false}
use Prim.Native.Nat.{ℕ, ◌<◌, ◌/◌, ◌%◌}
use native.Mathlib.Nat.{one-mul}
use borrow.Author.Tests.{eq-eqb, ne_eqb}
use lib.Dec.{eqb, leb}
use lib.IntN.{ℤ, pos, ◌+ℤ◌}
use lib.Signed.{le_z}
use Rattle.rules.specs.declared.Complex.{Complex}
use Rattle.rules.specs.declared.Legging.{Legging}
use Rattle.rules.specs.declared.Leg.{Leg}
use Rattle.rules.specs.declared.Venue.{Venue}
use Rattle.rules.specs.declared.Verdict.{Verdict}
use Rattle.rules.specs.declared.Verdict.TheVariants.{Stands}
use Rattle.rules.specs.Words.{opposite, sign_times}
use Rattle.rules.specs.Settings.{increment}
use Rattle.rules.specs.Prices.{better, best_regular, displayed_price, clear_price, weighed}
use Rattle.rules.specs.Standing.{other_leg, other_clear, other_size, parent_of, displayed_no_worse, pairs, verdict_of, verdict}
use Rattle.places.specs.declared.Level.{Level}
use Rattle.places.specs.Layout.{level_of}
use Rattle.levels.specs.declared.TakenLevels.{TakenLevels}
use Rattle.levels.specs.Grid.{LegsIn, TakenOf}
use Rattle.levels.proofs.Sides.{level-price, level-size}
use Rattle.settling.specs.Parts.{other_taken}

-- A flag and its negation ---------------------------------------------------------------------

pub off : (r x : Bool) → r ≡ x → not r ≡ true → x ≡ false
off r true e h = absurd (true≢false (sym (rw e at h)))
off r false e h = refl

pub on : (r x : Bool) → r ≡ x → not r ≡ false → x ≡ true
on r true e h = refl
on r false e h = absurd (true≢false (rw e at h))

-- Prices --------------------------------------------------------------------------------------

pub displayed-is : (v : Venue) (s d p best : ℕ) (t : Bool) → best ≡ best_regular v s d → t ≡ not (better d best (displayed_price (increment v s) d p)) → t ≡ displayed_no_worse v s d p
unfolding displayed_no_worse
displayed-is v s d p best t eb e = e ∙ ap (λ (x : ℕ). not (better d x (displayed_price (increment v s) d p))) eb

module _ (c : Complex) (s : ℕ) (o : Leg) (eo : o ≡ other_leg c s) where
  pub other-in : LegsIn c → o.series < 8
  unfolding other_leg
  other-in h = rw eo (go (eqb c.series1 s))
    where
      leg : ℕ → ℕ → Leg
      leg x y = record { series = x; side = y }

      go : (t : Bool) → (if t then leg c.series2 c.side2 else leg c.series1 c.side1).series < 8
      go true = h.second
      go false = h.first

  pub clear-is : (v : Venue) (f r : ℕ) → f ≡ opposite o.side → r ≡ clear_price v o.series f → r ≡ other_clear v c s
  unfolding other_clear
  clear-is v f r ef e = e ∙ ap (clear_price v o.series) ef ∙ ap (λ (x : Leg). clear_price v x.series (opposite x.side)) eo

-- the level that the other leg takes
module _ (v : Venue) (t : TakenLevels) (c : Complex) (s : ℕ) (h : TakenOf t c v.regular) where
  other-right : other_taken t c s ≡ level_of (other_leg c s).series (opposite (other_leg c s).side) v.regular
  unfolding other_taken other_leg
  other-right = go (eqb c.series1 s)
    where
      leg : ℕ → ℕ → Leg
      leg x y = record { series = x; side = y }

      go : (k : Bool) → (if k then t.second else t.first) ≡
          level_of (if k then leg c.series2 c.side2 else leg c.series1 c.side1).series
          (opposite (if k then leg c.series2 c.side2 else leg c.series1 c.side1).side) v.regular
      go true = h.second
      go false = h.first

  module _ (l : Level) (el : l ≡ other_taken t c s) where
    pub other-price : (o : Leg) → o ≡ other_leg c s → (f : ℕ) → f ≡ opposite o.side → l.price ≡ best_regular v o.series f
    other-price o eo f ef =
        level-price v (other_leg c s).series (opposite (other_leg c s).side) l (el ∙ other-right)
        ∙ ap (λ (x : Leg). best_regular v x.series (opposite x.side)) (sym eo) ∙ ap (best_regular v o.series) (sym ef)

    pub size_is : l.size ≡ other_size v c s
    unfolding other_size
    size_is = level-size v (other_leg c s).series (opposite (other_leg c s).side) l (el ∙ other-right)

-- The other leg can be had --------------------------------------------------------------------

module _ (v : Venue) (c : Complex) (s d p k x : ℕ) (ex : x ≡ other_clear v c s) where
  pub pair-none : x ≡ 0 → false ≡ pairs v c s d p k
  unfolding pairs
  pair-none h = rw (← ex, h)

  module _ (h : x ≡ 0 → ⊥) (o : Leg) (eo : o ≡ other_leg c s) (n m : ℤ) (en : n ≡ weighed 1 d p +ℤ weighed 1 o.side x) (em : m ≡ c.limit) where
    net-is : n ≡ sign_times d (pos p) +ℤ sign_times (other_leg c s).side (pos x)
    unfolding weighed
    net-is = en ∙ rw (one-mul, one-mul, eo) refl

    pairs_is : pairs v c s d p k ≡ (le_z n m && leb k (other_size v c s))
    unfolding pairs
    pairs_is = rw (← ex, ne_eqb x 0 h) (ap₂ (λ (a b : ℤ). le_z a b && leb k (other_size v c s)) (sym net-is) (sym em))

    pub pair-dear : le_z n m ≡ false → false ≡ pairs v c s d p k
    pair-dear q = sym (pairs_is ∙ rw q)

    pub pair_size : le_z n m ≡ true → (z : ℕ) → z ≡ other_size v c s → leb k z ≡ pairs v c s d p k
    pair_size q z ez = ap (leb k) ez ∙ sym (pairs_is ∙ rw q)

-- The verdict ---------------------------------------------------------------------------------

pub verdict-free : (v : Venue) (n : ℕ) (l m : Legging) → l ≡ m → l.quantity ≡ 0 → Stands ≡ verdict v n m
unfolding verdict
verdict-free v n l m e h = rw (← e) (simp (eq-eqb _ _ h))

pub verdict-held : (v : Venue) (n : ℕ) (l m : Legging) (c : Complex) (r : Verdict) → l ≡ m → (l.quantity ≡ 0 → ⊥) → c ≡ parent_of v l →
    r ≡ verdict_of v c (n / 2) (n % 2) l → r ≡ verdict v n m
unfolding verdict
verdict-held v n l m c r e h ec q = rw (← e) (simp (ne_eqb _ _ h) (q ∙ ap (λ (z : Complex). verdict_of v z (n / 2) (n % 2) l) ec))
