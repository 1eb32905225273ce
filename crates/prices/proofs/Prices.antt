-- What is read of a side: own, clear and market prices, the band, the increment, and the series of a complex order.
use Rattle.std.specs.Prelude.{if◌then◌else◌}
use mathlib.Core.Path.{◌≡◌, refl, sym, ap, ap₂, ◌∙◌}
use mathlib.Core.Bool.{Bool, true, false}
use mathlib.Core.List.{List}
use Prim.Native.Nat.{ℕ, zero, suc, ◌+◌, ◌<◌, zero-le}
use native.Mathlib.Omega.{arith}
use native.Mathlib.Decide.{dec_lt}
use borrow.Author.Tests.{eq-eqb, ne_eqb, le-ltb}
use lib.Dec.{eqb}
use lib.IntN.{ℤ, ◌+ℤ◌}
use Rattle.rules.specs.declared.Complex.{Complex}
use Rattle.rules.specs.declared.Legging.{Legging}
use Rattle.rules.specs.declared.Listed.{Listed}
use Rattle.rules.specs.declared.Venue.{Venue}
use Rattle.rules.specs.Words.{opposite, no_complex, complex_at, legging_at, listed_at, status_of, is_complex_of}
use Rattle.rules.specs.Prices.{better, better_of, best_regular, own_price, best_own, own_size, clear_price, away, market_best, weighed, net, taken1, taken2, near_net, in_band}
use Rattle.rules.specs.Settings.{figure_now, percent, increment}
use Rattle.rules.specs.Standing.{find_complex, parent_of, both_open}
use Rattle.rules.specs.Complex.{any_closed}
use Rattle.rules.proofs.Tests.{if-same}
use Rattle.rules.proofs.Better.{better-irrefl}
use Rattle.rules.proofs.Units.{own-size}
use Rattle.places.specs.Layout.{Figured, upto, complexes_used, complex_in, venue_of, level_of}
use Rattle.places.proofs.Parts.{complex-at, complex-past}
use Rattle.places.specs.declared.Level.{Level}
use Rattle.levels.specs.Grid.{LegsIn}
use Rattle.levels.proofs.Scans.{find-used}
use Rattle.levels.proofs.Sides.{level-price, level-size}

-- Own, clear and market prices ----------------------------------------------------------------

pub own-free : (l m : Legging) → l ≡ m → l.quantity ≡ 0 → 0 ≡ own_price m
unfolding own_price
own-free l m e h = rw (← e) (simp (eq-eqb _ _ h))

pub own_held : (l m : Legging) → l ≡ m → (l.quantity ≡ 0 → ⊥) → l.price ≡ own_price m
unfolding own_price
own_held l m e h = rw (← e) (simp (ne_eqb _ _ h))

module _ (v : Venue) (s d best : ℕ) (eb : best ≡ best_regular v s d) where
  module _ (own : ℕ) (ew : own ≡ own_price (legging_at v s d)) where
    pub own-best : (r : ℕ) → r ≡ better_of d own best → r ≡ best_own v s d
    unfolding best_own
    own-best r q = q ∙ ap₂ (better_of d) ew eb

    pub clear_none : better d own best ≡ true → 0 ≡ clear_price v s d
    unfolding clear_price
    clear_none t = rw (← ew, ← eb, t)

    pub clear-best : better d own best ≡ false → best ≡ clear_price v s d
    unfolding clear_price
    clear-best t = rw (← ew, ← eb, t)

  pub market-is : (out r : ℕ) → out ≡ away v s d → r ≡ better_of d out best → r ≡ market_best v s d
  unfolding market_best
  market-is out r eo q = q ∙ ap₂ (better_of d) eo eb

-- The size at the best own price --------------------------------------------------------------

-- by the level of the regular orders, and what stands at the legging place
module _ (v : Venue) (s d : ℕ) (x : Level) (e : x ≡ level_of s d v.regular) (l : Legging) (el : l ≡ legging_at v s d) where
  size-by : (own p : ℕ) → own ≡ own_price l → better_of d own x.price ≡ p → own_size v s d ≡ (if eqb x.price p then x.size else 0) + (if eqb own p then l.quantity else 0)
  unfolding best_own
  size-by own p ew ep = rw (← ep, ew, level-price v s d x e, level-size v s d x e, el) (own-size v s d)

  pub size-free : l.quantity ≡ 0 → x.size ≡ own_size v s d
  unfolding better better_of
  size-free h =
      sym (size-by 0 x.price (own-free l l refl h) (simp (le-ltb x.price 0 zero-le, if-same))
      ∙ rw (eq-eqb x.price x.price refl, h, if-same {A = ℕ} (eqb 0 x.price) 0) (omega arith))

  module _ (h : l.quantity ≡ 0 → ⊥) where
    pub size_same : l.price ≡ x.price → x.size + l.quantity ≡ own_size v s d
    unfolding better_of
    size_same q =
        sym (size-by l.price x.price (own_held l l refl h) (rw q (if-same (better d x.price x.price) x.price))
        ∙ rw (eq-eqb x.price x.price refl, eq-eqb l.price x.price q) refl)

    pub size-better : better d l.price x.price ≡ true → l.quantity ≡ own_size v s d
    unfolding better_of
    size-better b =
        sym (size-by l.price l.price (own_held l l refl h) (rw b refl)
        ∙ rw (ne_eqb x.price l.price (λ z. better-irrefl d l.price (rw z at b)), eq-eqb l.price l.price refl) (omega arith))

    pub size-worse : (l.price ≡ x.price → ⊥) → better d l.price x.price ≡ false → x.size ≡ own_size v s d
    unfolding better_of
    size-worse n b =
        sym (size-by l.price x.price (own_held l l refl h) (rw b refl)
        ∙ rw (eq-eqb x.price x.price refl, ne_eqb l.price x.price n) (omega arith))

module _ (v : Venue) (s d : ℕ) (x : Listed) (e : x ≡ listed_at v s) where
  pub away-bid : d ≡ 0 → x.bid ≡ away v s d
  unfolding away
  away-bid h = rw (← e, eq-eqb d 0 h)

  pub away-offer : (d ≡ 0 → ⊥) → x.offer ≡ away v s d
  unfolding away
  away-offer h = rw (← e, ne_eqb d 0 h)

pub status-is : (v : Venue) (s : ℕ) (x : Listed) → x ≡ listed_at v s → x.status ≡ status_of v s
unfolding status_of
status-is v s x e = ap (λ (y : Listed). y.status) e

-- The band ------------------------------------------------------------------------------------

module _ (v : Venue) (c : Complex) (a f : ℕ) (ea : a ≡ market_best v c.series1 f) (ef : f ≡ opposite c.side1) where
  one : a ≡ taken1 v c
  unfolding taken1
  one = ea ∙ ap (market_best v c.series1) ef

  pub band-none1 : (t : ℤ) → a ≡ 0 → false ≡ in_band v c t
  unfolding in_band
  band-none1 t h = rw (← one) (simp (eq-eqb _ _ h))

  module _ (n : a ≡ 0 → ⊥) (b g : ℕ) (eb : b ≡ market_best v c.series2 g) (eg : g ≡ opposite c.side2) where
    two : b ≡ taken2 v c
    unfolding taken2
    two = eb ∙ ap (market_best v c.series2) eg

    pub band-none2 : (t : ℤ) → b ≡ 0 → false ≡ in_band v c t
    unfolding in_band
    band-none2 t h = rw (← one, ← two) (simp (ne_eqb _ _ n, eq-eqb _ _ h))

    pub band-near : (b ≡ 0 → ⊥) → (r : Bool) (x : ℕ) (o y u t : ℤ) → x ≡ figure_now v 8 → o ≡ y → y ≡ weighed c.ratio1 c.side1 a +ℤ weighed
        c.ratio2 c.side2 b → u ≡ t → r ≡ near_net x o u → r ≡ in_band v c t
    unfolding in_band net percent
    band-near m r x o y u t ex eo ey eu h =
        rw (← one, ← two) (simp (ne_eqb _ _ n, ne_eqb _ _ m)
        (h ∙ ap (λ (k : ℕ). near_net k o u) ex ∙ ap (λ (z : ℤ). near_net (figure_now v 8) z u) (eo ∙ ey)
        ∙ ap (near_net (figure_now v 8) (weighed c.ratio1 c.side1 a +ℤ weighed c.ratio2 c.side2 b)) eu))

-- The increment -------------------------------------------------------------------------------

pub increment-is : (b : List ℕ) (s r : ℕ) → Figured b → s < 8 → r ≡ figure_now (venue_of b) s → (r ≡ increment (venue_of b) s) × (0 < r)
unfolding increment
increment-is b s r f h e = (e, let z = f.some s h in omega (arith, f.so s (omega arith)))

-- Complex orders ------------------------------------------------------------------------------

pub none-legs : LegsIn no_complex
none-legs = record { first = omega arith; side1 = omega arith; second = omega arith; side2 = omega arith }

pub legs-in : (b : List ℕ) (i : ℕ) → LegsIn (complex_in b i)
unfolding complex_in
legs-in b i = record { first = omega arith; side1 = omega arith; second = omega arith; side2 = omega arith }

find-legs : (f : ℕ → Complex) (id i k : ℕ) → ((j : ℕ) → LegsIn (f j)) → LegsIn (find_complex id (upto f i k))
unfolding find_complex upto
find-legs f id i zero h = none-legs
find-legs f id i (suc k) h = go (is_complex_of id (f i)) (find-legs f id (suc i) k h)
  where
    go : (t : Bool) → LegsIn (find_complex id (upto f (suc i) k)) → LegsIn (if t then f i else find_complex id (upto f (suc i) k))
    go true r = h i
    go false r = r

-- the orders of a venue have their legs in the grid
pub parent-legs : (b : List ℕ) (l : Legging) → LegsIn (parent_of (venue_of b) l)
unfolding parent_of venue_of
parent-legs b l = rw (← find-used (complex_in b) l.parent (complexes_used b) 32) (find-legs (complex_in b) l.parent 0 (complexes_used b) (legs-in b))

pub complex-legs : (b : List ℕ) (i : ℕ) → LegsIn (complex_at (venue_of b) i)
complex-legs b i =
    elim (dec_lt i (complexes_used b)) [
      | yes h ↦ rw (complex-at b i h) (legs-in b i)
      | no h ↦ rw (complex-past b i (omega arith)) none-legs
    ]

-- Tests of two series -------------------------------------------------------------------------

module _ (v : Venue) (c : Complex) (x : ℕ) (ex : x ≡ status_of v c.series1) where
  pub open-not : (x ≡ 1 → ⊥) → false ≡ both_open v c
  unfolding both_open
  open-not h = rw (← ex, ne_eqb x 1 h)

  pub open-both : (y : ℕ) → y ≡ status_of v c.series2 → x ≡ 1 → eqb y 1 ≡ both_open v c
  unfolding both_open
  open-both y ey h = rw (← ex, ← ey, eq-eqb x 1 h)

  pub closed-one : x ≡ 0 → true ≡ any_closed v c
  unfolding any_closed
  closed-one h = rw (← ex, eq-eqb x 0 h)

  pub closed-two : (y : ℕ) → y ≡ status_of v c.series2 → (x ≡ 0 → ⊥) → eqb y 0 ≡ any_closed v c
  unfolding any_closed
  closed-two y ey h = rw (← ex, ← ey, ne_eqb x 0 h)
