-- A message's refusal upon a venue, from the tests that the code makes.
use mathlib.Core.Path.{◌≡◌, refl, ap}
use mathlib.Core.Bool.{Bool, true, false, not, ◌&&◌, ◌||◌}
use Prim.Native.Nat.{ℕ}
use lib.Dec.{leb, ltb, eqb}
use borrow.Author.Tests.{ne_eqb}
use Rattle.rules.specs.declared.Complex.{Complex}
use Rattle.rules.specs.declared.Venue.{Venue}
use Rattle.rules.specs.declared.Message.{Message}
use Rattle.rules.specs.declared.Message.TheVariants.{Cancel, Away, Status, Sweep, Increment, Percent, LimitedSweep}
use Rattle.rules.specs.Base.{held, all}
use Rattle.rules.specs.Words.{closed, status_of}
use Rattle.rules.specs.Settings.{free_edition}
use Rattle.rules.specs.Complex.{rests_regular, rests_complex}
use Rattle.rules.specs.Refusals.{complex_in_range, off_increment, edition_too_low, idle, in_use, no_edition_left, id_too_low, on_closed, full, unknown, refusal_of}
use Rattle.rules.proofs.Widths.{complex-fits}
use Rattle.levels.specs.Grid.{LegsIn}
use Rattle.refusals.specs.Editions.{edition_refusal}

-- Fields in range -----------------------------------------------------------------------------

pub legs-in : (c : Complex) → complex_in_range c ≡ true → LegsIn c
legs-in c z = let f = complex-fits c z in record { first = f.series1; side1 = f.side1; second = f.series2; side2 = f.side2 }

-- Each refusal from its test ------------------------------------------------------------------

-- kinds 4 to 6, and 11, meet none
module _ (v : Venue) where
  pub away-taken : (s bid offer : ℕ) → refusal_of v (Away s bid offer) ≡ 0
  unfolding refusal_of off_increment edition_too_low in_use no_edition_left id_too_low on_closed full unknown
  away-taken s bid offer = refl

  pub status-taken : (s x : ℕ) → refusal_of v (Status s x) ≡ 0
  unfolding refusal_of off_increment edition_too_low in_use no_edition_left id_too_low on_closed full unknown
  status-taken s x = refl

  pub sweep-taken : refusal_of v Sweep ≡ 0
  unfolding refusal_of off_increment edition_too_low in_use no_edition_left id_too_low on_closed full unknown
  sweep-taken = refl

  pub limited-taken : (n : ℕ) → refusal_of v (LimitedSweep n) ≡ 0
  unfolding refusal_of off_increment edition_too_low in_use no_edition_left id_too_low on_closed full unknown
  limited-taken n = refl

  -- a cancel meets 8 alone
  pub cancel-unknown : (id : ℕ) → (rests_regular v id || rests_complex v id) ≡ false → 8 ≡ refusal_of v (Cancel id)
  unfolding refusal_of off_increment edition_too_low in_use no_edition_left id_too_low on_closed full unknown
  cancel-unknown id h = rw h

  pub cancel-taken : (id : ℕ) → (rests_regular v id || rests_complex v id) ≡ true → refusal_of v (Cancel id) ≡ 0
  unfolding refusal_of off_increment edition_too_low in_use no_edition_left id_too_low on_closed full unknown
  cancel-taken id h = rw h

module _ (v : Venue) (m : Message) where
  pub refuses-off : off_increment v m ≡ true → 4 ≡ refusal_of v m
  unfolding refusal_of
  refuses-off p = rw p

  -- of a message that meets neither 4 nor 11 to 13
  module _ (a : off_increment v m ≡ false) (b : edition_too_low v m ≡ false) (c : in_use v m ≡ false) (d : no_edition_left v m ≡ false) where
    pub refuses-low : id_too_low v m ≡ true → 5 ≡ refusal_of v m
    unfolding refusal_of
    refuses-low p = rw (a, b, c, d, p)

    pub refuses-closed : id_too_low v m ≡ false → on_closed v m ≡ true → 6 ≡ refusal_of v m
    unfolding refusal_of
    refuses-closed p q = rw (a, b, c, d, p, q)

    pub refuses-full : id_too_low v m ≡ false → on_closed v m ≡ false → full v m ≡ true → 7 ≡ refusal_of v m
    unfolding refusal_of
    refuses-full p q r = rw (a, b, c, d, p, q, r)

    pub accepts : id_too_low v m ≡ false → on_closed v m ≡ false → full v m ≡ false → unknown v m ≡ false → 0 ≡ refusal_of v m
    unfolding refusal_of
    accepts p q r s = rw (a, b, c, d, p, q, r, s)

-- a complex order whose first leg is not in a series
pub second-leg : (c : Complex) (s : ℕ) → (c.quantity ≡ 0 → ⊥) → (c.series1 ≡ s → ⊥) →
    eqb c.series2 s ≡ (held c.quantity && (eqb c.series1 s || eqb c.series2 s))
second-leg c s p q = rw (ne_eqb c.quantity 0 p, ne_eqb c.series1 s q)

-- a series that is not idle, and one that is
module _ (v : Venue) (s : ℕ) where
  pub busy-open : eqb (status_of v s) closed ≡ false → false ≡ idle v s
  unfolding idle
  busy-open p = rw p

  module _ (p : eqb (status_of v s) closed ≡ true) where
    pub busy-order : all (λ o. not (held o.quantity && eqb o.series s)) v.regular ≡ false → false ≡ idle v s
    unfolding idle
    busy-order q = rw (p, q)

    pub idle-legs : all (λ o. not (held o.quantity && eqb o.series s)) v.regular ≡ true →
        all (λ c. not (held c.quantity && (eqb c.series1 s || eqb c.series2 s))) v.complex ≡ idle v s
    unfolding idle
    idle-legs q = rw (p, q)

-- the refusals of a new edition, from their tests
module _ (v : Venue) (e : ℕ) (used : Bool) where
  pub edition-low : all (λ k. ltb k.edition e) v.editions ≡ false → 11 ≡ edition_refusal v e used
  unfolding edition_refusal
  edition-low p = rw p

  module _ (p : all (λ k. ltb k.edition e) v.editions ≡ true) where
    pub edition-used : used ≡ true → 12 ≡ edition_refusal v e used
    unfolding edition_refusal
    edition-used q = rw (p, q)

    pub edition-none-left : used ≡ false → leb 32 (free_edition v) ≡ true → 13 ≡ edition_refusal v e used
    unfolding edition_refusal
    edition-none-left q r = rw (p, q, r)

    pub edition-taken : used ≡ false → leb 32 (free_edition v) ≡ false → 0 ≡ edition_refusal v e used
    unfolding edition_refusal
    edition-taken q r = rw (p, q, r)

-- and by kind
pub increment-refusal : (v : Venue) (s x e : ℕ) (t : Bool) → t ≡ idle v s → edition_refusal v e (not t) ≡ refusal_of v (Increment s x e)
unfolding edition_refusal refusal_of off_increment edition_too_low in_use no_edition_left id_too_low on_closed full unknown
increment-refusal v s x e t i = ap (λ (y : Bool). edition_refusal v e (not y)) i

pub percent-refusal : (v : Venue) (x e : ℕ) → edition_refusal v e false ≡ refusal_of v (Percent x e)
unfolding edition_refusal refusal_of off_increment edition_too_low in_use no_edition_left id_too_low on_closed full unknown
percent-refusal v x e = refl
