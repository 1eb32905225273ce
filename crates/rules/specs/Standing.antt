-- Document 01, "Standing test and settling".
use Rattle.std.specs.Prelude.{Bool, true, false, not, ◌&&◌, ◌||◌, List, [], ◌∷◌, map, ℕ, ◌-◌, ◌/◌, ◌%◌, leb, eqb, ℤ, pos, ◌+ℤ◌, if◌then◌else◌}
use Rattle.std.specs.Int.Signed.{le_z}
use Rattle.rules.specs.declared.Regular.{Regular}
use Rattle.rules.specs.declared.Complex.{Complex}
use Rattle.rules.specs.declared.Legging.{Legging}
use Rattle.rules.specs.declared.Leg.{Leg}
use Rattle.rules.specs.declared.Venue.{Venue}
use Rattle.rules.specs.declared.Cause.TheVariants.{Worse, Unpaired, OutOfBand, NotOpen}
use Rattle.rules.specs.declared.Verdict.{Verdict}
use Rattle.rules.specs.declared.Verdict.TheVariants.{Stands, Fails}
use Rattle.rules.specs.Base.{held}
use Rattle.rules.specs.Words.{opposite, sign_times, opened, status_of, no_complex, is_complex_of, with_regular}
use Rattle.rules.specs.Settings.{increment}
use Rattle.rules.specs.Prices.{better, best_regular, best_size, clear_price, displayed_price, in_band}
use Rattle.rules.specs.Records.{cause_number}
use Rattle.rules.specs.Effects.{Effect}
use Rattle.rules.specs.Removal.{remove}

-- A legging order's complex order -------------------------------------------------------------

-- the resting complex order with an id
unfoldable pub find_complex : (id : ℕ) → List Complex → Complex
find_complex id [] = no_complex
find_complex id (c ∷ cs) = if is_complex_of id c then c else find_complex id cs

unfoldable pub parent_of : Venue → Legging → Complex
parent_of v l = find_complex l.parent v.complex

-- side d of series s is a leg of c
unfoldable pub has_leg : Complex → (series side : ℕ) → Bool
has_leg c s d = (eqb c.series1 s && eqb c.side1 d) || (eqb c.series2 s && eqb c.side2 d)

-- the leg of c that is not in series s
unfoldable pub other_leg : Complex → (series : ℕ) → Leg
other_leg c s =
    if eqb c.series1 s
    then record { series = c.series2; side = c.side2 }
    else record { series = c.series1; side = c.side1 }

-- "a leg's clear price is that of the side it takes": the other leg's, and the size there
unfoldable pub other_clear : Venue → Complex → (series : ℕ) → ℕ
other_clear v c s = clear_price v (other_leg c s).series (opposite (other_leg c s).side)

unfoldable pub other_size : Venue → Complex → (series : ℕ) → ℕ
other_size v c s = best_size v (other_leg c s).series (opposite (other_leg c s).side)

-- the net of price p at side d of series s, a leg of c, and price q at its other leg; one to one, since no other order has legging orders
-- (request (g))
abbrev pub leg_net : Complex → (series side p q : ℕ) → ℤ
leg_net c s d p q = sign_times d (pos p) +ℤ sign_times (other_leg c s).side (pos q)

-- The test ------------------------------------------------------------------------------------

-- "both its series are open (else cause 6)"; (C)(1), last part, and (C)(4)(vi)
unfoldable pub both_open : Venue → Complex → Bool
both_open v c = eqb (status_of v c.series1) opened && eqb (status_of v c.series2) opened

-- "its displayed price is no worse than the best regular of its side (else 1)", for own price p at side d of series s; (C)(4)(i)
unfoldable pub displayed_no_worse : Venue → (series side p : ℕ) → Bool
displayed_no_worse v s d p = not (better d (best_regular v s d) (displayed_price (increment v s) d p))

-- "the other leg has a clear price, net with it ≤ N, size there ≥ its quantity (else 2)",
-- for a legging order of c for k contracts at own price p at side d of series s; (C)(4)(ii)
unfoldable pub pairs : Venue → Complex → (series side p k : ℕ) → Bool
pairs v c s d p k =
    held (other_clear v c s)
    && le_z (leg_net c s d p (other_clear v c s)) c.limit
    && leb k (other_size v c s)

-- The test of a legging order l of c at side d of series s. 01: "failures go together, with the lowest cause that applies". Request (a)
-- of 02 overtakes the rank: "Cause 5 now comes before cause 2; the order is 1, 5, 2, 6." "N is in band (else 5)"; (C)(4)(v)
unfoldable pub verdict_of : Venue → Complex → (series side : ℕ) → Legging → Verdict
verdict_of v c s d l =
    if not (displayed_no_worse v s d l.price) then Fails Worse
    else if not (in_band v c c.limit) then Fails OutOfBand
    else if not (pairs v c s d l.price l.quantity) then Fails Unpaired
    else if not (both_open v c) then Fails NotOpen
    else Stands

-- the test of what stands at place n
unfoldable pub verdict : Venue → (place : ℕ) → Legging → Verdict
verdict v n l = if held l.quantity then verdict_of v (parent_of v l) (n / 2) (n % 2) l else Stands

-- the number of a verdict: 0, or its cause's
abbrev pub verdict_number : Verdict → ℕ
verdict_number Stands = 0
verdict_number (Fails c) = cause_number c

unfoldable pub stands : Verdict → Bool
stands Stands = true
stands (Fails c) = false

-- Settling ------------------------------------------------------------------------------------

-- (e): "each order shows again the lesser of its shown quantity and what is left of it": all but its shown quantity is reserve
unfoldable pub shows_again : Regular → Regular
shows_again o = record {
  id = o.id;
  series = o.series;
  side = o.side;
  price = o.price;
  quantity = o.quantity;
  display = o.display;
  reserve = o.quantity - o.display;
}

unfoldable pub show_again : Venue → Venue
show_again v = with_regular v (map shows_again v.regular)

-- "After every accepted message all are tested against the same state, failures go together". (e): "Before settling, each order shows
-- again"
unfoldable pub settle : Venue → Effect
settle v =
    let w = show_again v in
    remove (verdict w) w
