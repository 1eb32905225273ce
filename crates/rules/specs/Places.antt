-- The arrangement of places: between messages held places come first, in rising id, and free places are all zero.
-- So place order is id order, a new order's place is the one after all others, and equal states are equal values.
use Rattle.std.specs.Prelude.{Bool, true, ◌&&◌, List, [], ◌∷◌, ◌++◌, ℕ, ◌-◌, ltb, eqb, nat_abs, length, replicate, if◌then◌else◌}
use Rattle.rules.specs.declared.Regular.{Regular}
use Rattle.rules.specs.declared.Complex.{Complex}
use Rattle.rules.specs.declared.Legging.{Legging}
use Rattle.rules.specs.declared.Edition.{Edition}
use Rattle.rules.specs.declared.Venue.{Venue}
use Rattle.rules.specs.Base.{held, all, keep}
use Rattle.rules.specs.Words.{no_regular, no_complex, with_regular, with_complex}

abbrev pub holds_regular : Regular → Bool
holds_regular o = held o.quantity

abbrev pub holds_complex : Complex → Bool
holds_complex c = held c.quantity

abbrev pub holds_edition : Edition → Bool
holds_edition e = held e.edition

-- a place that is all zero
unfoldable pub blank_regular : Regular → Bool
blank_regular o =
    eqb o.id 0 && eqb o.series 0 && eqb o.side 0 && eqb o.price 0 && eqb o.quantity 0
    && eqb o.display 0 && eqb o.reserve 0

unfoldable pub blank_complex : Complex → Bool
blank_complex c =
    eqb c.id 0 && eqb c.series1 0 && eqb c.side1 0 && eqb c.series2 0 && eqb c.side2 0
    && eqb c.class 0 && eqb (nat_abs c.limit) 0 && eqb c.quantity 0 && eqb c.ratio1 0 && eqb c.ratio2 0

unfoldable pub blank_edition : Edition → Bool
blank_edition e = eqb e.edition 0 && eqb e.message 0 && eqb e.figure 0 && eqb e.value 0

unfoldable pub blank_legging : Legging → Bool
blank_legging l = eqb l.parent 0 && eqb l.price 0 && eqb l.quantity 0

-- Closing gaps --------------------------------------------------------------------------------

-- the held places, in their order, and after them free places, to the length that there was
unfoldable pub packed : {A : Type 0} → (A → Bool) → A → List A → List A
packed holds none l = keep holds l ++ replicate (length l - length (keep holds l)) none

unfoldable pub close_gaps : Venue → Venue
close_gaps v = with_complex (with_regular v (packed holds_regular no_regular v.regular)) (packed holds_complex no_complex v.complex)

-- The test of the arrangement -----------------------------------------------------------------

-- True where the places of a list come so: first the held ones, each of which passes the test `asked`, their numbers (of orders: their ids)
-- rising and all above `low`; then only places that are all zero. `holds`, `blank` and `id` say of a place whether it is held, whether it
-- is all zero, and its number.
unfoldable pub arranged : {A : Type 0} → (holds asked blank : A → Bool) → (id : A → ℕ) → (low : ℕ) → List A → Bool
arranged holds asked blank id low [] = true
arranged holds asked blank id low (x ∷ l) =
    if holds x
    then ltb low (id x) && asked x && arranged holds asked blank id (id x) l
    else blank x && all blank l
