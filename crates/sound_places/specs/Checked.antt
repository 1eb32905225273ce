-- The check of the places of a venue held by value.
use Rattle.std.specs.Prelude.{Bool, true, ◌&&◌, List, ℕ, leb}
use Rattle.rules.specs.declared.Regular.{Regular}
use Rattle.rules.specs.declared.Complex.{Complex}
use Rattle.rules.specs.declared.Edition.{Edition}
use Rattle.rules.specs.declared.Generations.{Generations}
use Rattle.rules.specs.declared.Venue.{Venue}
use Rattle.rules.specs.Base.{all}
use Rattle.rules.specs.Places.{holds_regular, holds_complex, holds_edition, blank_regular, blank_complex, blank_edition, arranged}
use Rattle.rules.specs.Refusals.{regular_in_range, complex_in_range}
use Rattle.rules.specs.Sound.{listed_in_range, shows_fully, complexes_sound, edition_in_range, editions_sound, unfallen, generations_sound}

-- in range, showing what it should, with an id of at most `last`
abbrev pub asked_regular : (last : ℕ) → Regular → Bool
asked_regular last o = regular_in_range o && shows_fully o && leb o.id last

-- in range, with an id of at most `last`
abbrev pub asked_complex : (last : ℕ) → Complex → Bool
asked_complex last c = complex_in_range c && leb c.id last

-- a book's places, with ids above `low` and at most `last`
unfoldable pub regulars_from : (last low : ℕ) → List Regular → Bool
regulars_from last low l = arranged holds_regular (asked_regular last) blank_regular (λ o. o.id) low l

unfoldable pub complexes_from : (last low : ℕ) → List Complex → Bool
complexes_from last low l = arranged holds_complex (asked_complex last) blank_complex (λ c. c.id) low l

-- the places of the editions, with editions above `low` and message numbers above `past`
unfoldable pub editions_from : (low past : ℕ) → List Edition → Bool
editions_from low past l =
    arranged holds_edition edition_in_range blank_edition (λ e. e.edition) low l
    && arranged holds_edition (λ _. true) blank_edition (λ e. e.message) past l

-- a series' generations: numbers in range that do not fall, from `low` on
unfoldable pub numbers_from : (low : ℕ) → List ℕ → Bool
numbers_from low l = unfallen low l && all (λ n. leb n 4294967295) l

unfoldable pub numbers_sound : Generations → Bool
numbers_sound g = numbers_from 0 g.messages

-- what is kept beside the orders and the series: editions, generations, and the id that limited sweeps have reached
unfoldable pub kept_sound : Venue → Bool
kept_sound v = editions_sound v && generations_sound v && leb v.reached v.last

-- what is asked of each place by itself, but for the increments: it makes a venue loadable
unfoldable pub places_sound : Venue → Bool
places_sound v = regulars_from v.last 0 v.regular && complexes_sound v && all listed_in_range v.series && kept_sound v
