-- Document 01: "A venue is sound when fields are in range, resting ids distinct and at most the last id, no series is locked or crossed
-- counting own prices, and each legging order matches an open parent leg, is no larger than what its parent has open, and passes its test."
-- Document 02 (d): "Editions that don't rise from 0 in both numbers are unsound". (e): "a given venue where one shows otherwise is
-- unsound". (m): "generations of a series that fall in number, or an id reached by kind 11 above the last accepted, are unsound".
use Rattle.std.specs.Prelude.{Bool, true, not, ◌&&◌, ◌||◌, List, [], ◌∷◌, ℕ, suc, ◌-◌, ◌/◌, ◌%◌, leb, ltb, eqb, if◌then◌else◌}
use Rattle.rules.specs.declared.Regular.{Regular}
use Rattle.rules.specs.declared.Legging.{Legging}
use Rattle.rules.specs.declared.Listed.{Listed}
use Rattle.rules.specs.declared.Edition.{Edition}
use Rattle.rules.specs.declared.Venue.{Venue}
use Rattle.rules.specs.Base.{held, all}
use Rattle.rules.specs.Words.{buy, sell, is_price, is_quantity, is_away, is_status, is_id, one_to_one}
use Rattle.rules.specs.Settings.{percentage, is_increment, is_percent, is_edition}
use Rattle.rules.specs.Prices.{best_own}
use Rattle.rules.specs.Standing.{parent_of, has_leg, verdict, stands}
use Rattle.rules.specs.Complex.{rests_complex}
use Rattle.rules.specs.Places.{holds_regular, holds_complex, holds_edition, blank_regular, blank_complex, blank_edition, blank_legging}
use Rattle.rules.specs.Places.{arranged}
use Rattle.rules.specs.Refusals.{regular_in_range, on_increment, complex_in_range}

-- "no series is locked or crossed counting own prices"
unfoldable pub apart : Venue → (series : ℕ) → Bool
apart v s =
    let bid = best_own v s buy in
    let offer = best_own v s sell in
    not (held bid) || not (held offer) || ltb bid offer

-- the fields of a series
unfoldable pub listed_in_range : Listed → Bool
listed_in_range x = is_status x.status && is_away x.bid && is_away x.offer

-- True where the legging order l at place n is sound, or where the place is free and all zero. Where no parent rests, `parent_of` is the
-- empty order, which has nothing open.
unfoldable pub legging_sound : Venue → (n : ℕ) → (l : Legging) → Bool
legging_sound v n l =
    if held l.quantity
    -- "fields are in range"
    then is_id l.parent && is_price l.price && is_quantity l.quantity
    -- "each legging order matches an open parent leg": place n is side n % 2 of series n / 2
    && has_leg (parent_of v l) (n / 2) (n % 2)
    -- request (g), of unequal ratios: "a given venue with a legging order of one, or one of equal ratios, is unsound"
    && one_to_one (parent_of v l)
    -- "is no larger than what its parent has open"
    && leb l.quantity (parent_of v l).quantity
    -- "and passes its test"
    && stands (verdict v n l)
    -- *ours*: a free place is all zero, so that equal states are equal values
    else blank_legging l

-- from place n on
unfoldable pub leggings_sound : Venue → (n : ℕ) → List Legging → Bool
leggings_sound v n [] = true
leggings_sound v n (l ∷ ls) = legging_sound v n l && leggings_sound v (suc n) ls

-- (e): it shows "the lesser of its shown quantity and what is left of it; a given venue where one shows otherwise is unsound"
unfoldable pub shows_fully : Regular → Bool
shows_fully o = eqb o.reserve (o.quantity - o.display)

-- what is asked of one resting regular order
abbrev pub regular_sound : Venue → Regular → Bool
regular_sound v o =
    -- "fields are in range": "a regular price a multiple of its series' increment", the one in force
    regular_in_range o && on_increment v o
    -- (e), as above
    && shows_fully o
    -- "resting ids … at most the last id"
    && leb o.id v.last

-- True where each resting regular order is as asked and the places are arranged. *Ours* is the arrangement: held places first, in rising
-- id, free places all zero; so the ids of one book are distinct ("resting ids distinct"), and equal states are equal values.
unfoldable pub regulars_sound : Venue → Bool
regulars_sound v = arranged holds_regular (regular_sound v) blank_regular (λ o. o.id) 0 v.regular

-- the same of the complex orders: "fields are in range, resting ids … at most the last id", and *ours*, the arrangement
unfoldable pub complexes_sound : Venue → Bool
complexes_sound v = arranged holds_complex (λ c. complex_in_range c && leb c.id v.last) blank_complex (λ c. c.id) 0 v.complex

-- "resting ids distinct": no id rests in both books; within one book the arrangement says it
unfoldable pub ids_distinct : Venue → Bool
ids_distinct v = all (λ o. not (held o.quantity) || not (rests_complex v o.id)) v.regular

-- the fields of an edition: the figure that it sets and its value, and its numbers
unfoldable pub figure_in_range : Edition → Bool
figure_in_range e = if leb e.figure 7 then is_increment e.value else eqb e.figure percentage && is_percent e.value

unfoldable pub edition_in_range : Edition → Bool
edition_in_range e = figure_in_range e && is_edition e.edition && leb e.message 4294967295

-- Document 02 (d): "Editions that don't rise from 0 in both numbers are unsound": the edition's and the message's; and their fields are
-- in range. *Ours*: kept editions come first, and free places are all zero.
unfoldable pub editions_sound : Venue → Bool
editions_sound v =
    arranged holds_edition edition_in_range blank_edition (λ e. e.edition) 0 v.editions
    && arranged holds_edition (λ _. true) blank_edition (λ e. e.message) 0 v.editions

-- numbers that do not fall, from `low` on; a place before the first generation has number 0
unfoldable pub unfallen : (low : ℕ) → List ℕ → Bool
unfallen low [] = true
unfallen low (n ∷ ns) = leb low n && unfallen n ns

-- Document 02 (m): "generations of a series that fall in number … are unsound"; and each is a u32
unfoldable pub generations_sound : Venue → Bool
generations_sound v = all (λ g. unfallen 0 g.messages && all (λ n. leb n 4294967295) g.messages) v.generations

-- True where the venue is sound. Document 01's conditions stand under its words, document 02's under its own, and *ours* are named: how
-- places are arranged, and that free places are all zero. A one-message call given a venue that is arranged otherwise gets 9 too; no
-- message leaves a sound venue so (demands: `StaysSound`).
unfoldable pub sound : Venue → Bool
sound v =
    -- "fields are in range, resting ids … at most the last id"; *ours*: the arrangement of places
    regulars_sound v
    && complexes_sound v
    -- "fields are in range": of the series
    && all listed_in_range v.series
    -- document 02 (d), of editions; *ours*: their arrangement
    && editions_sound v
    -- document 02 (m), of generations
    && generations_sound v
    -- document 02 (m): "an id reached by kind 11 above the last accepted" is unsound
    && leb v.reached v.last
    -- "fields are in range": the last id is a u32
    && leb v.last 4294967295
    -- "resting ids distinct"
    && ids_distinct v
    -- "no series is locked or crossed counting own prices"
    && all (apart v) (0 ∷ 1 ∷ 2 ∷ 3 ∷ 4 ∷ 5 ∷ 6 ∷ 7 ∷ [])
    -- "and each legging order matches an open parent leg, is no larger than what its parent has open, and passes its test"; *ours*: free
    -- places are all zero
    && leggings_sound v 0 v.legging

-- a message's number is "above every kept edition's", and "above every generation's"; a free place has number 0
unfoldable pub follows : (number : ℕ) → Venue → Bool
follows number v = all (λ e. ltb e.message number) v.editions && all (λ g. all (λ n. ltb n number) g.messages) v.generations
