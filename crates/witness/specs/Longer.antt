-- A longer list of calls, for what Witness's has not: editions, of which the percentage alone keeps legging orders in band; a ceiling that is reached; kinds 9
-- and 10 beside legging orders that stand, of which a hit on one pairs with an order of kind 9; and kind 11, with all that LimitedSweeps asks. Given by
-- computation.
use Rattle.std.specs.Prelude.{false, true, ◌≡◌, List, [], ◌∷◌, ℕ, pos}
use Rattle.rules.specs.declared.Cause.TheVariants.{Executed}
use Rattle.rules.specs.declared.Message.{Message}
use Rattle.rules.specs.declared.Message.TheVariants.{Away, Increment, LimitedSweep, Percent, Status, Sweep, TwoLeg}
use Rattle.rules.specs.declared.Venue.{Venue}
use Rattle.rules.specs.Words.{complex_at, legging_at, no_regular, regular_at}
use Rattle.rules.specs.Messages.{encode_message, message_of}
use Rattle.rules.specs.Records.{pair, removed, trade}
use Rattle.rules.specs.Prices.{near_net}
use Rattle.rules.specs.Trading.{put_regular}
use Rattle.rules.specs.Order.{hit}
use Rattle.rules.specs.Refusals.{refusal}
use Rattle.rules.specs.Calls.{settings}
use Rattle.rules.specs.Sums.{cancelled_of, contracts, crossed_for, generated_of, open_complex, paired, total}
use Rattle.demands.specs.Demand.{Accepted, Later, Seen, by_message, by_run, calls, opening}
use Rattle.demands.specs.Soundness.{SoundAt}
use Rattle.demands.specs.LimitedSweeps.{Stays, looks, looks_all}
use Rattle.witness.specs.Witness.{both, bytes_of, order, regular_sums, reserved, units}

-- The calls -----------------------------------------------------------------------------------

-- complex order 14 would buy 5 of series 0 and of series 2 at 200
abbrev pub in_third : Message
in_third = TwoLeg (record { id = 14; series1 = 0; side1 = 0; series2 = 2; side2 = 0; class = 1; limit = pos 200; quantity = 5; ratio1 = 1; ratio2 = 1 })

-- a run
unfoldable pub morning : List Message
morning =
    -- six complex orders rest before there are offers
    both 1 0 1 (pos 200) 8 ∷ both 2 0 1 (pos 201) 8 ∷ both 3 0 1 (pos 202) 8 ∷ both 4 0 1 (pos 203) 8 ∷ both 5 0 1 (pos 204) 8 ∷ both 6 0 1 (pos 205) 8
    ∷ order 7 0 1 160 15 ∷ reserved 8 1 1 90 12 8
    -- O is 190: by 10 percent 200 to 205 are in band, by 5 none of them
    ∷ Away 1 0 30 ∷ Percent 10 1 ∷ Status 7 0 ∷ Increment 7 1 2 ∷ Status 7 1
    -- a sweep makes a legging order in series 0 for each of the six, each at a better price than the one before; order 9 hits the last for 3
    ∷ Sweep ∷ order 9 0 1 115 3
    -- with a better offer in series 1 a sweep does so again
    ∷ order 10 1 1 80 10 ∷ Sweep ∷ order 11 1 1 70 10 ∷ Sweep
    -- and then for the first two alone: theirs are the 19th and the 20th
    ∷ reserved 12 1 1 60 10 8 ∷ Sweep
    -- orders that rest: two of series 0 with one of series 1, and one that has no offer in series 2
    ∷ units 13 0 2 1 (pos 300) 3 ∷ in_third
    ∷ []

-- and then one message to a call; the second limited sweep looks at order 14, which has an offer now
unfoldable pub afternoon : List (List ℕ)
afternoon = encode_message (LimitedSweep 7) ∷ encode_message (order 15 2 1 50 5) ∷ encode_message (LimitedSweep 2) ∷ encode_message (LimitedSweep 32) ∷ []

unfoldable pub one_by_one : List (List ℕ) → List Later
one_by_one [] = []
one_by_one (m ∷ ms) = by_message (record { room = 100; bytes = m }) ∷ one_by_one ms

unfoldable pub noon : Seen
noon = opening (by_run (record { room = 2000; bytes = bytes_of morning }))

unfoldable pub evening : Seen
evening = calls noon (one_by_one afternoon)

-- What is read off it -------------------------------------------------------------------------

-- the venue at the end with an order to sell 5 at 140 in series 0 that arrives at a free place
unfoldable pub arrived : Venue
arrived = put_regular 6 (record { id = 16; series = 0; side = 1; price = 140; quantity = 5; display = 5; reserve = 0 }) evening.venue

-- of a complex order one to one in series 0 and 1, by what Demand 3 sums: contracts in each, paired, crossed, cancelled, still open
unfoldable pub complex_sums : (id : ℕ) → Seen → List ℕ
complex_sums i s =
    total (contracts i 0) s.reports ∷ total (contracts i 1) s.reports ∷ total (paired i) s.reports
    ∷ total (crossed_for i) s.reports ∷ total (cancelled_of i) s.reports ∷ open_complex i s.venue.complex ∷ []

pub record Longer : Type 0 where
  -- 23 messages of the run and 4 later ones
  pub done : evening.done ≡ 27
  -- two editions are in force; order 2's limit, 201, is in band by the one of the percentage alone
  pub editions : settings evening.venue 27 ≡ record { number = 0; increments = 5 ∷ 5 ∷ 5 ∷ 5 ∷ 5 ∷ 5 ∷ 10 ∷ 1 ∷ []; percent = 10 }
  pub band : near_net 10 (pos 190) (pos 201) ≡ true
  pub band' : near_net 5 (pos 190) (pos 201) ≡ false
  -- the ceiling of series 0 is reached: orders 3 to 6 would be at a better price than order 2, whose legging order stands, and so would order 14
  pub ceiling : total (generated_of 0) evening.reports ≡ 20
  pub standing : legging_at evening.venue 0 0 ≡ record { parent = 2; price = 141; quantity = 8 }
  -- and one that a limited sweep made stands in series 2
  pub standing' : legging_at evening.venue 2 0 ≡ record { parent = 14; price = 40; quantity = 5 }
  -- beside them rest order 12, of kind 9, which shows 8 of 10, and order 13, of kind 10
  pub reserve : regular_at evening.venue 4 ≡ record { id = 12; series = 1; side = 1; price = 60; quantity = 10; display = 8; reserve = 2 }
  pub unequal : complex_at evening.venue 6 ≡ record { id = 13; series1 = 0; side1 = 0; series2 = 1; side2 = 0; class = 1; limit = pos 300; quantity = 3; ratio1 = 2; ratio2 = 1 }
  -- the hit for 5 of what stands in series 0 finds these of order 12: the place is free, and the records are those that Demand 3 says
  pub free : regular_at evening.venue 6 ≡ no_regular
  pub hits : (hit 6 (legging_at evening.venue 0 0) 5 arrived).reports ≡
      trade 0 1 141 5 16 2 ∷ trade 1 0 60 5 2 12 ∷ pair 2 (pos 201) 5 ∷ removed 2 0 0 Executed ∷ []
  -- complex order 6 was accepted: 8 entered = 3 paired + 5 still open
  pub accepted : Accepted evening (both 6 0 1 (pos 205) 8)
  pub account : complex_sums 6 evening ≡ 3 ∷ 3 ∷ 3 ∷ 0 ∷ 0 ∷ 5 ∷ []
  -- so was order 8, of kind 9: 12 entered = 3 traded + 9 still open; and order 13, of kind 10, whose 3 units are open
  pub reserve_accepted : Accepted evening (reserved 8 1 1 90 12 8)
  pub reserve_account : regular_sums 8 1 evening ≡ 3 ∷ 0 ∷ 9 ∷ []
  pub unequal_accepted : Accepted evening (units 13 0 2 1 (pos 300) 3)
  pub unequal_account : complex_sums 13 evening ≡ 0 ∷ 0 ∷ 0 ∷ 0 ∷ 0 ∷ 3 ∷ []
  -- What LimitedSweeps asks, of the venue at noon: it is sound, and a kind 11 limited to 7 is accepted, which looks at these
  pub sound : SoundAt 24 noon.venue
  pub limited : message_of (encode_message (LimitedSweep 7)) ≡ LimitedSweep 7
  pub taken : refusal noon.venue (encode_message (LimitedSweep 7)) ≡ 0
  pub seven : looks 7 noon.venue ≡ 1 ∷ 2 ∷ 3 ∷ 4 ∷ 5 ∷ 6 ∷ 13 ∷ []
  -- orders 1 and 14 rest when each of the four messages starts, and are looked at by turns: 1, 14, 1, 14, 1
  pub stays : Stays 1 noon.venue 23 afternoon
  pub stays' : Stays 14 noon.venue 23 afternoon
  pub turns : looks_all noon.venue 23 afternoon ≡ 1 ∷ 2 ∷ 3 ∷ 4 ∷ 5 ∷ 6 ∷ 13 ∷ 14 ∷ 1 ∷ 2 ∷ 3 ∷ 4 ∷ 5 ∷ 6 ∷ 13 ∷ 14 ∷ 1 ∷ []
