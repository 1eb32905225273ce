-- The claims are not empty: a session with a legging order hit while a regular order rests behind it, a reserve taken while a worse price shows, a cross whose
-- parties have prices at both legs, and a limited sweep that goes round and generates. Given by computation, each with the books at its moment.
use Rattle.std.specs.Prelude.{◌≡◌, List, [], ◌++◌, ◌∷◌, map, ℕ, negsuc, pos, get_or, replicate, take}
use Rattle.rules.specs.declared.Message.{Message}
use Rattle.rules.specs.declared.Message.TheVariants.{Cancel, LimitedSweep}
use Rattle.rules.specs.declared.Venue.{Venue}
use Rattle.rules.specs.Words.{buy, complex_at, fresh_venue, legging_at, regular_at, sell}
use Rattle.rules.specs.Records.{Report, cancelled, crossed, generated, looked, trade}
use Rattle.rules.specs.Prices.{best_regular}
use Rattle.rules.specs.Generation.{generations_of}
use Rattle.demands.specs.Demand.{Seen, by_run, calls, opening}
use Rattle.witness.specs.Witness.{both, bytes_of, order, reserved}
use Rattle.replay.specs.Replay.{replay, upon}

unfoldable pub session : List Message
session =
    -- complex order 3 has legging orders at 115 and 75, and order 4 bids 110 behind the first
    order 1 0 1 130 15 ∷ order 2 1 1 90 12 ∷ both 3 0 1 (pos 205) 8 ∷ order 4 0 0 110 2
    -- 8 at 115, and then 2 at 110
    ∷ order 5 0 1 110 10
    -- 3 that order 6 shows at 100, and then 5 of its reserve, before what shows at 110
    ∷ reserved 6 7 1 100 10 3 ∷ order 7 7 1 110 1 ∷ order 8 7 0 110 8
    -- bids in both series, and two complex orders that cross between them and the offers
    ∷ order 9 0 0 100 1 ∷ order 10 1 0 50 1 ∷ both 11 0 1 (pos 190) 2 ∷ both 12 1 1 (negsuc 189) 2
    -- the first looks at orders 13 and 14; the second goes round to 13, whose legging orders those of 14 had replaced
    ∷ both 13 0 1 (pos 205) 1 ∷ both 14 0 1 (pos 206) 1 ∷ LimitedSweep 2 ∷ Cancel 14 ∷ LimitedSweep 2
    ∷ []

unfoldable pub seen : Seen
seen = calls (opening (by_run (record { room = 2000; bytes = bytes_of session }))) []

-- record n, counted from 0, and the books just before it
unfoldable pub record_at : ℕ → Report
record_at n = get_or seen.reports n (cancelled 0 0)

unfoldable pub before : ℕ → Venue
before n = (replay (upon fresh_venue seen.messages) (take n seen.reports)).books

pub record Witness : Type 0 where
  -- a regular order hits a legging order: its complex order is the maker, and a regular order rests at a worse price of that side
  pub hit : record_at 7 ≡ trade 0 1 115 8 5 3
  pub hit_legging : legging_at (before 7) 0 0 ≡ record { parent = 3; price = 115; quantity = 8 }
  pub hit_maker : (complex_at (before 7) 0).id ≡ 3
  pub hit_behind : regular_at (before 7) 2 ≡ record { id = 4; series = 0; side = 0; price = 110; quantity = 2; display = 2; reserve = 0 }
  -- its other leg, and then the trade at 110, when the legging order is gone
  pub hit_other : record_at 8 ≡ trade 1 0 90 8 3 2
  pub hit_after : record_at 12 ≡ trade 0 1 110 2 5 4
  pub hit_gone : (legging_at (before 12) 0 0).quantity ≡ 0
  -- a regular order takes reserve: nothing of it shows any more, a worse price shows, and the taker is in the books
  pub reserve : record_at 17 ≡ trade 7 0 100 5 8 6
  pub reserve_left : regular_at (before 17) 2 ≡ record { id = 6; series = 7; side = 1; price = 100; quantity = 7; display = 3; reserve = 7 }
  pub reserve_worse : regular_at (before 17) 3 ≡ record { id = 7; series = 7; side = 1; price = 110; quantity = 1; display = 1; reserve = 0 }
  pub reserve_taker : regular_at (before 17) 4 ≡ record { id = 8; series = 7; side = 0; price = 110; quantity = 5; display = 5; reserve = 0 }
  -- a cross, with a bid and an offer in both series
  pub cross : record_at 24 ≡ crossed 12 11 (negsuc 189) 2
  pub cross_bids : map (λ s. best_regular (before 24) s buy) (0 ∷ 1 ∷ []) ≡ 100 ∷ 50 ∷ []
  pub cross_offers : map (λ s. best_regular (before 24) s sell) (0 ∷ 1 ∷ []) ≡ 130 ∷ 90 ∷ []
  -- a limited sweep: the lesser of 2 and the one that rests, from the id reached before to the one that is reached now
  pub looks : record_at 42 ≡ looked 1
  pub looks_from : (before 42).reached ≡ 14
  pub looks_at : (before 43).reached ≡ 13
  -- its first 67, of message 17; before it four of series 0 counted, of messages 3, 11, 13 and 14
  pub makes : record_at 43 ≡ generated 13 0 0 115 115 1
  pub made_before : generations_of (before 43) 0 ≡ replicate 16 0 ++ (3 ∷ 11 ∷ 13 ∷ 14 ∷ [])
  pub made_after : generations_of (before 44) 0 ≡ replicate 15 0 ++ (3 ∷ 11 ∷ 13 ∷ 14 ∷ 17 ∷ [])
