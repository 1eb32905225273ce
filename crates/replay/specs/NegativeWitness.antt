-- Wrong sheets that the claims refuse. Each is the true sheet of one session up to some record, and then one record that is wrong: for each part of what is
-- asked of a trade and of a cross at its moment there is one that this part refuses. Given by computation.
use Rattle.std.specs.Prelude.{◌≡◌, ◌≢◌, List, [], ◌++◌, ◌∷◌, ℕ, ℤ, negsuc, pos, drop, take}
use Rattle.rules.specs.declared.Message.{Message}
use Rattle.rules.specs.declared.Message.TheVariants.{TwoLeg}
use Rattle.rules.specs.declared.Venue.{Venue}
use Rattle.rules.specs.Words.{fresh_venue}
use Rattle.rules.specs.Records.{Report, crossed, pair, trade}
use Rattle.demands.specs.Demand.{Seen, by_run, calls, opening}
use Rattle.witness.specs.Witness.{both, bytes_of, order, reserved}
use Rattle.replay.specs.Moments.{AtEach}
use Rattle.replay.specs.Replay.{finished, replay, upon}

-- a complex order of one side in series 2 and 3
abbrev pub in_others : (id side : ℕ) (limit : ℤ) (quantity : ℕ) → Message
in_others i d n q = TwoLeg (record { id = i; series1 = 2; side1 = d; series2 = 3; side2 = d; class = 1; limit = n; quantity = q; ratio1 = 1; ratio2 = 1 })

-- ids are the messages' numbers
unfoldable pub session : List Message
session =
    in_others 1 0 (pos 195) 5
    -- complex order 4 has legging orders at 115 and 75; bids of 110 and of 115, the second with a reserve of 4
    ∷ order 2 0 1 130 15 ∷ order 3 1 1 90 12 ∷ both 4 0 1 (pos 205) 8 ∷ order 5 1 1 95 5 ∷ order 6 0 0 110 2 ∷ reserved 7 0 0 115 6 2
    -- 2 and then 4 with order 7, 8 with the legging order, whose other leg takes 8 of order 3, and 2 with order 6
    ∷ order 8 0 1 110 20
    -- 3 and 3 that orders 9 and 10 show at 100, then 7 and 7 of their reserve, then 1 at 110
    ∷ reserved 9 7 1 100 10 3 ∷ reserved 10 7 1 100 10 3 ∷ order 11 7 1 110 1 ∷ order 12 7 0 110 21
    -- offers whose prices make 190, and complex orders that would cross at 195
    ∷ order 13 2 1 100 5 ∷ order 14 3 1 90 5 ∷ in_others 15 1 (negsuc 194) 3 ∷ in_others 16 0 (pos 195) 4
    ∷ []

unfoldable pub seen : Seen
seen = calls (opening (by_run (record { room = 2000; bytes = bytes_of session }))) []

-- the books just before record n, counted from 0
unfoldable pub before : ℕ → Venue
before n = (replay (upon fresh_venue seen.messages) (take n seen.reports)).books

-- the first n records, and then a wrong one
unfoldable pub sheet : (n : ℕ) → (wrong : Report) → List Report
sheet n wrong = take n seen.reports ++ (wrong ∷ [])

-- that it holds "at that moment" is false of one of its records
abbrev pub Refused : (n : ℕ) → (wrong : Report) → Type 0
Refused n wrong = AtEach (upon fresh_venue seen.messages) (sheet n wrong) → ⊥

pub record NegativeWitness : Type 0 where
  -- the true records at these places
  pub true10 : take 4 (drop 10 seen.reports) ≡ trade 0 1 115 2 8 7 ∷ trade 0 1 115 4 8 7 ∷ trade 0 1 115 8 8 4 ∷ trade 1 0 90 8 4 3 ∷ []
  pub true17 : take 1 (drop 17 seen.reports) ≡ trade 0 1 110 2 8 6 ∷ []
  pub true22 : take 5 (drop 22 seen.reports)
      ≡ trade 7 0 100 3 12 9 ∷ trade 7 0 100 3 12 10 ∷ trade 7 0 100 7 12 9 ∷ trade 7 0 100 7 12 10 ∷ trade 7 0 110 1 12 11 ∷ []
  -- the maker does not stand there (`stands`): of a regular order an id that none has, another side, another series, another price, more than rests
  pub unknown_maker : Refused 12 (trade 0 1 115 8 8 17)
  pub takers_side : Refused 12 (trade 0 1 130 2 8 2)
  pub another_series : Refused 17 (trade 2 1 110 2 8 6)
  pub another_price : Refused 17 (trade 0 1 112 2 8 6)
  pub more_than_rests : Refused 13 (trade 1 0 90 13 4 3)
  -- of a legging order another's complex order, another price, more than its quantity
  pub another_parent : Refused 12 (trade 0 1 115 8 8 1)
  pub another_legging_price : Refused 12 (trade 0 1 120 8 8 4)
  pub more_than_legging : Refused 12 (trade 0 1 115 9 8 4)
  -- `shown`: a complex order trades at 95 while 90 is shown
  pub better_shown : Refused 13 (trade 1 0 95 5 4 5)
  -- `legging`: a regular order trades at 110 while a legging order stands at 115
  pub better_legging : Refused 12 (trade 0 1 110 2 8 6)
  -- `reserve`: at 110 while reserve is left at 100
  pub better_reserve : Refused 24 (trade 7 0 110 1 12 11)
  -- `turn`, of (e): more than is shown in one trade; the later of two that show; reserve while another shows; the later of two reserves
  pub shown_and_reserve : Refused 22 (trade 7 0 100 10 12 9)
  pub later_shown : Refused 22 (trade 7 0 100 3 12 10)
  pub reserve_before_shown : Refused 23 (trade 7 0 100 7 12 9)
  pub later_reserve : Refused 24 (trade 7 0 100 7 12 10)
  -- `hit`: the legging order is hit while reserve alone is left at its price, and while some of it shows
  pub hit_before_reserve : Refused 11 (trade 0 1 115 8 8 4)
  pub hit_before_shown : Refused 10 (trade 0 1 115 8 8 4)
  -- `taking` and `resting`, of (b): a cross at 195 while offers make 190, for the party that takes and for the one that rests
  pub taker_above : Refused 31 (crossed 16 15 (pos 195) 3)
  pub maker_above : Refused 30 (crossed 15 1 (negsuc 194) 3)
  -- a pair that never happened: the books are then not those of the venue left
  pub unheard_pair : finished (replay (upon fresh_venue seen.messages) (seen.reports ++ (pair 1 (pos 190) 2 ∷ []))).books ≢ seen.venue
