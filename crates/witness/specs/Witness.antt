-- The claims are not empty: a list of calls in which legging orders are made, hit in part, paired, crossed, withdrawn, removed for each of the
-- causes 1 to 8 and 10, and stand at the end; in which an order trades what it shows and then of its reserve, and shows again; with calls that end early.
-- Given by computation.
use Rattle.std.specs.Prelude.{◌≡◌, List, [], ◌++◌, ◌∷◌, ℕ, ◌-◌, eqb, negsuc, pos, ℤ, get_or, if◌then◌else◌}
use Rattle.rules.specs.declared.Cause.TheVariants.{Executed}
use Rattle.rules.specs.declared.Message.{Message}
use Rattle.rules.specs.declared.Message.TheVariants.{Away, Cancel, Order, Status, Sweep, TwoLeg}
use Rattle.rules.specs.declared.Venue.{Venue}
use Rattle.rules.specs.Words.{legging_at, no_regular, regular_at}
use Rattle.rules.specs.Messages.{encode_message}
use Rattle.rules.specs.Records.{Report, answer, cancelled, cause_number, crossed, generated, looked, pair, removed, trade}
use Rattle.rules.specs.Standing.{parent_of}
use Rattle.rules.specs.Trading.{put_regular}
use Rattle.rules.specs.Order.{hit}
use Rattle.rules.specs.Sums.{cancelled_of, contracts, crossed_for, open_complex, open_regular, paired, total}
use Rattle.demands.specs.Demand.{Accepted, Later, Seen, by_list, by_message, by_run, calls, opening, other_trades}

-- The calls -----------------------------------------------------------------------------------

-- an order of kind 9, and one of kind 1
abbrev pub reserved : (id series side price quantity display : ℕ) → Message
reserved i s d p q x = Order (record { id = i; series = s; side = d; price = p; quantity = q; display = x; reserve = q - x })

abbrev pub order : (id series side price quantity : ℕ) → Message
order i s d p q = reserved i s d p q q

-- a complex order of one side in series 0 and 1
abbrev pub both : (id side class : ℕ) (limit : ℤ) (quantity : ℕ) → Message
both i d k n q = TwoLeg (record { id = i; series1 = 0; side1 = d; series2 = 1; side2 = d; class = k; limit = n; quantity = q; ratio1 = 1; ratio2 = 1 })

-- request (g): r of series 0 and q of series 1, of one side
abbrev pub units : (id side r q : ℕ) (limit : ℤ) (quantity : ℕ) → Message
units i d r q n k = TwoLeg (record { id = i; series1 = 0; side1 = d; series2 = 1; side2 = d; class = 1; limit = n; quantity = k; ratio1 = r; ratio2 = q })

unfoldable pub bytes_of : List Message → List ℕ
bytes_of [] = []
bytes_of (m ∷ ms) = encode_message m ++ bytes_of ms

-- a run: the printed session, a sweep, and then one cause after another
unfoldable pub session : List Message
session =
    Status 0 1 ∷ Status 1 1
    ∷ order 1 0 1 130 15 ∷ order 2 1 1 90 12
    ∷ both 3 0 1 (pos 205) 8
    -- 5 of its 8 are hit: 3
    ∷ order 4 0 1 115 5 ∷ Sweep
    -- a better regular bid: 1
    ∷ order 5 0 0 120 1 ∷ Cancel 5 ∷ Sweep
    -- an auction: 6
    ∷ Status 1 2 ∷ Status 1 1 ∷ Sweep
    -- an away offer that takes N out of the band: 5
    ∷ Away 0 0 60 ∷ Away 0 0 0 ∷ Sweep
    -- an order that would take both: 8
    ∷ both 6 1 0 (negsuc 189) 1 ∷ Cancel 6 ∷ Sweep
    -- better prices: 7; and their order is cancelled: 4
    ∷ both 7 0 0 (pos 210) 2 ∷ Cancel 7 ∷ Sweep
    ∷ []

-- and then calls with a message or a list each, each with its room
unfoldable pub later : List Later
later =
    by_message (record { room = 100; bytes = encode_message (Away 0 115 0) })
    ∷ by_message (record { room = 100; bytes = encode_message (Away 1 85 95) })
    -- a cross: 3
    ∷ by_message (record { room = 100; bytes = encode_message (both 8 1 0 (negsuc 204) 1) })
    -- 11 bytes hold no answer: this call ends with 10 before its message
    ∷ by_message (record { room = 11; bytes = encode_message Sweep })
    ∷ by_message (record { room = 100; bytes = encode_message Sweep })
    -- the other leg's offer is cancelled, and an away one keeps the limit in band: 2
    ∷ by_message (record { room = 100; bytes = encode_message (Cancel 2) })
    -- refused: a torn message, and an id that is not above the last
    ∷ by_message (record { room = 100; bytes = 9 ∷ 0 ∷ 6 ∷ [] })
    ∷ by_list (record { room = 100; bytes = bytes_of (order 8 1 1 90 12 ∷ order 9 1 1 90 12 ∷ Sweep ∷ []) })
    -- three and one would be sold where two are bid for: 10; two and one are bought, whole units
    ∷ by_message (record { room = 100; bytes = encode_message (units 10 1 3 1 (negsuc 419) 1) })
    ∷ by_message (record { room = 100; bytes = encode_message (Cancel 10) })
    ∷ by_message (record { room = 100; bytes = encode_message (units 11 0 2 1 (pos 350) 3) })
    ∷ by_message (record { room = 100; bytes = encode_message Sweep })
    -- a quantity of 10 showing 3: an order for 5 takes 3 and then 2, and of the 5 left 3 show again
    -- one list in two calls: 40 bytes do not hold the last message's records, and the first call ends with 10 before it
    ∷ by_list (record { room = 40; bytes = bytes_of (Status 7 1 ∷ reserved 12 7 1 100 10 3 ∷ order 13 7 0 100 5 ∷ []) })
    ∷ by_list (record { room = 100; bytes = bytes_of (order 13 7 0 100 5 ∷ []) })
    ∷ []

unfoldable pub at_end : Seen
at_end = calls (opening (by_run (record { room = 2000; bytes = bytes_of session }))) later

-- What is read off it -------------------------------------------------------------------------

-- the records of a kind, by document 01's number
unfoldable pub kind_of : Report → ℕ
kind_of (answer n x m c) = 64
kind_of (trade s d p q t m) = 65
kind_of (pair i n q) = 66
kind_of (generated i s d p x q) = 67
kind_of (removed i s d c) = 68
kind_of (crossed t m n q) = 70
kind_of (cancelled i q) = 71
kind_of (looked n) = 72

unfoldable pub of_kind : (kind : ℕ) → List Report → List Report
of_kind k [] = []
of_kind k (r ∷ rs) = if eqb (kind_of r) k then r ∷ of_kind k rs else of_kind k rs

-- the causes of the removals, in order
unfoldable pub causes : List Report → List ℕ
causes [] = []
causes (answer n x m c ∷ rs) = causes rs
causes (trade s d p q t m ∷ rs) = causes rs
causes (pair i n q ∷ rs) = causes rs
causes (generated i s d p x q ∷ rs) = causes rs
causes (removed i s d c ∷ rs) = cause_number c ∷ causes rs
causes (crossed t m n q ∷ rs) = causes rs
causes (cancelled i q ∷ rs) = causes rs
causes (looked n ∷ rs) = causes rs

-- of complex order 3, by what Demand 3 sums: contracts in its series, paired, crossed, cancelled, still open
unfoldable pub sums : Seen → List ℕ
sums s =
    total (contracts 3 0) s.reports ∷ total (contracts 3 1) s.reports ∷ total (paired 3) s.reports
    ∷ total (crossed_for 3) s.reports ∷ total (cancelled_of 3) s.reports ∷ open_complex 3 s.venue.complex ∷ []

-- of complex order 11, the same: two contracts of series 0 and one of series 1 to a unit
unfoldable pub unit_sums : Seen → List ℕ
unit_sums s =
    total (contracts 11 0) s.reports ∷ total (contracts 11 1) s.reports ∷ total (paired 11) s.reports
    ∷ total (crossed_for 11) s.reports ∷ total (cancelled_of 11) s.reports ∷ open_complex 11 s.venue.complex ∷ []

-- of a regular order: contracts in its series, cancelled, still open
unfoldable pub regular_sums : (id series : ℕ) → Seen → List ℕ
regular_sums i t s = total (contracts i t) s.reports ∷ total (cancelled_of i) s.reports ∷ open_regular i s.venue.regular ∷ []

-- the venue at the end with an order to sell 2 at 115 in series 0 that arrives at a free place
unfoldable pub arriving : Venue
arriving = put_regular 3 (record { id = 14; series = 0; side = 1; price = 115; quantity = 2; display = 2; reserve = 0 }) at_end.venue

pub record Witness : Type 0 where
  -- 22 messages of the run and 16 later ones; the call with 11 bytes did none, and that with 40 bytes two of three
  pub done : at_end.done ≡ 38
  -- two legging orders stand at the end, for 2 contracts at 115 and 75
  pub standing : legging_at at_end.venue 0 0 ≡ record { parent = 3; price = 115; quantity = 2 }
  pub standing' : legging_at at_end.venue 1 0 ≡ record { parent = 3; price = 75; quantity = 2 }
  -- a hit in part: 5 contracts of a legging order for 8, and 5 of the other leg; and 3 units of two and one
  pub made : get_or (of_kind 67 at_end.reports) 0 (cancelled 0 0) ≡ generated 3 0 0 115 115 8
  pub trades : of_kind 65 at_end.reports ≡
      trade 0 1 115 5 4 3 ∷ trade 1 0 90 5 3 2 ∷ trade 0 0 130 6 11 1 ∷ trade 1 0 90 3 11 9 ∷ trade 7 0 100 3 13 12 ∷ trade 7 0 100 2 13 12 ∷ []
  pub pairs : of_kind 66 at_end.reports ≡ pair 3 (pos 205) 5 ∷ pair 11 (pos 350) 3 ∷ []
  pub crosses : of_kind 70 at_end.reports ≡ crossed 8 3 (negsuc 204) 1 ∷ []
  pub cancels : of_kind 71 at_end.reports ≡ cancelled 5 1 ∷ cancelled 6 1 ∷ cancelled 7 2 ∷ cancelled 2 7 ∷ cancelled 10 1 ∷ []
  -- each removal cause 1 to 8, and 10
  pub removals : causes at_end.reports ≡ 3 ∷ 3 ∷ 1 ∷ 6 ∷ 6 ∷ 5 ∷ 5 ∷ 8 ∷ 8 ∷ 7 ∷ 7 ∷ 4 ∷ 4 ∷ 3 ∷ 3 ∷ 2 ∷ 10 ∷ 10 ∷ []
  -- complex order 3 was accepted, by what Demand 3 reads off the answers
  pub accepted : Accepted at_end (both 3 0 1 (pos 205) 8)
  -- 8 entered = 5 paired + 1 crossed + 0 cancelled + 2 still open
  pub account : sums at_end ≡ 5 ∷ 5 ∷ 5 ∷ 1 ∷ 0 ∷ 2 ∷ []
  -- complex order 11 was accepted: 6 contracts are 2 × 3 units, 3 are 1 × 3; 3 entered = 3 paired
  pub units_accepted : Accepted at_end (units 11 0 2 1 (pos 350) 3)
  pub units_account : unit_sums at_end ≡ 6 ∷ 3 ∷ 3 ∷ 0 ∷ 0 ∷ 0 ∷ []
  -- regular order 2 was accepted: 12 entered = 5 traded + 7 cancelled + 0 still open
  pub regular_accepted : Accepted at_end (order 2 1 1 90 12)
  pub regular_account : regular_sums 2 1 at_end ≡ 5 ∷ 7 ∷ 0 ∷ []
  -- so was order 12, of kind 9: 10 entered = 5 traded + 0 cancelled + 5 still open, of which it shows 3
  pub reserve_accepted : Accepted at_end (reserved 12 7 1 100 10 3)
  pub reserve_account : regular_sums 12 7 at_end ≡ 5 ∷ 0 ∷ 5 ∷ []
  pub shows : regular_at at_end.venue 2 ≡ record { id = 12; series = 7; side = 1; price = 100; quantity = 5; display = 3; reserve = 2 }
  -- the hit for 2 of what stands in series 0: the place is free, and the records are those that Demand 3 says
  pub free : regular_at at_end.venue 3 ≡ no_regular
  pub hits : (hit 3 (legging_at at_end.venue 0 0) 2 arriving).reports ≡
      trade 0 1 115 2 14 3 ∷ trade 1 0 90 2 3 9 ∷ pair 3 (pos 205) 2 ∷ removed 3 0 0 Executed ∷ removed 3 1 0 Executed ∷ []
  -- the other leg's trade, and its maker, which rests
  pub others : other_trades at_end.venue (parent_of at_end.venue (legging_at at_end.venue 0 0)) 0 2 ≡ trade 1 0 90 2 3 9 ∷ []
  pub maker : regular_at at_end.venue 1 ≡ record { id = 9; series = 1; side = 1; price = 90; quantity = 9; display = 9; reserve = 0 }
