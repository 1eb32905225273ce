-- Demand 3 of document 01: "one claim about a whole list of messages, not one for each call", in terms of what callers see. In the
-- customer's words: after every list of messages from a fresh venue, each taken upon the venue that the last one left, each legging order
-- standing is at the best displayed price of its side and within the band; a hit on it, for any number of contracts up to its quantity,
-- finds that many of its other leg at one price from regular orders, the net at its complex order's limit or better; and by the reports,
-- the messages done and the venue left, for every complex order accepted its contracts in the first series equal those in the second and
-- equal its pairs, and quantity entered = paired + crossed + cancelled + still open. With request (g): its contracts in each series are its
-- ratio × its paired units, and these quantities are units; of an order one to one, whose unit is a contract of each, that is the same
-- claim. What is quoted below is document 01's paragraph, sentence by sentence, and the sentence of (g) that replaces one for unequal
-- ratios.
-- The calls are those of `Calls`. That the compiled ones are `Calls.run` and `Calls.one` is what their contracts in
-- crates/engine/src/lib.rt say, by equation and with no `requires`: `run` and `one_message`, and for a host `legging_run` and
-- `legging_message`. Beyond document 01, runs upon a venue (`Calls.run_upon`) stand in the list of calls wherever one-message calls do.
use Rattle.std.specs.Prelude.{◌≡◌, false, true, ◌%◌, ◌*◌, ◌+◌, ◌/◌, ◌<◌, ◌≤◌, suc, zero, ℕ, drop, get_or, length}
use mathlib.Core.List.{List, Memᴰ, [], ◌++◌, ◌∷◌}
use Rattle.std.specs.Int.Signed.{le_z}
use Rattle.rules.specs.declared.Cause.TheVariants.{Executed}
use Rattle.rules.specs.declared.Complex.{Complex}
use Rattle.rules.specs.declared.Legging.{Legging}
use Rattle.rules.specs.declared.Message.{Message}
use Rattle.rules.specs.declared.Message.TheVariants.{Order, TwoLeg}
use Rattle.rules.specs.declared.Regular.{Regular}
use Rattle.rules.specs.declared.Venue.{Venue}
use Rattle.rules.specs.Base.{held}
use Rattle.rules.specs.Words.{fresh_venue, is_complex_of, legging_at, no_legging, one_to_one, opposite, regular_at}
use Rattle.rules.specs.Settings.{increment}
use Rattle.rules.specs.Bytes.{length_field}
use Rattle.rules.specs.Messages.{message_of}
use Rattle.rules.specs.Records.{Report, answer, pair, records, trade}
use Rattle.rules.specs.Removal.{remove_of}
use Rattle.rules.specs.Prices.{better, displayed_price, in_band, rests_at, shown_size}
use Rattle.rules.specs.Standing.{has_leg, leg_net, other_clear, other_leg, parent_of}
use Rattle.rules.specs.Trading.{put_regular, trade_at_price}
use Rattle.rules.specs.Order.{hit}
use Rattle.rules.specs.Calls.{Call, one, run, run_upon}
use Rattle.rules.specs.Sums.{cancelled_of, contracts, contracts_at, crossed_for, open_complex, open_regular, paired, total}

-- The list of calls ---------------------------------------------------------------------------

-- What a call is given: bytes, and a report memory of a length. "Any contents, any report memory": what stood in that memory is no matter,
-- as `run`, `one` and `run_upon` say every byte of it.
pub record Given : Type 0 where
  pub room : ℕ
  pub bytes : List ℕ

-- the first `done` messages of a call's bytes, each from its first byte on
unfoldable pub parts : (done : ℕ) → List ℕ → List (List ℕ)
parts zero bs = []
parts (suc done) bs = bs ∷ parts done (drop (length_field bs) bs)

-- what callers have seen so far
pub record Seen : Type 0 where
  -- the venue that the last call returned
  pub venue : Venue
  -- the number of messages done, by what the calls returned, and these messages
  pub done : ℕ
  pub messages : List (List ℕ)
  -- "The reports are all records written, in order": as the report memories are read
  pub reports : List Report

-- "the first call upon a fresh venue", "with the messages done so far, at first none, gone before"
unfoldable pub start : Seen
start = record { venue = fresh_venue; done = 0; messages = []; reports = [] }

-- one more call, given these bytes: "where a call ends early, it holds of what was done"
unfoldable pub extend : Seen → List ℕ → Call → Seen
extend s bs c = record {
  venue = c.returned.venue;
  done = s.done + c.returned.done;
  messages = s.messages ++ parts c.returned.done bs;
  reports = s.reports ++ records c.report;
}

-- "The list is what a run is given and then what any number of one-message calls are given one after another, or what such calls alone
-- are given"; "the kinds that come later are in it": the kinds of document 02 are messages like the others
pub data Opening : Type 0 where
  by_run : Given → Opening
  alone : Opening

unfoldable pub opening : Opening → Seen
opening (by_run g) = extend start g.bytes (run g.room g.bytes)
opening alone = start

-- a later call: with one message, as document 01's are, or, beyond it, with a list of messages
pub data Later : Type 0 where
  by_message : Given → Later
  by_list : Given → Later

unfoldable pub given_to : Later → Given
given_to (by_message g) = g
given_to (by_list g) = g

-- what it does upon a venue, so many messages having gone before
unfoldable pub call_upon : Later → Venue → (before : ℕ) → Call
call_upon (by_message g) v n = one v n g.room g.bytes
call_upon (by_list g) v n = run_upon v n g.room g.bytes

-- "each later one upon the venue that the last one returned, with the messages done so far … gone before. Nothing else changes the venue
-- meanwhile." In document 01's list each later call has one message
unfoldable pub calls : Seen → List Later → Seen
calls s [] = s
calls s (c ∷ cs) = calls (extend s (given_to c).bytes (call_upon c s.venue s.done)) cs

-- Legging orders ------------------------------------------------------------------------------

-- the other leg's trades when k contracts of c's leg in series s are hit: k contracts at its clear price, upon the venue as it stands
abbrev pub other_trades : Venue → Complex → (s k : ℕ) → List Report
other_trades v c s k = (trade_at_price k c.id (other_leg c s).series (other_leg c s).side (other_clear v c s) k v).reports

-- r is a trade by this taker, of this side, with a regular order that rests in the series, on the side that the taker takes, at the
-- price, for no more than it shows (request (e): "A complex order takes shown size only")
pub record FromResting (v : Venue) (taker series side price : ℕ) (r : Report) : Type 0 where
  -- the maker's place
  pub at : ℕ
  pub rests : rests_at series (opposite side) (regular_at v at) ≡ true
  pub priced : (regular_at v at).price ≡ price
  pub contracts : ℕ
  pub within_shown : contracts ≤ shown_size (regular_at v at)
  pub is : r ≡ trade series side price contracts taker (regular_at v at).id

-- The records that a hit writes, of k contracts of the legging order l of c at side d of series s, by the order with the id `taker`:
-- "trade, then k contracts of the other leg at its clear price …, then 66, then removal of all its parent's legging orders".
abbrev pub hit_records : Venue → (c : Complex) → (s d : ℕ) → (l : Legging) → (k taker : ℕ) → List Report
hit_records v c s d l k taker =
    trade s (opposite d) l.price k taker c.id
    ∷ (other_trades v c s k ++ (pair c.id (leg_net c s d l.price (other_clear v c s)) k ∷ (remove_of c.id Executed v).reports))

-- "The hit for k … is the one written under Order: it finds k regular contracts at the other leg's clear price, its own price and that one
-- netting to N or less": of the legging order l of c at side d of series s, upon the venue as it stands, "whether or not ids, places or
-- the size ahead of it leave room for an order that brings the hit".
pub record Hit (v : Venue) (c : Complex) (s d : ℕ) (l : Legging) (k : ℕ) : Type 0 where
  -- the other leg has a clear price
  pub clear : held (other_clear v c s) ≡ true
  -- the legging order's price and that one net to N or less
  pub net : le_z (leg_net c s d l.price (other_clear v c s)) c.limit ≡ true
  -- the trades of the other leg are k contracts at that price
  pub found : total (contracts_at c.id (other_leg c s).series (other_clear v c s)) (other_trades v c s k) ≡ k
  -- "k regular contracts": each of these trades is with a regular order that rests in that series, on the side that the leg takes, at
  -- that price
  pub makers : (r : Report) → Memᴰ r (other_trades v c s k) →
      FromResting v c.id (other_leg c s).series (other_leg c s).side (other_clear v c s) r
  -- it is `Order.hit`: the order at place i, of the same series and the other side, that hits l writes these records
  pub written : (i : ℕ) → (regular_at v i).series ≡ s → (regular_at v i).side ≡ opposite d →
      (hit i l k v).reports ≡ hit_records v c s d l k (regular_at v i).id
  -- and so does an order o that arrives at a free place i
  pub arrives : (i : ℕ) (o : Regular) → i < length v.regular → held (regular_at v i).quantity ≡ false →
      o.series ≡ s → o.side ≡ opposite d → (hit i l k (put_regular i o v)).reports ≡ hit_records v c s d l k o.id

-- of the legging order l that stands at side d of series s
pub record Standing (v : Venue) (s d : ℕ) (l : Legging) : Type 0 where
  -- its complex order rests, and has the leg
  pub rests : is_complex_of l.parent (parent_of v l) ≡ true
  pub leg : has_leg (parent_of v l) s d ≡ true
  -- request (g): orders of unequal ratios "never generate"
  pub even : one_to_one (parent_of v l) ≡ true
  -- "Best displayed: no regular order's price … in the same series and side is better (higher to buy, lower to sell), away prices aside"
  pub best : (i : ℕ) → rests_at s d (regular_at v i) ≡ true →
      better d (regular_at v i).price (displayed_price (increment v s) d l.price) ≡ false
  -- "and no legging order's displayed price": of what stands at a place m, which is side m % 2 of series m / 2
  pub best_legging : (m : ℕ) → m / 2 ≡ s → m % 2 ≡ d → held (get_or v.legging m no_legging).quantity ≡ true →
      better d (displayed_price (increment v s) d (get_or v.legging m no_legging).price)
      (displayed_price (increment v s) d l.price) ≡ false
  -- "Within the band: its complex order's N is in band."
  pub band : in_band v (parent_of v l) (parent_of v l).limit ≡ true
  -- "for each k from 1 to its quantity"
  pub hit : (k : ℕ) → 1 ≤ k → k ≤ l.quantity → Hit v (parent_of v l) s d l k

-- Accounts ------------------------------------------------------------------------------------

-- "Accepted: done, and met by no refusal": m is one of the messages done, and the 64 of its number has refusal 0
pub record Accepted (s : Seen) (m : Message) : Type 0 where
  pub before : ℕ
  pub is : message_of (get_or s.messages before []) ≡ m
  pub mask : ℕ
  pub count : ℕ
  pub told : Memᴰ (answer (suc before) 0 mask count) s.reports

-- "Entered is the quantity in its message; still open is the quantity resting in the venue left (0 if none rests). The rest is summed
-- from the records that name its id": the sums of `Sums`, over all records written
pub record ComplexAdds (s : Seen) (c : Complex) : Type 0 where
  -- its contracts in the first series, and those in the second, equal its pairs; request (g): "leg contracts must equal ratio × paired
  -- units in each series, proved for all ratios together; for such an order this replaces demand 3's equality of contracts and pairs". Of
  -- kind 2 both ratios are 1
  pub first : total (contracts c.id c.series1) s.reports ≡ c.ratio1 * total (paired c.id) s.reports
  pub second : total (contracts c.id c.series2) s.reports ≡ c.ratio2 * total (paired c.id) s.reports
  -- entered = paired + crossed + cancelled + still open
  pub adds : c.quantity ≡
      total (paired c.id) s.reports + total (crossed_for c.id) s.reports
      + total (cancelled_of c.id) s.reports + open_complex c.id s.venue.complex

-- beyond the demand, of a regular order: entered = traded + cancelled + still open
pub record OrderAdds (s : Seen) (o : Regular) : Type 0 where
  pub adds : o.quantity ≡
      total (contracts o.id o.series) s.reports + total (cancelled_of o.id) s.reports
      + open_regular o.id s.venue.regular

-- The claim -----------------------------------------------------------------------------------

pub record Holds (s : Seen) : Type 0 where
  pub standing : (series side : ℕ) → side < 2 → held (legging_at s.venue series side).quantity ≡ true →
      Standing s.venue series side (legging_at s.venue series side)
  pub complexes : (c : Complex) → Accepted s (TwoLeg c) → ComplexAdds s c
  pub orders : (o : Regular) → Accepted s (Order o) → OrderAdds s o

-- every opening, and then every list of calls with a message or a list each, in any order
abbrev pub Demand3 : Type 0
Demand3 = (o : Opening) (cs : List Later) → Holds (calls (opening o) cs)
