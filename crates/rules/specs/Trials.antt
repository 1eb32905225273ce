-- Document 01, "Trials": what is tried, the starred ones, and one for each rule that the laws leave open. The others, of 01 and of the
-- requests, are the crate trials' (crates/trials/specs/Trials.antt).
-- A session's messages go in as bytes and its records are read from the report memory's bytes.
use Rattle.std.specs.Prelude.{Bool, true, false, not, ◌&&◌, ◌≡◌, refl, List, [], ◌∷◌, ◌++◌, map, ℕ, zero, suc, ◌-◌, ℤ, pos, neg_ℤ, set, drop, length, replicate, Result, Ok}
use Rattle.rules.specs.declared.Regular.{Regular}
use Rattle.rules.specs.declared.Complex.{Complex}
use Rattle.rules.specs.declared.Venue.{Venue}
use Rattle.rules.specs.declared.Legging.{Legging}
use Rattle.rules.specs.declared.Listed.{Listed}
use Rattle.rules.specs.declared.Generations.{Generations}
use Rattle.rules.specs.declared.Settings.{Settings}
use Rattle.rules.specs.declared.Refusal.{Refusal}
use Rattle.rules.specs.declared.Message.{Message}
use Rattle.rules.specs.declared.Message.TheVariants.{Order, TwoLeg, Cancel, Away, Status, Sweep}
use Rattle.rules.specs.declared.Cause.TheVariants.{Executed, OutOfBand, NotOpen}
use Rattle.rules.specs.Words.{buy, sell, closed, opened, no_legging, fresh_venue, with_legging, with_generations}
use Rattle.rules.specs.Bytes.{kind_field}
use Rattle.rules.specs.Messages.{encode_message}
use Rattle.rules.specs.Records.{Report, answer, trade, pair, generated, removed, crossed, cancelled, encode, encode_all, record_of}
use Rattle.rules.specs.Records.{records, sheet}
use Rattle.rules.specs.Prices.{in_band}
use Rattle.rules.specs.Refusals.{decoded, in_range, off_increment}
use Rattle.rules.specs.Step.{set_away}
use Rattle.rules.specs.Calls.{run, run_upon, one, settings}
use Rattle.rules.specs.Opened.{opened-rules}

-- What is tried -------------------------------------------------------------------------------

pub data Trial : Type 0 where
  -- a run over bytes, in a report memory of a length: its number, the messages done, and the records
  session : (room : ℕ) (bytes : List ℕ) (number done : ℕ) → List Report → Trial
  -- one message's bytes upon a venue, so many messages having gone before: the same, and the venue returned
  upon : (v : Venue) (before room : ℕ) (bytes : List ℕ) (number done : ℕ) → List Report → (w : Venue) → Trial
  -- one message's bytes, accepted upon the venue that `legged` leaves, and its records
  next : (bytes : List ℕ) → List Report → Trial
  -- a run upon a venue, so many messages having gone before: the same, and the venue returned
  onward : (v : Venue) (before room : ℕ) (bytes : List ℕ) (number done : ℕ) → List Report → (w : Venue) → Trial
  -- a net t against O, which is the offer of series 1 less the bid of series 0
  band : (bid offer : ℕ) (t : ℤ) → Bool → Trial
  -- a message's fields in their ranges, and its price on the increment
  ranged : Message → Bool → Trial
  -- the bytes of a message, both ways, and of a record
  taken : (bytes : List ℕ) → Message → Trial
  told : Report → (bytes : List ℕ) → Trial
  -- a number
  counted : (is should : ℕ) → Trial
  -- the settings of a venue at a message number
  inforce : Venue → (number : ℕ) → Settings → Trial

pub data Outcome : Type 0 where
  ended : (number done written : ℕ) → (read : List Report) → (report : List ℕ) → Outcome
  returned : (number done written : ℕ) → (read : List Report) → (report : List ℕ) → Venue → Outcome
  near : Bool → Outcome
  read : Result Message Refusal → (bytes : List ℕ) → Outcome
  laid : (bytes : List ℕ) → Report → Outcome
  numbered : ℕ → Outcome
  figures : Settings → Outcome

-- a complex order that sells series 0 and buys series 1
pub spread : Complex
spread = record {
  id = 1;
  series1 = 0;
  side1 = sell;
  series2 = 1;
  side2 = buy;
  class = 0;
  limit = pos 0;
  quantity = 1;
  ratio1 = 1;
  ratio2 = 1;
}

pub open1 : (bid : ℕ) → Listed
open1 b = record { status = opened; bid = b; offer = 0 }

-- regular orders, a complex order at place i, a legging order at place n; every series is open, series 0 with an away bid
pub legs_up : (bid : ℕ) (orders : List Regular) (i : ℕ) (c : Complex) (n : ℕ) (l : Legging) → Venue
legs_up b os i c n l = record {
  regular = os ++ drop (length os) fresh_venue.regular;
  complex = set fresh_venue.complex i c;
  legging = set fresh_venue.legging n l;
  series = open1 b ∷ replicate 7 (open1 0);
  last = 3;
  editions = fresh_venue.editions;
  generations = fresh_venue.generations;
  reached = 0;
}

-- a regular order of a shown quantity, and one that shows all of it
pub single : (id series side price quantity display : ℕ) → Regular
single i s d p q x = record { id = i; series = s; side = d; price = p; quantity = q; display = x; reserve = q - x }

pub rest : (id series side price quantity : ℕ) → Regular
rest i s d p q = single i s d p q q

pub both : (id quantity : ℕ) → Complex
both i q = record {
  id = i;
  series1 = 0;
  side1 = buy;
  series2 = 1;
  side2 = buy;
  class = 1;
  limit = pos 205;
  quantity = q;
  ratio1 = 1;
  ratio2 = 1;
}

-- complex order 3 of other ratios and limits
pub by_ratios : (n : ℤ) (r q : ℕ) → Complex
by_ratios n r q = record {
  id = 3;
  series1 = 0;
  side1 = buy;
  series2 = 1;
  side2 = buy;
  class = 1;
  limit = n;
  quantity = 8;
  ratio1 = r;
  ratio2 = q;
}

pub leg : (parent price quantity : ℕ) → Legging
leg i p q = record { parent = i; price = p; quantity = q }

-- regular orders 1 and 2
pub resting : List Regular
resting = rest 1 0 sell 130 15 ∷ rest 2 1 sell 90 12 ∷ []

-- generations in series 0 and 1 by messages of these numbers
pub numbering : (first second : List ℕ) → Venue → Venue
numbering ms ns v =
    let lastly : List ℕ → Generations = λ ks. record { messages = drop (length ks) (replicate 20 0) ++ ks } in
    with_generations v (lastly ms ∷ lastly ns ∷ drop 2 fresh_venue.generations)

-- the starred trials' offers and complex order 3 with legging orders, and such generations
pub busy : (leggings : List Legging) (first second : List ℕ) → Venue
busy ls ms ns = numbering ms ns (with_legging (legs_up 0 resting 0 (both 3 8) 0 no_legging) (ls ++ drop (length ls) fresh_venue.legging))

-- what `legged` leaves: complex order 3 has legging orders at 115 and 75
pub legged_venue : Venue
legged_venue = busy (leg 3 115 8 ∷ no_legging ∷ leg 3 75 8 ∷ []) (5 ∷ []) (5 ∷ [])

pub outcome : Trial → Outcome
outcome (session room bytes number done rs) =
    let c = run room bytes in
    ended c.returned.number c.returned.done c.returned.written (records c.report) c.report
outcome (upon v before room bytes number done rs w) =
    let c = one v before room bytes in
    returned c.returned.number c.returned.done c.returned.written (records c.report) c.report c.returned.venue
outcome (next bytes rs) =
    let c = one legged_venue 5 100 bytes in
    ended c.returned.number c.returned.done c.returned.written (records c.report) c.report
outcome (onward v before room bytes number done rs w) =
    let c = run_upon v before room bytes in
    returned c.returned.number c.returned.done c.returned.written (records c.report) c.report c.returned.venue
outcome (band bid offer t b) = near (in_band (set_away 1 0 offer (set_away 0 bid 0 fresh_venue)) spread t)
outcome (ranged m b) = near (in_range (kind_field (encode_message m)) m && not (off_increment fresh_venue m))
outcome (taken bytes m) = read (decoded bytes) (encode_message m)
outcome (told r bytes) = laid (encode r) (record_of bytes)
outcome (counted is should) = numbered is
outcome (inforce v n s) = figures (settings v n)

pub expected : Trial → Outcome
expected (session room bytes number done rs) = ended number done (length (encode_all rs)) rs (sheet room rs)
expected (upon v before room bytes number done rs w) = returned number done (length (encode_all rs)) rs (sheet room rs) w
expected (next bytes rs) = ended 0 1 (length (encode_all rs)) rs (sheet 100 rs)
expected (onward v before room bytes number done rs w) = returned number done (length (encode_all rs)) rs (sheet room rs) w
expected (band bid offer t b) = near b
expected (ranged m b) = near b
expected (taken bytes m) = read (Ok m) bytes
expected (told r bytes) = laid bytes r
expected (counted is should) = numbered should
expected (inforce v n s) = figures s

-- Messages ------------------------------------------------------------------------------------

-- the net of a credit of n
pub minus : ℕ → ℤ
minus n = neg_ℤ (pos n)

pub opens : (series : ℕ) → List ℕ
opens s = encode_message (Status s opened)

pub closes : (series : ℕ) → List ℕ
closes s = encode_message (Status s closed)

-- kind 1, and kind 9
pub enters : (id series side price quantity : ℕ) → List ℕ
enters id s d p q = encode_message (Order (rest id s d p q))

pub reserves : (id series side price quantity display : ℕ) → List ℕ
reserves id s d p q x = encode_message (Order (single id s d p q x))

-- both legs of side d, in series a and b, class 1
pub pair_up : (id a b d : ℕ) (n : ℤ) (quantity : ℕ) → List ℕ
pair_up id a b d n q =
    encode_message (TwoLeg (record {
      id = id;
      series1 = a;
      side1 = d;
      series2 = b;
      side2 = d;
      class = 1;
      limit = n;
      quantity = q;
      ratio1 = 1;
      ratio2 = 1;
    }))

-- buy series 0 and buy series 1, class 1
pub buys_both : (id : ℕ) (n : ℤ) (quantity : ℕ) → List ℕ
buys_both id n q = pair_up id 0 1 buy n q

pub cancels : (id : ℕ) → List ℕ
cancels id = encode_message (Cancel id)

pub sweeps : List ℕ
sweeps = encode_message Sweep

-- "Offers 130 (15) in series 0, 90 (12) in 1; buy both."
pub opening : List ℕ
opening = opens 0 ++ opens 1 ++ enters 1 0 sell 130 15 ++ enters 2 1 sell 90 12

pub accepted : (first count : ℕ) → List Report
accepted n zero = []
accepted n (suc k) = answer n 0 0 0 ∷ accepted (suc n) k

-- "Away offers 60 and 40 added"
pub away_added : List ℕ
away_added = encode_message (Away 0 0 60) ++ encode_message (Away 1 0 40)

pub starred : List Trial
starred =
    -- "N 205, 8: p 115 and 75."
    session 200 (opening ++ buys_both 3 (pos 205) 8) 0 5
    (accepted 1 4 ++ (answer 5 0 5 2 ∷ generated 3 0 0 115 115 8 ∷ generated 3 1 0 75 75 8 ∷ []))
    -- "N 203, 8: 113 shown 110, 73 shown 70."
    ∷ session 200 (opening ++ buys_both 3 (pos 203) 8) 0 5
    (accepted 1 4 ++ (answer 5 0 5 2 ∷ generated 3 0 0 113 110 8 ∷ generated 3 1 0 73 70 8 ∷ []))
    -- "N 205, 20: quantities 12 and 15."
    ∷ session 200 (opening ++ buys_both 3 (pos 205) 20) 0 5
    (accepted 1 4 ++ (answer 5 0 5 2 ∷ generated 3 0 0 115 115 12 ∷ generated 3 1 0 75 75 15 ∷ []))
    -- "N 220, 8: legs in, no 67."
    ∷ session 200 (opening ++ buys_both 3 (pos 220) 8) 0 5
    (accepted 1 4 ++ (answer 5 0 0 0 ∷ trade 0 0 130 8 3 1 ∷ trade 1 0 90 8 3 2 ∷ pair 3 (pos 220) 8 ∷ []))
    -- "Away offers 60 and 40 added, N 105, 8: 15 in series 0 and none in 1 (-25)."
    ∷ session 200 (opening ++ away_added ++ buys_both 3 (pos 105) 8) 0 7
    (accepted 1 6 ++ (answer 7 0 1 1 ∷ generated 3 0 0 15 15 8 ∷ []))
    -- "The same with N 106: none."
    ∷ session 200 (opening ++ away_added ++ buys_both 3 (pos 106) 8) 0 7 (accepted 1 7)
    -- "O -200: -190 in band, -189 not."
    ∷ band 300 100 (minus 190) true
    ∷ band 300 100 (minus 189) false
    -- "O 0: 0 in, 1 not."
    ∷ band 100 100 (pos 0) true
    ∷ band 100 100 (pos 1) false
    -- a net above; "never if a market best is missing"
    ∷ band 100 300 (pos 210) true
    ∷ band 100 300 (pos 211) false
    ∷ band 0 100 (minus 1000) false
    ∷ band 100 0 (minus 1000) false
    -- "Sell 6 at 115 to 115 regular 2 and legging 8: 2, then 4."
    ∷ session 400 (opening ++ buys_both 3 (pos 205) 8 ++ enters 4 0 buy 115 2 ++ enters 5 0 sell 115 6) 0 7
    (accepted 1 4 ++ (answer 5 0 5 2 ∷ generated 3 0 0 115 115 8 ∷ generated 3 1 0 75 75 8 ∷ answer 6 0 5 2
    ∷ answer 7 0 0 0 ∷ trade 0 1 115 2 5 4 ∷ trade 0 1 115 4 5 3 ∷ trade 1 0 90 4 3 2 ∷ pair 3 (pos 205) 4
    ∷ removed 3 0 0 Executed ∷ removed 3 1 0 Executed ∷ []))
    -- "Empty list: no record."
    ∷ session 50 [] 0 0 []
    -- the printed session
    ∷ session 300 (opening ++ buys_both 3 (pos 205) 8 ++ enters 4 0 sell 115 5) 0 6
    (accepted 1 4 ++ (answer 5 0 5 2 ∷ generated 3 0 0 115 115 8 ∷ generated 3 1 0 75 75 8
    ∷ answer 6 0 0 0 ∷ trade 0 1 115 5 4 3 ∷ trade 1 0 90 5 3 2 ∷ pair 3 (pos 205) 5
    ∷ removed 3 0 0 Executed ∷ removed 3 1 0 Executed ∷ []))
    ∷ []

-- any two legs, of a class
pub two_leg : (id s d t e class : ℕ) (n : ℤ) (quantity : ℕ) → List ℕ
two_leg id s d t e k n q =
    encode_message (TwoLeg (record {
      id = id;
      series1 = s;
      side1 = d;
      series2 = t;
      side2 = e;
      class = k;
      limit = n;
      quantity = q;
      ratio1 = 1;
      ratio2 = 1;
    }))

-- complex order 3 has legging orders at 115 and 75
pub legged : List ℕ
legged = opening ++ buys_both 3 (pos 205) 8

pub legged_sheet : List Report
legged_sheet = accepted 1 4 ++ (answer 5 0 5 2 ∷ generated 3 0 0 115 115 8 ∷ generated 3 1 0 75 75 8 ∷ [])

-- an away market in series 0 and 1, for the band
pub quotes : (bid0 offer0 bid1 offer1 : ℕ) → List ℕ
quotes a b c d = opens 0 ++ opens 1 ++ encode_message (Away 0 a b) ++ encode_message (Away 1 c d)

-- Bids of 100 and p, then complex order 3 would buy both at 150, and complex order 4 sells both at N or better. No offers but away.
pub bidding : (p : ℕ) (n : ℤ) → List ℕ
bidding p n = quotes 0 101 0 51 ++ enters 1 0 buy 100 5 ++ enters 2 1 buy p 5 ++ buys_both 3 (pos 150) 5 ++ pair_up 4 0 1 sell n 3

-- Complex orders 1 and 2 would buy both, at N and at 190; then offers of 100 and 90 come.
pub asked : (n : ℤ) → List ℕ
asked n = quotes 95 105 95 105 ++ buys_both 1 n 5 ++ two_leg 2 1 buy 0 buy 1 (pos 190) 5 ++ enters 3 0 sell 100 5 ++ enters 4 1 sell 90 5

-- Of rules that every law and theorem leaves open, a trial each (an edit of must-fail/ is refused by it alone); the others are the crate
-- trials'
pub telling : List Trial
telling =
    -- "both its series are open (else cause 6)"
    next (encode_message (Status 0 0)) (answer 6 0 0 0 ∷ removed 3 0 0 NotOpen ∷ removed 3 1 0 NotOpen ∷ [])
    -- request (a), "Cause 5 now comes before cause 2": both apply at place 0, 5 alone at place 2
    ∷ next (cancels 2) (answer 6 0 0 0 ∷ cancelled 2 12 ∷ removed 3 0 0 OutOfBand ∷ removed 3 1 0 OutOfBand ∷ [])
    -- "at equal price by class 1 while this is class 0": not by class 0
    ∷ session 200 (opening ++ two_leg 3 0 buy 1 buy 0 (pos 205) 8 ++ two_leg 4 0 buy 1 buy 0 (pos 205) 9) 0 6
    (legged_sheet ++ (answer 6 0 5 2 ∷ []))
    -- a party's net is the one dealt at, not its limit: -150 is what the bids give the taker, whose limit is -140; equal is not above
    ∷ session 200 (bidding 50 (minus 140)) 0 8 (accepted 1 8 ++ (crossed 4 3 (minus 150) 3 ∷ []))
    -- of equal limits the earliest crosses first
    ∷ session 200 (asked (pos 190) ++ pair_up 5 0 1 sell (minus 185) 3) 0 9 (accepted 1 9 ++ (crossed 5 1 (minus 190) 3 ∷ []))
    ∷ []

-- `unfolding tried` opens every trial, as `opened-rules` does every definition
unfoldable pub tried : Unit {0}
unfolding outcome expected spread open1 legs_up single rest both by_ratios leg resting numbering busy legged_venue minus opens closes enters
    reserves pair_up buys_both cancels sweeps opening accepted away_added starred two_leg legged legged_sheet quotes bidding asked telling
tried = tt

pub starred-hold : map outcome starred ≡ map expected starred
unfolding opened-rules tried
starred-hold = refl

pub telling-hold : map outcome telling ≡ map expected telling
unfolding opened-rules tried
telling-hold = refl
