-- Document 01, "Trials", but for the starred ones (rules Trials): the printed session, the wrongs named there, sessions for what these and the theorems
-- leave open, and the sessions of requests.
use Rattle.std.specs.Prelude.{true, false, ◌≡◌, refl, List, [], ◌∷◌, ◌++◌, map, ℕ, zero, suc, ◌+◌, ℤ, pos, neg_ℤ, set, drop, length, replicate, if◌then◌else◌, Ok, Err}
use Rattle.std.proofs.Common.{sym, ap₂, ◌∙◌}
use Rattle.std.proofs.lemmas.List.{map-append}
use Rattle.rules.specs.declared.Regular.{Regular}
use Rattle.rules.specs.declared.Complex.{Complex}
use Rattle.rules.specs.declared.Venue.{Venue}
use Rattle.rules.specs.declared.Legging.{Legging}
use Rattle.rules.specs.declared.Listed.{Listed}
use Rattle.rules.specs.declared.Edition.{Edition}
use Rattle.rules.specs.declared.Settings.{Settings}
use Rattle.rules.specs.declared.Cause.{Cause}
use Rattle.rules.specs.declared.Refusal.TheVariants.{WrongLength}
use Rattle.rules.specs.declared.Message.{Message}
use Rattle.rules.specs.declared.Message.TheVariants.{Order, TwoLeg, Cancel, Away, Status, Sweep, Increment, Percent, LimitedSweep}
use Rattle.rules.specs.declared.Cause.TheVariants.{Worse, Unpaired, Executed, Withdrawn, OutOfBand, NotOpen, Replaced, Touched, NoUnit}
use Rattle.rules.specs.declared.Verdict.TheVariants.{Stands, Fails}
use Rattle.rules.specs.Words.{buy, sell, closed, opened, no_regular, no_complex, no_legging, not_listed, no_edition, fresh_venue, with_regular, with_complex, with_legging, with_series, with_editions, with_last, with_reached}
use Rattle.rules.specs.Settings.{is_increment}
use Rattle.rules.specs.Messages.{length_of, encode_message}
use Rattle.rules.specs.Records.{Report, answer, trade, pair, generated, removed, crossed, cancelled, looked}
use Rattle.rules.specs.Standing.{verdict_number}
use Rattle.rules.specs.Refusals.{decoded_number, refusal_number}
use Rattle.rules.specs.Step.{set_away, set_status}
use Rattle.rules.specs.Calls.{run, one, settings}
use Rattle.rules.specs.Sums.{total, contracts, contracts_at, paired, crossed_for, cancelled_of, generated_of, open_regular, open_complex}
use Rattle.rules.specs.Opened.{opened-rules}
use Rattle.rules.specs.Trials.{Trial, session, upon, next, onward, band, ranged, taken, told, counted, inforce, open1, legs_up, single, rest, both, by_ratios, leg, resting, numbering, busy, legged_venue, outcome, expected, minus, opens, closes, enters, reserves, pair_up, buys_both, cancels, sweeps, opening, accepted, away_added, starred, two_leg, legged, legged_sheet, quotes, bidding, asked, tried, starred-hold}

-- The trials ----------------------------------------------------------------------------------

-- What 01 names as wrong ----------------------------------------------------------------------

-- A sell order hits order 6's legging order in series 2, and 6's other leg takes the offer of 90 in series 0. Order 5's legging order, at 90 in
-- series 0, then fails (its band), and hides the offer of 100 from order 2's, which fails with it.
together : List ℕ
together =
    opens 0 ++ opens 1 ++ opens 2 ++ encode_message (Away 0 80 0) ++ encode_message (Away 1 0 60)
    ++ enters 1 0 sell 100 10
    ++ pair_up 2 1 0 buy (pos 150) 5
    ++ enters 3 0 sell 90 5
    ++ enters 4 2 sell 60 10
    ++ encode_message (TwoLeg (record { id = 5; series1 = 0; side1 = sell; series2 = 2; side2 = buy; class = 1; limit = minus 30; quantity = 3; ratio1 = 1; ratio2 = 1 }))
    ++ pair_up 6 2 0 buy (pos 130) 5
    ++ enters 7 2 sell 40 10

pub wrongs : List Trial
wrongs =
    -- "executing at the displayed price": it is 113, shown 110
    session 400 (opening ++ buys_both 3 (pos 203) 8 ++ enters 4 0 sell 110 5) 0 6
    (accepted 1 4 ++ (answer 5 0 5 2 ∷ generated 3 0 0 113 110 8 ∷ generated 3 1 0 73 70 8
    ∷ answer 6 0 0 0 ∷ trade 0 1 113 5 4 3 ∷ trade 1 0 90 5 3 2 ∷ pair 3 (pos 203) 5
    ∷ removed 3 0 0 Executed ∷ removed 3 1 0 Executed ∷ []))
    -- "pairing the other leg with a legging order": order 3 hides the offers of series 1 from order 5, whose leg in series 0 makes none
    ∷ session 400 (opening ++ encode_message (Away 1 60 0)
    ++ encode_message (TwoLeg (record { id = 3; series1 = 1; side1 = sell; series2 = 0; side2 = buy; class = 1; limit = pos 45; quantity = 4; ratio1 = 1; ratio2 = 1 }))
    ++ buys_both 5 (pos 195) 4) 0 7
    (accepted 1 5 ++ (answer 6 0 8 1 ∷ generated 3 1 1 85 85 4 ∷ answer 7 0 12 2 ∷ generated 5 1 0 65 65 4 ∷ []))
    -- "testing removals one by one"
    ∷ session 500 together 0 12
    (accepted 1 6 ++ (answer 7 0 4 1 ∷ generated 2 1 0 50 50 5 ∷ answer 8 0 4 1 ∷ answer 9 0 4 1
    ∷ answer 10 0 6 2 ∷ generated 5 0 1 90 90 3 ∷ answer 11 0 23 4 ∷ generated 6 2 0 40 40 5 ∷ generated 6 0 0 70 70 5
    ∷ answer 12 0 0 0 ∷ trade 2 1 40 5 7 6 ∷ trade 0 0 90 5 6 3 ∷ pair 6 (pos 130) 5 ∷ removed 6 0 0 Executed ∷ removed 6 2 0 Executed
    ∷ removed 5 0 1 OutOfBand ∷ removed 2 1 0 Unpaired ∷ []))
    -- "giving a credit's band as O + 5 percent of O (-210 for O -200)"
    ∷ band 300 100 (minus 210) true
    ∷ band 300 100 (minus 200) true
    ∷ []

-- What no starred trial and no theorem tells ------------------------------------------------------

-- Choices that keep every venue sound and every account even, whichever way they fall: who goes first, what is in band, what is asked of a price. One
-- session for each, at the edge where there is one.

-- request (g): r of a series and q of another, class 1; and both of side d in series 0 and 1
weighing : (id s d r t e q : ℕ) (n : ℤ) (quantity : ℕ) → List ℕ
weighing id s d r t e q n k =
    encode_message (TwoLeg (record { id = id; series1 = s; side1 = d; series2 = t; side2 = e; class = 1; limit = n; quantity = k; ratio1 = r; ratio2 = q }))

ratioed : (id d r q : ℕ) (n : ℤ) (quantity : ℕ) → List ℕ
ratioed id d r q n k = weighing id 0 d r 1 d q n k

-- no regular orders, a market of 95 to 105 in series 0 and 1
quoted : List ℕ
quoted = opens 0 ++ opens 1 ++ encode_message (Away 0 95 105) ++ encode_message (Away 1 95 105)

-- order 2's legging order sells at 110 in series 1, with the bid of 90 in series 0 for its other leg; order 4 would buy in series 0 at N less 50
relying : (n : ℤ) → List ℕ
relying n =
    opens 0 ++ opens 1 ++ opens 2 ++ enters 1 0 buy 90 10 ++ encode_message (Away 1 80 0)
    ++ pair_up 2 0 1 sell (minus 200) 5
    ++ enters 3 2 sell 50 5 ++ encode_message (Away 0 0 120)
    ++ pair_up 4 0 2 buy n 5

in_auction : (series : ℕ) → List ℕ
in_auction s = encode_message (Status s 2)

-- complex order 1 rested before there were offers; it would leg in
resting_before : List ℕ
resting_before = opens 0 ++ opens 1 ++ buys_both 1 (pos 220) 2 ++ enters 2 0 sell 130 5 ++ enters 3 1 sell 90 5

-- orders 5 and 6 are reversed and their limits meet, but at 215 out of band until order 7 takes the offer at 100 in the first sweep
kept_apart : List ℕ
kept_apart =
    opens 0 ++ opens 1 ++ opens 2 ++ encode_message (Away 1 0 100)
    ++ enters 1 0 sell 100 5 ++ enters 2 0 sell 130 15 ++ enters 3 0 buy 90 20 ++ enters 4 1 buy 60 20
    ++ pair_up 5 0 1 sell (minus 211) 4
    ++ pair_up 6 1 0 buy (pos 215) 3
    ++ pair_up 7 0 2 buy (pos 150) 7
    ++ enters 8 2 sell 50 6

pub choices : List Trial
choices =
    -- "best own price first, then regular by id"
    session 150 (opens 0 ++ enters 1 0 sell 110 5 ++ enters 2 0 sell 105 5 ++ enters 3 0 sell 105 5 ++ enters 4 0 buy 110 12) 0 5
    (accepted 1 4 ++ (answer 5 0 0 0 ∷ trade 0 0 105 5 4 2 ∷ trade 0 0 105 5 4 3 ∷ trade 0 0 110 2 4 1 ∷ []))
    -- request (a), "Cause 5 now comes before cause 2": both apply at place 0, 5 alone at place 2
    ∷ session 200 (legged ++ cancels 2) 0 6
    (legged_sheet ++ (answer 6 0 0 0 ∷ cancelled 2 12 ∷ removed 3 0 0 OutOfBand ∷ removed 3 1 0 OutOfBand ∷ []))
    -- the same with an away offer that keeps N in band: 2 alone at place 0, and place 2 stands
    ∷ session 200 (opening ++ encode_message (Away 1 0 95) ++ buys_both 3 (pos 205) 8 ++ cancels 2) 0 7
    (accepted 1 5 ++ (answer 6 0 5 2 ∷ generated 3 0 0 115 115 8 ∷ generated 3 1 0 75 75 8 ∷ answer 7 0 4 1 ∷ cancelled 2 12 ∷ removed 3 0 0 Unpaired ∷ []))
    -- "take the highest N, then earliest, at the resting limit", "whichever leg is named first"
    ∷ session 200 (quoted ++ buys_both 1 (pos 190) 5 ++ buys_both 2 (pos 195) 5 ++ two_leg 3 1 buy 0 buy 0 (pos 195) 5 ++ pair_up 4 0 1 sell (minus 190) 12) 0 8
    (accepted 1 8 ++ (crossed 4 2 (minus 195) 5 ∷ crossed 4 3 (minus 195) 5 ∷ crossed 4 1 (minus 190) 2 ∷ []))
    -- "both nets in band": 221 is not in the maker's
    ∷ session 150 (quoted ++ buys_both 1 (pos 221) 5 ++ buys_both 2 (pos 220) 5 ++ pair_up 3 0 1 sell (minus 190) 5) 0 7
    (accepted 1 7 ++ (crossed 3 2 (minus 220) 5 ∷ []))
    -- "the best own prices, legging included, net ≤ N": 115 and 75 are -190 to a seller
    ∷ session 200 (legged ++ pair_up 4 0 1 sell (minus 190) 5) 0 6 (legged_sheet ++ (answer 6 0 0 0 ∷ removed 3 0 0 Touched ∷ removed 3 1 0 Touched ∷ []))
    ∷ session 200 (legged ++ pair_up 4 0 1 sell (minus 191) 5) 0 6 (legged_sheet ++ (answer 6 0 5 2 ∷ []))
    -- "while best regular prices net ≤ N and in band": 220 is out of the band of 190, and in that of 210, where N 240 is not
    ∷ session 150 (opening ++ encode_message (Away 0 0 100) ++ buys_both 3 (pos 220) 8) 0 6 (accepted 1 6)
    ∷ session 200 (opening ++ encode_message (Away 0 0 120) ++ buys_both 3 (pos 240) 8) 0 6
    (accepted 1 6 ++ (trade 0 0 130 8 3 1 ∷ trade 1 0 90 8 3 2 ∷ pair 3 (pos 220) 8 ∷ []))
    -- "nor the away price opposite": p is 100
    ∷ session 150 (opens 0 ++ opens 1 ++ enters 1 1 sell 90 12 ++ encode_message (Away 0 0 100) ++ buys_both 2 (pos 190) 3) 0 5 (accepted 1 5)
    ∷ session 150 (opens 0 ++ opens 1 ++ enters 1 1 sell 90 12 ++ encode_message (Away 0 0 101) ++ buys_both 2 (pos 190) 3) 0 5
    (accepted 1 4 ++ (answer 5 0 1 1 ∷ generated 2 0 0 100 100 3 ∷ []))
    -- "or at equal price by class 1 while this is class 0"
    ∷ session 300 (legged ++ two_leg 4 0 buy 1 buy 0 (pos 205) 9) 0 6
    (legged_sheet ++ (answer 6 0 5 2 ∷ removed 3 0 0 Replaced ∷ generated 4 0 0 115 115 9 ∷ removed 3 1 0 Replaced ∷ generated 4 1 0 75 75 9 ∷ []))
    ∷ session 200 (legged ++ buys_both 4 (pos 205) 9) 0 6 (legged_sheet ++ (answer 6 0 5 2 ∷ []))
    -- "no other standing order would then fail its test": a bid of 91 would hide that of 90
    ∷ session 200 (relying (pos 141)) 0 9 (accepted 1 5 ++ (answer 6 0 8 1 ∷ generated 2 1 1 110 110 5 ∷ answer 7 0 8 1 ∷ answer 8 0 8 1 ∷ answer 9 0 8 1 ∷ []))
    ∷ session 200 (relying (pos 140)) 0 9
    (accepted 1 5 ++ (answer 6 0 8 1 ∷ generated 2 1 1 110 110 5 ∷ answer 7 0 8 1 ∷ answer 8 0 8 1 ∷ answer 9 0 9 2 ∷ generated 4 0 0 90 90 5 ∷ []))
    -- a series in auction: orders trade and leg in, no legging order is made; a sweep passes over a closed one alone
    ∷ session 200 (in_auction 0 ++ opens 1 ++ enters 1 0 sell 130 15 ++ enters 2 1 sell 90 12 ++ buys_both 3 (pos 205) 8 ++ enters 4 0 buy 130 1) 0 6
    (accepted 1 6 ++ (trade 0 0 130 1 4 1 ∷ []))
    ∷ session 200 (resting_before ++ in_auction 0 ++ sweeps) 0 7 (accepted 1 7 ++ (trade 0 0 130 2 1 2 ∷ trade 1 0 90 2 1 3 ∷ pair 1 (pos 220) 2 ∷ []))
    ∷ session 200 (resting_before ++ closes 0 ++ sweeps) 0 7 (accepted 1 7)
    -- a status leaves the away prices: N 105 as above, 15 in series 0 alone
    ∷ session 200 (opening ++ away_added ++ opens 0 ++ opens 1 ++ buys_both 3 (pos 105) 8) 0 9
    (accepted 1 8 ++ (answer 9 0 1 1 ∷ generated 3 0 0 15 15 8 ∷ []))
    -- "held at a worse price": its own, after a better offer in series 1; the other leg's p is as it was, and stays
    ∷ session 200 (legged ++ enters 4 1 sell 85 12 ++ sweeps) 0 7
    (legged_sheet ++ (answer 6 0 5 2 ∷ answer 7 0 5 2 ∷ removed 3 0 0 Replaced ∷ generated 3 0 0 120 120 8 ∷ []))
    -- in a sweep the order whose turn it is takes, at the other's limit
    ∷ session 150 (opens 0 ++ opens 1 ++ buys_both 1 (pos 200) 5 ++ pair_up 2 0 1 sell (minus 195) 3 ++ encode_message (Away 0 95 105) ++ encode_message (Away 1 95 105) ++ sweeps) 0 7
    (accepted 1 7 ++ (crossed 1 2 (pos 195) 3 ∷ []))
    -- sells, by tens: 145 is shown at 150, and a hit's other leg takes the bid
    ∷ session 250 (opens 6 ++ opens 7 ++ enters 1 6 buy 130 15 ++ enters 2 7 buy 90 12 ++ pair_up 3 6 7 sell (minus 235) 8 ++ enters 4 6 buy 150 3) 0 6
    (accepted 1 4 ++ (answer 5 0 40960 2 ∷ generated 3 6 1 145 150 8 ∷ generated 3 7 1 105 110 8
    ∷ answer 6 0 0 0 ∷ trade 6 0 145 3 4 3 ∷ trade 7 1 90 3 3 2 ∷ pair 3 (minus 235) 3 ∷ removed 3 6 1 Executed ∷ removed 3 7 1 Executed ∷ []))
    -- "Sweep: all this for each resting order, earliest first, but settle once and then generate"; "the taker's first"
    ∷ session 400 (kept_apart ++ sweeps ++ sweeps) 0 14
    (accepted 1 8 ++ (answer 9 0 8 1 ∷ generated 5 1 1 121 125 4 ∷ answer 10 0 8 1 ∷ answer 11 0 8 1 ∷ answer 12 0 8 1
    ∷ answer 13 0 28 3 ∷ trade 0 0 100 5 7 1 ∷ trade 2 0 50 5 7 8 ∷ pair 7 (pos 150) 5 ∷ generated 6 1 0 85 85 3 ∷ generated 7 2 0 20 20 2
    ∷ answer 14 0 24 2 ∷ crossed 5 6 (minus 215) 3 ∷ removed 5 1 1 Executed ∷ removed 6 1 0 Executed ∷ generated 5 1 1 121 125 1 ∷ []))
    ∷ []

-- Request (b) -----------------------------------------------------------------------------------

-- Complex order 1 would buy both at 208; then offers of 110 and 100 come. The away offers net 205.
dearer : List ℕ
dearer = quotes 100 107 95 98 ++ buys_both 1 (pos 208) 5 ++ enters 2 0 sell 110 5 ++ enters 3 1 sell 100 5

-- "neither party's net is above what best regular prices of both legs would give that party, where both legs have one"
pub respecting : List Trial
respecting =
    -- a party's net is the one dealt at, not its limit: -150 is what the bids give the taker, whose limit is -140; equal is not above
    session 200 (bidding 50 (minus 140)) 0 8 (accepted 1 8 ++ (crossed 4 3 (minus 150) 3 ∷ []))
    -- each party by itself: the taker's legs have bids, which give it -155, and the maker's have no offers. It legs in
    ∷ session 200 (bidding 55 (minus 150)) 0 8
    (accepted 1 8 ++ (trade 0 1 100 3 4 1 ∷ trade 1 1 55 3 4 2 ∷ pair 4 (minus 155) 3 ∷ []))
    -- before the highest N is taken: at 195 order 1 would pay more than the offers' 190, so order 2 crosses, at 190 itself
    ∷ session 200 (asked (pos 195) ++ pair_up 5 0 1 sell (minus 185) 3) 0 9 (accepted 1 9 ++ (crossed 5 2 (minus 190) 3 ∷ []))
    ∷ session 200 (asked (pos 190) ++ pair_up 5 0 1 sell (minus 185) 3) 0 9 (accepted 1 9 ++ (crossed 5 1 (minus 190) 3 ∷ []))
    -- "A resting order that fails it may still cross in a later sweep": an offer is gone, and one leg has none
    ∷ session 250 (asked (pos 195) ++ pair_up 5 0 1 sell (minus 195) 3 ++ cancels 3 ++ sweeps) 0 11
    (accepted 1 9 ++ (answer 10 0 0 0 ∷ cancelled 3 5 ∷ answer 11 0 1 1 ∷ crossed 1 5 (pos 195) 3 ∷ generated 2 0 0 100 100 5 ∷ []))
    -- best regular prices: neither the away offers nor order 5's legging order at 105 make the offers' 210 less
    ∷ session 250 (dearer ++ opens 2 ++ enters 4 2 sell 50 5 ++ two_leg 5 0 sell 2 buy 1 (minus 55) 5 ++ pair_up 6 0 1 sell (minus 208) 3) 0 11
    (accepted 1 9 ++ (answer 10 0 2 1 ∷ generated 5 0 1 105 105 5 ∷ answer 11 0 2 1 ∷ crossed 6 1 (minus 208) 3 ∷ []))
    -- "where both legs have one": order 1's first leg has an offer of 100, and its second none
    ∷ session 150 (quoted ++ buys_both 1 (pos 195) 5 ++ enters 2 0 sell 100 5 ++ pair_up 3 0 1 sell (minus 195) 3) 0 7 (accepted 1 7 ++ (crossed 3 1 (minus 195) 3 ∷ []))
    ∷ []

-- Request (e) -----------------------------------------------------------------------------------

-- a venue with one order to sell in series 0 at 100, with so much left, shown quantity and reserve
with_one : (quantity display reserve : ℕ) → Venue
with_one q x r =
    let o : Regular = record { id = 1; series = 0; side = sell; price = 100; quantity = q; display = x; reserve = r } in
    with_last (with_regular fresh_venue (set fresh_venue.regular 0 o)) 1

-- as `legged`, but the offer of 12 in series 1 shows 8
half : List ℕ
half = opens 0 ++ opens 1 ++ enters 1 0 sell 130 15 ++ reserves 2 1 sell 90 12 8 ++ buys_both 3 (pos 205) 8

-- kind 9 showing 5 of 5, which is kind 1; and kind 9 with the length of kind 1
all_shown : List ℕ
all_shown = 22 ∷ 0 ∷ 9 ∷ 0 ∷ 11 ∷ 0 ∷ 0 ∷ 0 ∷ 0 ∷ 1 ∷ 100 ∷ 0 ∷ 0 ∷ 0 ∷ 5 ∷ 0 ∷ 0 ∷ 0 ∷ 5 ∷ 0 ∷ 0 ∷ 0 ∷ []

too_short : List ℕ
too_short = 18 ∷ 0 ∷ 9 ∷ 0 ∷ 0 ∷ 0 ∷ 0 ∷ 0 ∷ 0 ∷ 1 ∷ 100 ∷ 0 ∷ 0 ∷ 0 ∷ 5 ∷ 0 ∷ 0 ∷ 0 ∷ []

pub reserved : List Trial
reserved =
    -- "At one price all shown size trades by id, then, in trades of its own, all reserve by id": 5 showing 2, 4 showing 3, and 2
    session 300 (reserves 1 0 sell 100 5 2 ++ reserves 2 0 sell 100 4 3 ++ enters 3 0 sell 100 2 ++ enters 4 0 buy 100 13) 0 4
    (accepted 1 4 ++ (trade 0 0 100 2 4 1 ∷ trade 0 0 100 3 4 2 ∷ trade 0 0 100 2 4 3 ∷ trade 0 0 100 3 4 1 ∷ trade 0 0 100 1 4 2 ∷ []))
    -- what a later order shows before the reserve of an earlier one
    ∷ session 200 (reserves 1 0 buy 115 5 2 ++ enters 2 0 buy 115 3 ++ enters 3 0 sell 115 4) 0 3 (accepted 1 3 ++ (trade 0 1 115 2 3 1 ∷ trade 0 1 115 2 3 2 ∷ []))
    -- "in trades of its own": 2 and 2, of one order
    ∷ session 200 (reserves 1 0 buy 115 5 2 ++ enters 2 0 sell 115 4) 0 2 (accepted 1 2 ++ (trade 0 1 115 2 2 1 ∷ trade 0 1 115 2 2 1 ∷ []))
    -- "best own price first": reserve before what shows at a worse price
    ∷ session 200 (reserves 1 0 buy 120 6 1 ++ enters 2 0 buy 115 4 ++ enters 3 0 sell 115 4) 0 3 (accepted 1 3 ++ (trade 0 1 120 1 3 1 ∷ trade 0 1 120 3 3 1 ∷ []))
    ∷ session 300 (reserves 1 0 sell 100 3 1 ++ enters 2 0 sell 105 5 ++ enters 3 0 buy 105 5) 0 3
    (accepted 1 3 ++ (trade 0 0 100 1 3 1 ∷ trade 0 0 100 2 3 1 ∷ trade 0 0 105 2 3 2 ∷ []))
    -- "then the legging order": it is at 115 too
    ∷ session 500 (legged ++ reserves 4 0 buy 115 5 2 ++ enters 5 0 sell 115 9) 0 7
    (legged_sheet ++ (answer 6 0 5 2 ∷ answer 7 0 0 0 ∷ trade 0 1 115 2 5 4 ∷ trade 0 1 115 3 5 4 ∷ trade 0 1 115 4 5 3 ∷ trade 1 0 90 4 3 2
    ∷ pair 3 (pos 205) 4 ∷ removed 3 0 0 Executed ∷ removed 3 1 0 Executed ∷ []))
    -- and before a reserve at a worse price
    ∷ session 500 (legged ++ reserves 4 0 buy 110 5 2 ++ enters 5 0 sell 110 9) 0 7
    (legged_sheet ++ (answer 6 0 5 2 ∷ answer 7 0 0 0 ∷ trade 0 1 115 8 5 3 ∷ trade 1 0 90 8 3 2 ∷ pair 3 (pos 205) 8
    ∷ removed 3 0 0 Executed ∷ removed 3 1 0 Executed ∷ trade 0 1 110 1 5 4 ∷ []))
    -- "each order shows again" once a message, after all its trades: not 2 of its 3 between them
    ∷ session 200 (reserves 1 0 buy 115 5 2 ++ enters 2 0 buy 115 3 ++ enters 3 0 sell 115 7) 0 3
    (accepted 1 3 ++ (trade 0 1 115 2 3 1 ∷ trade 0 1 115 3 3 2 ∷ trade 0 1 115 2 3 1 ∷ []))
    -- and for the next one: order 1 is earlier than order 3, and shows 2 of its 3
    ∷ session 300 (reserves 1 0 sell 100 5 2 ++ enters 2 0 buy 100 2 ++ enters 3 0 sell 100 2 ++ enters 4 0 buy 100 5) 0 4
    (accepted 1 2 ++ (trade 0 0 100 2 2 1 ∷ answer 3 0 0 0 ∷ answer 4 0 0 0 ∷ trade 0 0 100 2 4 1 ∷ trade 0 0 100 2 4 3 ∷ trade 0 0 100 1 4 1 ∷ []))
    -- a sweep's orders together find the shown size once: 3 of 15, for two orders that want 2 each
    ∷ session 300 (buys_both 1 (pos 220) 2 ++ buys_both 2 (pos 220) 2 ++ reserves 3 0 sell 130 15 3 ++ enters 4 1 sell 90 12 ++ sweeps) 0 5
    (accepted 1 5 ++ (trade 0 0 130 2 1 3 ∷ trade 1 0 90 2 1 4 ∷ pair 1 (pos 220) 2 ∷ trade 0 0 130 1 2 3 ∷ trade 1 0 90 1 2 4 ∷ pair 2 (pos 220) 1 ∷ []))
    -- "the lesser of its shown quantity and what is left of it": 3 as it asked, not the 2 that were left of them; 2 of 2
    ∷ session 200 (reserves 1 0 buy 120 6 3 ++ enters 2 0 sell 120 1 ++ enters 3 0 sell 120 3) 0 3
    (accepted 1 2 ++ (trade 0 1 120 1 2 1 ∷ answer 3 0 0 0 ∷ trade 0 1 120 3 3 1 ∷ []))
    ∷ session 300 (reserves 1 0 sell 100 5 4 ++ enters 2 0 buy 100 3 ++ enters 3 0 sell 100 1 ++ enters 4 0 buy 100 3) 0 4
    (accepted 1 2 ++ (trade 0 0 100 3 2 1 ∷ answer 3 0 0 0 ∷ answer 4 0 0 0 ∷ trade 0 0 100 2 4 1 ∷ trade 0 0 100 1 4 3 ∷ []))
    -- the venue left: 2 of 4; and 1 of 1
    ∷ upon (with_one 5 2 3) 0 100 (enters 2 0 buy 100 1) 0 1 (answer 1 0 0 0 ∷ trade 0 0 100 1 2 1 ∷ []) (with_last (with_one 4 2 2) 2)
    ∷ upon (with_one 5 2 3) 0 100 (enters 2 0 buy 100 4) 0 1 (answer 1 0 0 0 ∷ trade 0 0 100 2 2 1 ∷ trade 0 0 100 2 2 1 ∷ []) (with_last (with_one 1 1 0) 2)
    -- an order that arrives takes with all of it; of the 6 left 3 show. "cancelled" tells all that is left
    ∷ session 300 (enters 1 0 sell 100 4 ++ reserves 2 0 buy 100 10 3 ++ enters 3 0 sell 100 5 ++ cancels 2) 0 4
    (accepted 1 2 ++ (trade 0 0 100 4 2 1 ∷ answer 3 0 0 0 ∷ trade 0 1 100 3 3 2 ∷ trade 0 1 100 2 3 2 ∷ answer 4 0 0 0 ∷ cancelled 2 1 ∷ []))
    ∷ session 100 (reserves 1 0 buy 100 10 3 ++ cancels 1) 0 2 (accepted 1 2 ++ (cancelled 1 10 ∷ []))
    -- "legging quantity count shown size only": 4 and 5 of 8
    ∷ session 200 (reserves 1 0 sell 130 15 5 ++ reserves 2 1 sell 90 12 4 ++ buys_both 3 (pos 205) 8) 0 3
    (accepted 1 2 ++ (answer 3 0 5 2 ∷ generated 3 0 0 115 115 4 ∷ generated 3 1 0 75 75 5 ∷ []))
    -- "A complex order takes shown size only"; it shows again before the next message, a sweep
    ∷ session 400 (reserves 1 0 sell 130 15 3 ++ enters 2 1 sell 90 12 ++ buys_both 3 (pos 220) 8 ++ sweeps) 0 4
    (accepted 1 3 ++ (trade 0 0 130 3 3 1 ∷ trade 1 0 90 3 3 2 ∷ pair 3 (pos 220) 3
    ∷ answer 4 0 0 0 ∷ trade 0 0 130 3 3 1 ∷ trade 1 0 90 3 3 2 ∷ pair 3 (pos 220) 3 ∷ []))
    -- "Best price … count shown size only": 135 is the best when what shows at 130 is gone
    ∷ session 300 (reserves 1 0 sell 130 15 4 ++ enters 2 1 sell 90 12 ++ enters 3 0 sell 135 9 ++ buys_both 4 (pos 225) 20) 0 4
    (accepted 1 4 ++ (trade 0 0 130 4 4 1 ∷ trade 1 0 90 4 4 2 ∷ pair 4 (pos 220) 4 ∷ trade 0 0 135 8 4 3 ∷ trade 1 0 90 8 4 2 ∷ pair 4 (pos 225) 8 ∷ []))
    -- O too, and with it the band: 220 is in that of 220, and was not in that of 200
    ∷ session 200 (reserves 1 0 sell 100 15 4 ++ enters 2 1 sell 100 12 ++ enters 3 0 sell 120 9 ++ buys_both 4 (pos 225) 20) 0 4
    (accepted 1 4 ++ (trade 0 0 100 4 4 1 ∷ trade 1 0 100 4 4 2 ∷ pair 4 (pos 200) 4 ∷ trade 0 0 120 8 4 3 ∷ trade 1 0 100 8 4 2 ∷ pair 4 (pos 220) 8 ∷ []))
    -- and request (b): in the sweep order 1 takes what shows at 100, and then no offer in series 0 keeps order 2 from crossing at 195, though 100 and 90 are 190
    ∷ session 250 (quoted ++ pair_up 1 0 2 buy (pos 150) 4 ++ buys_both 2 (pos 195) 5 ++ reserves 3 0 sell 100 15 4 ++ enters 4 1 sell 90 5
    ++ pair_up 5 0 1 sell (minus 195) 3 ++ enters 6 2 sell 50 4 ++ sweeps) 0 11
    (accepted 1 11 ++ (trade 0 0 100 4 1 3 ∷ trade 2 0 50 4 1 6 ∷ pair 1 (pos 150) 4 ∷ crossed 2 5 (pos 195) 3 ∷ []))
    -- and touch: then 120 and the legging order's 60 are more than order 2's 170
    ∷ session 200 (pair_up 1 0 2 buy (pos 150) 4 ++ buys_both 2 (pos 170) 5 ++ reserves 3 0 sell 100 15 4 ++ enters 4 0 sell 120 9 ++ enters 5 3 sell 40 5
    ++ encode_message (Away 1 55 0) ++ two_leg 6 1 sell 3 buy 1 (minus 20) 3 ++ enters 7 2 sell 50 4 ++ sweeps) 0 9
    (accepted 1 6 ++ (answer 7 0 8 1 ∷ generated 6 1 1 60 60 3 ∷ answer 8 0 8 1 ∷ answer 9 0 8 1 ∷ trade 0 0 100 4 1 3 ∷ trade 2 0 50 4 1 7 ∷ pair 1 (pos 150) 4 ∷ []))
    -- "Before settling": 8 of 8 left show again, and order 3's legging orders stand; of 7 left 7 show, and the one for 8 fails
    ∷ session 400 (half ++ enters 4 1 buy 90 4 ++ enters 5 1 buy 90 1) 0 7
    (legged_sheet ++ (answer 6 0 5 2 ∷ trade 1 0 90 4 4 2 ∷ answer 7 0 4 1 ∷ trade 1 0 90 1 5 2 ∷ removed 3 0 0 Unpaired ∷ []))
    -- a hit's other leg takes shown size only, by id: 6 of order 2, though it has 12, and 4 of order 3
    ∷ session 400 (enters 1 0 sell 130 15 ++ reserves 2 1 sell 90 12 6 ++ enters 3 1 sell 90 5 ++ buys_both 4 (pos 205) 10 ++ enters 5 0 sell 115 10) 0 5
    (accepted 1 3 ++ (answer 4 0 5 2 ∷ generated 4 0 0 115 115 10 ∷ generated 4 1 0 75 75 10
    ∷ answer 5 0 0 0 ∷ trade 0 1 115 10 5 4 ∷ trade 1 0 90 6 4 2 ∷ trade 1 0 90 4 4 3 ∷ pair 4 (pos 205) 10 ∷ removed 4 0 0 Executed ∷ removed 4 1 0 Executed ∷ []))
    -- "a given venue where one shows otherwise is unsound": less or more than 2 of 5; a shown quantity above what is left, or none
    ∷ upon (with_one 5 2 3) 0 100 sweeps 0 1 (accepted 1 1) (with_one 5 2 3)
    ∷ upon (with_one 5 2 4) 0 100 sweeps 9 0 [] (with_one 5 2 4)
    ∷ upon (with_one 5 2 0) 0 100 sweeps 9 0 [] (with_one 5 2 0)
    ∷ upon (with_one 2 3 0) 0 100 sweeps 9 0 [] (with_one 2 3 0)
    ∷ upon (with_one 5 0 5) 0 100 sweeps 9 0 [] (with_one 5 0 5)
    -- "Refusals that name kind 1 cover kind 9, and a shown quantity out of its range is a 4": 3 before 4, 4 before 5, 5 before 6; a shown quantity of 65,537,
    -- whose low half is 1
    ∷ session 300 (too_short ++ reserves 9 0 sell 100 5 0 ++ reserves 9 0 sell 100 5 6 ++ reserves 9 0 sell 100 5 65537 ++ reserves 9 0 sell 113 5 2 ++ reserves 9 0 sell 100 5 2
    ++ reserves 9 0 sell 100 5 6 ++ reserves 9 0 sell 100 5 2 ++ closes 0 ++ reserves 9 0 sell 100 5 2 ++ reserves 10 0 sell 100 5 2) 0 11
    (answer 1 3 0 0 ∷ answer 2 4 0 0 ∷ answer 3 4 0 0 ∷ answer 4 4 0 0 ∷ answer 5 4 0 0 ∷ answer 6 0 0 0 ∷ answer 7 4 0 0 ∷ answer 8 5 0 0 ∷ answer 9 0 0 0
    ∷ answer 10 5 0 0 ∷ answer 11 6 0 0 ∷ [])
    -- showing all of it is kind 1: all of its 5 before the reserve of order 9
    ∷ session 200 (reserves 9 0 sell 100 5 1 ++ all_shown ++ enters 12 0 buy 100 7) 0 3
    (accepted 1 3 ++ (trade 0 0 100 1 12 9 ∷ trade 0 0 100 5 12 11 ∷ trade 0 0 100 1 12 9 ∷ []))
    ∷ []

-- Request (g) ----------------------------------------------------------------------------------

-- complex orders that rest, with ids from n on
pairs : (count n : ℕ) → List ℕ
pairs zero n = []
pairs (suc count) n = buys_both n (pos 100) 1 ++ pairs count (suc n)

-- complex order 3 for one contract has legging orders for one, at 115 and 75
one_each : List ℕ
one_each = opening ++ buys_both 3 (pos 205) 1

one_each_sheet : List Report
one_each_sheet = accepted 1 4 ++ (answer 5 0 5 2 ∷ generated 3 0 0 115 115 1 ∷ generated 3 1 0 75 75 1 ∷ [])

-- a message of kind 10 with these ratios and this limit
tenth : (r q : ℕ) (n : ℤ) → Message
tenth r q n = TwoLeg (record { id = 1; series1 = 0; side1 = sell; series2 = 1; side2 = buy; class = 0; limit = n; quantity = 1; ratio1 = r; ratio2 = q })

pub unequal : List Trial
unequal =
    -- two of series 0 and one of series 1: 15 and 12 fill 7 units, at 350 each; "trade whole units", and what is left of 8 rests
    session 200 (opening ++ ratioed 3 buy 2 1 (pos 350) 8) 0 5
    (accepted 1 5 ++ (trade 0 0 130 14 3 1 ∷ trade 1 0 90 7 3 2 ∷ pair 3 (pos 350) 7 ∷ []))
    ∷ session 200 (opening ++ ratioed 3 buy 2 1 (pos 349) 8) 0 5 (accepted 1 5)
    -- one and two: 6 units at 310
    ∷ session 200 (opening ++ ratioed 3 buy 1 2 (pos 310) 8) 0 5
    (accepted 1 5 ++ (trade 0 0 130 6 3 1 ∷ trade 1 0 90 12 3 2 ∷ pair 3 (pos 310) 6 ∷ []))
    -- 5 of the second leg fill two of these, and one is left
    ∷ session 200 (enters 1 0 sell 130 15 ++ enters 2 1 sell 90 5 ++ ratioed 3 buy 1 2 (pos 310) 8) 0 3
    (accepted 1 3 ++ (trade 0 0 130 2 3 1 ∷ trade 1 0 90 4 3 2 ∷ pair 3 (pos 310) 2 ∷ []))
    -- two sold against one bought: 2 units at -130
    ∷ session 200 (enters 1 0 buy 110 5 ++ enters 2 1 sell 90 7 ++ weighing 3 0 sell 2 1 buy 1 (minus 130) 8) 0 3
    (accepted 1 3 ++ (trade 0 1 110 4 3 1 ∷ trade 1 0 90 2 3 2 ∷ pair 3 (minus 130) 2 ∷ []))
    -- no more than is open
    ∷ session 200 (opening ++ ratioed 3 buy 3 2 (pos 570) 4) 0 5
    (accepted 1 5 ++ (trade 0 0 130 12 3 1 ∷ trade 1 0 90 8 3 2 ∷ pair 3 (pos 570) 4 ∷ []))
    -- "a leg-in step that can't fill a unit trades nothing and ends": 3 at 130 fill one unit, and what is left of them none with the 9 at 135
    ∷ session 200 (enters 1 0 sell 130 3 ++ enters 2 0 sell 135 9 ++ enters 3 1 sell 90 12 ++ ratioed 4 buy 2 1 (pos 370) 20) 0 4
    (accepted 1 4 ++ (trade 0 0 130 2 4 1 ∷ trade 1 0 90 1 4 3 ∷ pair 4 (pos 350) 1 ∷ []))
    ∷ session 200 (enters 1 0 sell 130 1 ++ enters 2 0 sell 135 5 ++ enters 3 1 sell 90 12 ++ ratioed 4 buy 2 1 (pos 360) 2) 0 4 (accepted 1 4)
    -- it goes on where units are filled at each price
    ∷ session 200 (enters 1 0 sell 130 4 ++ enters 2 0 sell 135 9 ++ enters 3 1 sell 90 12 ++ ratioed 4 buy 2 1 (pos 360) 4) 0 4
    (accepted 1 4 ++ (trade 0 0 130 4 4 1 ∷ trade 1 0 90 2 4 3 ∷ pair 4 (pos 350) 2 ∷ trade 0 0 135 4 4 2 ∷ trade 1 0 90 2 4 3 ∷ pair 4 (pos 360) 2 ∷ []))
    -- "the net weighs each leg by its ratio", O too: 350 is out of the band of 330, and in that of 340
    ∷ session 200 (opening ++ encode_message (Away 0 0 120) ++ ratioed 3 buy 2 1 (pos 350) 8) 0 6 (accepted 1 6)
    ∷ session 200 (opening ++ encode_message (Away 0 0 125) ++ ratioed 3 buy 2 1 (pos 350) 8) 0 6
    (accepted 1 6 ++ (trade 0 0 130 14 3 1 ∷ trade 1 0 90 7 3 2 ∷ pair 3 (pos 350) 7 ∷ []))
    -- "cross only with the same series and ratios reversed in side": order 4, whichever leg is named first; not order 2, and not order 3, of kind 2
    ∷ session 200 (quoted ++ ratioed 1 buy 2 1 (pos 300) 5 ++ ratioed 2 sell 1 2 (minus 300) 5 ++ pair_up 3 0 1 sell (minus 300) 5
    ++ weighing 4 1 sell 1 0 sell 2 (minus 300) 3) 0 8
    (accepted 1 8 ++ (crossed 4 1 (minus 300) 3 ∷ []))
    -- one of the ratios is not the same, of the second leg and of the first, more or less than the other's; the nets are in band
    ∷ session 200 (quotes 1000 1000 5 5 ++ ratioed 1 buy 2 1 (pos 2005) 5 ++ ratioed 2 sell 2 3 (minus 2005) 5 ++ weighing 3 1 sell 3 0 sell 2 (minus 2005) 5
    ++ ratioed 4 buy 2 1 (pos 2005) 5 ++ weighing 5 1 buy 1 0 buy 2 (pos 2005) 5) 0 9
    (accepted 1 9)
    ∷ session 200 (quotes 5 5 1000 1000 ++ ratioed 1 buy 1 2 (pos 2005) 5 ++ ratioed 2 sell 3 2 (minus 2005) 5 ++ weighing 3 1 sell 2 0 sell 3 (minus 2005) 5) 0 7
    (accepted 1 7)
    -- request (b) of weighed nets: the bids give -250, and it crosses there; or -255, and it legs in
    ∷ session 200 (quotes 0 101 0 51 ++ enters 1 0 buy 100 5 ++ enters 2 1 buy 50 5 ++ ratioed 3 buy 2 1 (pos 250) 5 ++ ratioed 4 sell 2 1 (minus 250) 3) 0 8
    (accepted 1 8 ++ (crossed 4 3 (minus 250) 3 ∷ []))
    ∷ session 200 (quotes 0 101 0 51 ++ enters 1 0 buy 100 5 ++ enters 2 1 buy 55 5 ++ ratioed 3 buy 2 1 (pos 250) 5 ++ ratioed 4 sell 2 1 (minus 250) 3) 0 8
    (accepted 1 8 ++ (trade 0 1 100 4 4 1 ∷ trade 1 1 55 2 4 2 ∷ pair 4 (minus 255) 2 ∷ []))
    -- 115 and 75 are touched at 305: 8 of each fill a unit of two and one, though not five
    ∷ session 200 (legged ++ ratioed 4 sell 2 1 (minus 305) 5) 0 6 (legged_sheet ++ (answer 6 0 0 0 ∷ removed 3 0 0 Touched ∷ removed 3 1 0 Touched ∷ []))
    ∷ session 200 (legged ++ ratioed 4 sell 2 1 (minus 306) 5) 0 6 (legged_sheet ++ (answer 6 0 5 2 ∷ []))
    -- "can't fill a unit": one of each does not, by the first leg or by the second, whichever is named first; it does with a regular order beside it
    ∷ session 200 (one_each ++ ratioed 4 sell 2 1 (minus 305) 5) 0 6 (one_each_sheet ++ (answer 6 0 0 0 ∷ removed 3 0 0 NoUnit ∷ removed 3 1 0 NoUnit ∷ []))
    ∷ session 200 (one_each ++ ratioed 4 sell 1 2 (minus 265) 5) 0 6 (one_each_sheet ++ (answer 6 0 0 0 ∷ removed 3 0 0 NoUnit ∷ removed 3 1 0 NoUnit ∷ []))
    ∷ session 200 (one_each ++ weighing 4 1 sell 2 0 sell 1 (minus 265) 5) 0 6 (one_each_sheet ++ (answer 6 0 0 0 ∷ removed 3 0 0 NoUnit ∷ removed 3 1 0 NoUnit ∷ []))
    ∷ session 200 (one_each ++ enters 4 0 buy 115 1 ++ ratioed 5 sell 2 1 (minus 305) 5) 0 7
    (one_each_sheet ++ (answer 6 0 5 2 ∷ answer 7 0 0 0 ∷ removed 3 0 0 Touched ∷ removed 3 1 0 Touched ∷ []))
    -- "shown and legging": 2 and 1 fill a unit of three, 1 and 1 do not, whatever the reserve
    ∷ session 300 (one_each ++ reserves 4 0 buy 115 5 2 ++ ratioed 5 sell 3 1 (minus 420) 2) 0 7
    (one_each_sheet ++ (answer 6 0 5 2 ∷ answer 7 0 0 0 ∷ removed 3 0 0 Touched ∷ removed 3 1 0 Touched ∷ []))
    ∷ session 300 (one_each ++ reserves 4 0 buy 115 5 1 ++ ratioed 5 sell 3 1 (minus 420) 2) 0 7
    (one_each_sheet ++ (answer 6 0 5 2 ∷ answer 7 0 0 0 ∷ removed 3 0 0 NoUnit ∷ removed 3 1 0 NoUnit ∷ []))
    -- "at the prices touched": the bid of 110 does not count beside 115
    ∷ session 200 (one_each ++ enters 4 0 buy 110 5 ++ ratioed 5 sell 2 1 (minus 305) 5) 0 7
    (one_each_sheet ++ (answer 6 0 5 2 ∷ answer 7 0 0 0 ∷ removed 3 0 0 NoUnit ∷ removed 3 1 0 NoUnit ∷ []))
    -- a side without a legging order, too: one contract is bid for in series 2, or two; 15 and 12 are offered in series 0 and 1
    ∷ session 200 (legged ++ enters 4 2 buy 50 1 ++ weighing 5 0 sell 1 2 sell 2 (minus 215) 5) 0 7
    (legged_sheet ++ (answer 6 0 5 2 ∷ answer 7 0 4 1 ∷ removed 3 0 0 NoUnit ∷ []))
    ∷ session 200 (legged ++ enters 4 2 buy 50 2 ++ weighing 5 0 sell 1 2 sell 2 (minus 215) 5) 0 7
    (legged_sheet ++ (answer 6 0 5 2 ∷ answer 7 0 4 1 ∷ removed 3 0 0 Touched ∷ []))
    ∷ session 200 (one_each ++ weighing 4 0 sell 2 1 buy 1 (minus 140) 5) 0 6 (one_each_sheet ++ (answer 6 0 4 1 ∷ removed 3 0 0 NoUnit ∷ []))
    ∷ session 200 (one_each ++ weighing 4 0 sell 1 1 buy 2 (pos 65) 5) 0 6 (one_each_sheet ++ (answer 6 0 4 1 ∷ removed 3 0 0 Touched ∷ []))
    -- and then it legs in at the regular prices
    ∷ session 300 (one_each ++ enters 4 0 buy 110 5 ++ enters 5 1 buy 70 5 ++ ratioed 6 sell 2 1 (minus 290) 1) 0 8
    (one_each_sheet ++ (answer 6 0 5 2 ∷ answer 7 0 5 2 ∷ answer 8 0 0 0 ∷ removed 3 0 0 NoUnit ∷ removed 3 1 0 NoUnit
    ∷ trade 0 1 110 2 6 4 ∷ trade 1 1 70 1 6 5 ∷ pair 6 (minus 290) 1 ∷ []))
    -- "never generate": one to one both would, at 115 and 75
    ∷ session 200 (opening ++ ratioed 3 buy 2 1 (pos 205) 8 ++ ratioed 4 buy 1 2 (pos 205) 8 ++ sweeps) 0 7 (accepted 1 7)
    -- a sweep works it; "Quantities of theirs outside 65 are units": 2 paired and 1 cancelled
    ∷ session 200 (ratioed 1 buy 2 1 (pos 350) 3 ++ enters 2 0 sell 130 5 ++ enters 3 1 sell 90 5 ++ sweeps ++ cancels 1) 0 5
    (accepted 1 4 ++ (trade 0 0 130 4 1 2 ∷ trade 1 0 90 2 1 3 ∷ pair 1 (pos 350) 2 ∷ answer 5 0 0 0 ∷ cancelled 1 1 ∷ []))
    -- units of what shows alone, which shows again for the sweep
    ∷ session 400 (reserves 1 0 sell 130 15 4 ++ enters 2 1 sell 90 12 ++ ratioed 3 buy 2 1 (pos 350) 5 ++ sweeps) 0 4
    (accepted 1 3 ++ (trade 0 0 130 4 3 1 ∷ trade 1 0 90 2 3 2 ∷ pair 3 (pos 350) 2 ∷ answer 4 0 0 0 ∷ trade 0 0 130 4 3 1 ∷ trade 1 0 90 2 3 2 ∷ pair 3 (pos 350) 2 ∷ []))
    -- "Refusals that name kind 2 cover kind 10", and it shares the 32 places; 14 before 5 and before 7
    ∷ session 600 (ratioed 1 buy 2 1 (pos 0) 1 ++ ratioed 1 buy 2 1 (pos 0) 1 ++ ratioed 1 buy 2 2 (pos 0) 1 ++ pairs 31 2 ++ ratioed 40 buy 2 1 (pos 0) 1
    ++ ratioed 40 buy 3 3 (pos 0) 1 ++ closes 1 ++ ratioed 41 buy 2 1 (pos 0) 1 ++ ratioed 1 buy 2 1 (pos 0) 1) 0 39
    (answer 1 0 0 0 ∷ answer 2 5 0 0 ∷ answer 3 14 0 0 ∷ (accepted 4 31 ++ (answer 35 7 0 0 ∷ answer 36 14 0 0 ∷ answer 37 0 0 0 ∷ answer 38 6 0 0 ∷ answer 39 5 0 0 ∷ [])))
    -- 3 before 4, of kind 10 and of kind 2; 4 before 14, which equal bytes 0, 4, or an N of 600,001 meet
    ∷ session 200 ((21 ∷ 0 ∷ 10 ∷ 0 ∷ replicate 17 0) ++ (23 ∷ 0 ∷ 2 ∷ 0 ∷ replicate 19 0) ++ (23 ∷ 0 ∷ 10 ∷ 0 ∷ replicate 19 0) ++ ratioed 1 buy 4 4 (pos 0) 1
    ++ ratioed 1 buy 2 2 (pos 600001) 1) 0 5
    (answer 1 3 0 0 ∷ answer 2 3 0 0 ∷ answer 3 4 0 0 ∷ answer 4 4 0 0 ∷ answer 5 4 0 0 ∷ [])
    -- 14: "equal ratio bytes", one to one too and where N is 300,000, which of kind 2 is a 4; before 6
    ∷ session 200 (closes 0 ++ (23 ∷ 0 ∷ 10 ∷ 0 ∷ 1 ∷ 0 ∷ 0 ∷ 0 ∷ 0 ∷ 0 ∷ 1 ∷ 0 ∷ 1 ∷ 224 ∷ 147 ∷ 4 ∷ 0 ∷ 1 ∷ 0 ∷ 0 ∷ 0 ∷ 1 ∷ 1 ∷ [])
    ++ buys_both 1 (pos 300000) 1 ++ ratioed 1 buy 3 3 (pos 0) 1 ++ ratioed 1 buy 3 2 (pos 0) 1) 0 5
    (answer 1 0 0 0 ∷ answer 2 14 0 0 ∷ answer 3 4 0 0 ∷ answer 4 14 0 0 ∷ answer 5 6 0 0 ∷ [])
    -- "each 1 to 3", "N runs from -600,000 to 600,000"
    ∷ ranged (tenth 3 1 (pos 600000)) true ∷ ranged (tenth 1 3 (minus 600000)) true ∷ ranged (tenth 2 1 (pos 600001)) false ∷ ranged (tenth 2 1 (minus 600001)) false
    ∷ ranged (tenth 4 1 (pos 0)) false ∷ ranged (tenth 1 4 (pos 0)) false ∷ ranged (tenth 0 1 (pos 0)) false ∷ ranged (tenth 1 0 (pos 0)) false
    ∷ []

-- Bytes ---------------------------------------------------------------------------------------

-- a legging order of complex order 67,305,985 gone from side 1 of series 6, by the cause's number
gone : Cause → (number : ℕ) → Trial
gone c n = told (removed 67305985 6 1 c) (11 ∷ 0 ∷ 68 ∷ 0 ∷ 1 ∷ 2 ∷ 3 ∷ 4 ∷ 6 ∷ 1 ∷ n ∷ [])

-- the table's rows, byte for byte: the id 67,305,985 is 01 02 03 04, 134,678,021 is 05 06 07 08, 100,000 is A0 86 01 00, 10,000 is 10 27 00 00
pub layouts : List Trial
layouts =
    taken (18 ∷ 0 ∷ 1 ∷ 0 ∷ 1 ∷ 2 ∷ 3 ∷ 4 ∷ 5 ∷ 1 ∷ 160 ∷ 134 ∷ 1 ∷ 0 ∷ 16 ∷ 39 ∷ 0 ∷ 0 ∷ [])
    (Order (rest 67305985 5 1 100000 10000))
    ∷ taken (22 ∷ 0 ∷ 9 ∷ 0 ∷ 1 ∷ 2 ∷ 3 ∷ 4 ∷ 5 ∷ 1 ∷ 160 ∷ 134 ∷ 1 ∷ 0 ∷ 16 ∷ 39 ∷ 0 ∷ 0 ∷ 44 ∷ 1 ∷ 0 ∷ 0 ∷ [])
    (Order (single 67305985 5 1 100000 10000 300))
    ∷ taken (21 ∷ 0 ∷ 2 ∷ 0 ∷ 1 ∷ 2 ∷ 3 ∷ 4 ∷ 7 ∷ 1 ∷ 6 ∷ 0 ∷ 1 ∷ 254 ∷ 255 ∷ 255 ∷ 255 ∷ 16 ∷ 39 ∷ 0 ∷ 0 ∷ [])
    (TwoLeg (record { id = 67305985; series1 = 7; side1 = 1; series2 = 6; side2 = 0; class = 1; limit = minus 2; quantity = 10000; ratio1 = 1; ratio2 = 1 }))
    ∷ taken (23 ∷ 0 ∷ 10 ∷ 0 ∷ 1 ∷ 2 ∷ 3 ∷ 4 ∷ 7 ∷ 1 ∷ 6 ∷ 0 ∷ 1 ∷ 254 ∷ 255 ∷ 255 ∷ 255 ∷ 16 ∷ 39 ∷ 0 ∷ 0 ∷ 3 ∷ 2 ∷ [])
    (TwoLeg (record { id = 67305985; series1 = 7; side1 = 1; series2 = 6; side2 = 0; class = 1; limit = minus 2; quantity = 10000; ratio1 = 3; ratio2 = 2 }))
    ∷ taken (8 ∷ 0 ∷ 3 ∷ 0 ∷ 1 ∷ 2 ∷ 3 ∷ 4 ∷ []) (Cancel 67305985)
    ∷ taken (13 ∷ 0 ∷ 4 ∷ 0 ∷ 3 ∷ 44 ∷ 1 ∷ 0 ∷ 0 ∷ 160 ∷ 134 ∷ 1 ∷ 0 ∷ []) (Away 3 300 100000)
    ∷ taken (6 ∷ 0 ∷ 5 ∷ 0 ∷ 7 ∷ 2 ∷ []) (Status 7 2)
    ∷ taken (4 ∷ 0 ∷ 6 ∷ 0 ∷ []) Sweep
    ∷ taken (10 ∷ 0 ∷ 7 ∷ 0 ∷ 6 ∷ 5 ∷ 1 ∷ 2 ∷ 3 ∷ 4 ∷ []) (Increment 6 5 67305985)
    ∷ taken (9 ∷ 0 ∷ 8 ∷ 0 ∷ 50 ∷ 1 ∷ 2 ∷ 3 ∷ 4 ∷ []) (Percent 50 67305985)
    ∷ taken (5 ∷ 0 ∷ 11 ∷ 0 ∷ 32 ∷ []) (LimitedSweep 32)
    ∷ told (answer 67305985 7 513 2) (12 ∷ 0 ∷ 64 ∷ 0 ∷ 1 ∷ 2 ∷ 3 ∷ 4 ∷ 7 ∷ 1 ∷ 2 ∷ 2 ∷ [])
    ∷ told (trade 5 1 100000 10000 67305985 134678021)
    (22 ∷ 0 ∷ 65 ∷ 0 ∷ 5 ∷ 1 ∷ 160 ∷ 134 ∷ 1 ∷ 0 ∷ 16 ∷ 39 ∷ 0 ∷ 0 ∷ 1 ∷ 2 ∷ 3 ∷ 4 ∷ 5 ∷ 6 ∷ 7 ∷ 8 ∷ [])
    ∷ told (pair 67305985 (pos 2147483647) 10000) (16 ∷ 0 ∷ 66 ∷ 0 ∷ 1 ∷ 2 ∷ 3 ∷ 4 ∷ 255 ∷ 255 ∷ 255 ∷ 127 ∷ 16 ∷ 39 ∷ 0 ∷ 0 ∷ [])
    ∷ told (pair 67305985 (minus 2147483648) 10000) (16 ∷ 0 ∷ 66 ∷ 0 ∷ 1 ∷ 2 ∷ 3 ∷ 4 ∷ 0 ∷ 0 ∷ 0 ∷ 128 ∷ 16 ∷ 39 ∷ 0 ∷ 0 ∷ [])
    ∷ told (pair 67305985 (minus 2) 10000) (16 ∷ 0 ∷ 66 ∷ 0 ∷ 1 ∷ 2 ∷ 3 ∷ 4 ∷ 254 ∷ 255 ∷ 255 ∷ 255 ∷ 16 ∷ 39 ∷ 0 ∷ 0 ∷ [])
    ∷ told (generated 67305985 6 1 99999 100000 10000)
    (22 ∷ 0 ∷ 67 ∷ 0 ∷ 1 ∷ 2 ∷ 3 ∷ 4 ∷ 6 ∷ 1 ∷ 159 ∷ 134 ∷ 1 ∷ 0 ∷ 160 ∷ 134 ∷ 1 ∷ 0 ∷ 16 ∷ 39 ∷ 0 ∷ 0 ∷ [])
    ∷ gone Worse 1 ∷ gone Unpaired 2 ∷ gone Executed 3 ∷ gone Withdrawn 4 ∷ gone OutOfBand 5 ∷ gone NotOpen 6 ∷ gone Replaced 7 ∷ gone Touched 8 ∷ gone NoUnit 10
    ∷ told (crossed 67305985 134678021 (minus 2) 10000)
    (20 ∷ 0 ∷ 70 ∷ 0 ∷ 1 ∷ 2 ∷ 3 ∷ 4 ∷ 5 ∷ 6 ∷ 7 ∷ 8 ∷ 254 ∷ 255 ∷ 255 ∷ 255 ∷ 16 ∷ 39 ∷ 0 ∷ 0 ∷ [])
    ∷ told (cancelled 67305985 10000) (12 ∷ 0 ∷ 71 ∷ 0 ∷ 1 ∷ 2 ∷ 3 ∷ 4 ∷ 16 ∷ 39 ∷ 0 ∷ 0 ∷ [])
    ∷ told (looked 32) (5 ∷ 0 ∷ 72 ∷ 0 ∷ 32 ∷ [])
    -- each u32 in all its bytes
    ∷ taken (13 ∷ 0 ∷ 4 ∷ 0 ∷ 3 ∷ 160 ∷ 134 ∷ 1 ∷ 0 ∷ 44 ∷ 1 ∷ 0 ∷ 0 ∷ []) (Away 3 100000 300)
    ∷ told (trade 5 1 100000 134678021 67305985 1) (22 ∷ 0 ∷ 65 ∷ 0 ∷ 5 ∷ 1 ∷ 160 ∷ 134 ∷ 1 ∷ 0 ∷ 5 ∷ 6 ∷ 7 ∷ 8 ∷ 1 ∷ 2 ∷ 3 ∷ 4 ∷ 1 ∷ 0 ∷ 0 ∷ 0 ∷ [])
    ∷ told (pair 67305985 (pos 1) 134678021) (16 ∷ 0 ∷ 66 ∷ 0 ∷ 1 ∷ 2 ∷ 3 ∷ 4 ∷ 1 ∷ 0 ∷ 0 ∷ 0 ∷ 5 ∷ 6 ∷ 7 ∷ 8 ∷ [])
    ∷ told (generated 67305985 6 1 1 100000 134678021) (22 ∷ 0 ∷ 67 ∷ 0 ∷ 1 ∷ 2 ∷ 3 ∷ 4 ∷ 6 ∷ 1 ∷ 1 ∷ 0 ∷ 0 ∷ 0 ∷ 160 ∷ 134 ∷ 1 ∷ 0 ∷ 5 ∷ 6 ∷ 7 ∷ 8 ∷ [])
    ∷ told (crossed 1 67305985 (pos 1) 134678021) (20 ∷ 0 ∷ 70 ∷ 0 ∷ 1 ∷ 0 ∷ 0 ∷ 0 ∷ 1 ∷ 2 ∷ 3 ∷ 4 ∷ 1 ∷ 0 ∷ 0 ∷ 0 ∷ 5 ∷ 6 ∷ 7 ∷ 8 ∷ [])
    ∷ told (cancelled 1 134678021) (12 ∷ 0 ∷ 71 ∷ 0 ∷ 1 ∷ 0 ∷ 0 ∷ 0 ∷ 5 ∷ 6 ∷ 7 ∷ 8 ∷ [])
    ∷ []

-- Ranges --------------------------------------------------------------------------------------

whole : (id series side price quantity : ℕ) → Message
whole i s d p q = Order (rest i s d p q)

double : (s d t e class : ℕ) (n : ℤ) (quantity : ℕ) → Message
double s d t e k n q = TwoLeg (record { id = 1; series1 = s; side1 = d; series2 = t; side2 = e; class = k; limit = n; quantity = q; ratio1 = 1; ratio2 = 1 })

-- how many numbers below n are increments
increments_below : (n : ℕ) → ℕ
increments_below zero = 0
increments_below (suc n) = (if is_increment n then 1 else 0) + increments_below n

-- each range at its ends and one beyond
pub edges : List Trial
edges =
    ranged (whole 1 0 0 5 1) true ∷ ranged (whole 4294967295 7 1 100000 10000) true
    ∷ ranged (whole 0 0 0 5 1) false ∷ ranged (whole 1 8 0 10 1) false ∷ ranged (whole 1 0 2 5 1) false ∷ ranged (whole 1 0 0 0 1) false
    ∷ ranged (whole 1 0 0 100005 1) false ∷ ranged (whole 1 0 0 5 0) false ∷ ranged (whole 1 0 0 5 10001) false
    ∷ ranged (whole 1 5 0 15 1) true ∷ ranged (whole 1 6 0 15 1) false ∷ ranged (whole 1 0 0 6 1) false
    ∷ ranged (Order (single 1 0 0 5 10000 1)) true ∷ ranged (Order (single 1 0 0 5 10000 9999)) true ∷ ranged (Order (single 1 0 0 5 10 0)) false ∷ ranged (Order (single 1 0 0 5 10 11)) false
    ∷ ranged (double 0 0 7 1 1 (pos 200000) 10000) true ∷ ranged (double 7 1 0 0 0 (minus 200000) 1) true
    ∷ ranged (double 0 0 1 0 0 (pos 200001) 1) false ∷ ranged (double 0 0 1 0 0 (minus 200001) 1) false ∷ ranged (double 0 0 1 0 2 (pos 0) 1) false
    ∷ ranged (double 8 0 1 0 0 (pos 0) 1) false ∷ ranged (double 0 0 8 0 0 (pos 0) 1) false ∷ ranged (double 0 2 1 0 0 (pos 0) 1) false ∷ ranged (double 0 0 1 2 0 (pos 0) 1) false
    ∷ ranged (double 3 0 3 1 0 (pos 0) 1) false ∷ ranged (double 0 0 1 0 0 (pos 0) 0) false ∷ ranged (double 0 0 1 0 0 (pos 0) 10001) false
    ∷ ranged (TwoLeg (record { id = 0; series1 = 0; side1 = 0; series2 = 1; side2 = 0; class = 0; limit = pos 0; quantity = 1; ratio1 = 1; ratio2 = 1 })) false
    ∷ ranged (whole 4294967296 0 0 5 1) false
    ∷ ranged (Cancel 0) false ∷ ranged (Cancel 1) true
    ∷ ranged (Away 7 100000 0) true ∷ ranged (Away 8 0 0) false ∷ ranged (Away 0 100001 0) false ∷ ranged (Away 0 0 100001) false
    ∷ ranged (Status 7 2) true ∷ ranged (Status 8 0) false ∷ ranged (Status 0 3) false
    ∷ ranged (Increment 7 1 0) true ∷ ranged (Increment 0 5 4294967295) true ∷ ranged (Increment 0 10 1) true
    ∷ ranged (Increment 8 5 1) false ∷ ranged (Increment 0 0 1) false ∷ ranged (Increment 0 2 1) false
    ∷ ranged (Percent 0 0) true ∷ ranged (Percent 50 4294967295) true ∷ ranged (Percent 51 1) false
    -- "1, 5 or 10": three of all that a u8 tells
    ∷ counted (increments_below 256) 3
    ∷ ranged (LimitedSweep 0) false ∷ ranged (LimitedSweep 1) true ∷ ranged (LimitedSweep 32) true ∷ ranged (LimitedSweep 33) false
    ∷ []

-- The refusals' table -------------------------------------------------------------------------

-- offers of one contract, with ids from n on
offers : (count n : ℕ) → List ℕ
offers zero n = []
offers (suc count) n = enters n 0 sell 100 1 ++ offers count (suc n)

-- a venue with "two orders with id 1"
twice : Venue
twice =
    let o = rest 1 0 0 100 1 in
    with_last (with_regular fresh_venue (set (set fresh_venue.regular 0 o) 1 o)) 1

pub refused : List Trial
refused =
    -- 1: "bytes 09 00 06"; in a one-message call also no bytes
    session 100 (9 ∷ 0 ∷ 6 ∷ []) 1 1 (answer 1 1 0 0 ∷ [])
    ∷ upon fresh_venue 0 100 [] 1 1 (answer 1 1 0 0 ∷ []) fresh_venue
    -- a length below 4, whatever the kind; a length above what is left; messages before it are done
    ∷ session 100 (3 ∷ 0 ∷ 99 ∷ 0 ∷ []) 1 1 (answer 1 1 0 0 ∷ [])
    ∷ session 100 (5 ∷ 0 ∷ 6 ∷ 0 ∷ []) 1 1 (answer 1 1 0 0 ∷ [])
    ∷ session 100 (sweeps ++ (4 ∷ 0 ∷ 6 ∷ [])) 1 2 (answer 1 0 0 0 ∷ answer 2 1 0 0 ∷ [])
    -- a length of 260; a kind of 262
    ∷ session 100 ((4 ∷ 0 ∷ 6 ∷ 1 ∷ []) ++ (4 ∷ 1 ∷ 6 ∷ 0 ∷ [])) 1 2 (answer 1 2 0 0 ∷ answer 2 1 0 0 ∷ [])
    -- 2: "04 00 63 00"
    ∷ session 100 (4 ∷ 0 ∷ 99 ∷ 0 ∷ []) 0 1 (answer 1 2 0 0 ∷ [])
    ∷ session 100 ((5 ∷ 0 ∷ 0 ∷ 0 ∷ 7 ∷ []) ++ (4 ∷ 0 ∷ 12 ∷ 0 ∷ []) ++ (4 ∷ 0 ∷ 64 ∷ 0 ∷ [])) 0 3 (answer 1 2 0 0 ∷ answer 2 2 0 0 ∷ answer 3 2 0 0 ∷ [])
    -- 3: "05 00 06 00 00"
    ∷ session 100 (5 ∷ 0 ∷ 6 ∷ 0 ∷ 0 ∷ []) 0 1 (answer 1 3 0 0 ∷ [])
    -- too short; 3 before 4, which a cancel of id 0 is
    ∷ session 100 ((7 ∷ 0 ∷ 3 ∷ 0 ∷ 9 ∷ 0 ∷ 0 ∷ []) ++ (9 ∷ 0 ∷ 3 ∷ 0 ∷ 0 ∷ 0 ∷ 0 ∷ 0 ∷ 0 ∷ [])) 0 2 (answer 1 3 0 0 ∷ answer 2 3 0 0 ∷ [])
    -- 4: "order at 113, series 0"
    ∷ session 100 (opens 0 ++ enters 1 0 sell 113 1) 0 2 (answer 1 0 0 0 ∷ answer 2 4 0 0 ∷ [])
    -- a quantity of 65,537, whose low half is 1
    ∷ session 100 (enters 1 0 sell 100 65537 ++ buys_both 1 (pos 100) 65537) 0 2 (answer 1 4 0 0 ∷ answer 2 4 0 0 ∷ [])
    -- 5: "id 1 twice"
    ∷ session 100 (opens 0 ++ enters 1 0 sell 115 1 ++ enters 1 0 sell 115 1) 0 3 (accepted 1 2 ++ (answer 3 5 0 0 ∷ []))
    ∷ session 100 (opens 0 ++ opens 1 ++ pairs 1 1 ++ pairs 1 1) 0 4 (accepted 1 3 ++ (answer 4 5 0 0 ∷ []))
    -- in number order: 4, then 5, then 6; a refused order does not move the last id
    ∷ session 100 (enters 9 0 sell 113 1 ++ opens 0 ++ enters 1 0 sell 115 1 ++ closes 0 ++ enters 1 0 sell 115 1 ++ enters 2 0 sell 115 1) 0 6
    (answer 1 4 0 0 ∷ answer 2 0 0 0 ∷ answer 3 0 0 0 ∷ answer 4 0 0 0 ∷ answer 5 5 0 0 ∷ answer 6 6 0 0 ∷ [])
    -- 6: "an order after a close" (request (l)); every other series of a fresh venue is open, so that to open one changes nothing
    ∷ session 100 (closes 0 ++ enters 1 0 sell 115 1 ++ enters 1 7 sell 120 1) 0 3 (answer 1 0 0 0 ∷ answer 2 6 0 0 ∷ answer 3 0 0 0 ∷ [])
    ∷ upon fresh_venue 0 100 (opens 0) 0 1 (answer 1 0 0 0 ∷ []) fresh_venue
    ∷ upon fresh_venue 1 100 (opens 1) 0 1 (answer 2 0 0 0 ∷ []) fresh_venue
    -- either series of a complex order
    ∷ session 100 (closes 1 ++ pairs 1 1 ++ closes 0 ++ opens 1 ++ pairs 1 1) 0 5
    (answer 1 0 0 0 ∷ answer 2 6 0 0 ∷ answer 3 0 0 0 ∷ answer 4 0 0 0 ∷ answer 5 6 0 0 ∷ [])
    -- 7: "the 129th resting", after 6 and "even if the order would trade", of kind 9 too; the 33rd complex order, after 5
    ∷ session 1650 (closes 1 ++ offers 129 1 ++ enters 130 1 buy 100 1 ++ enters 131 0 buy 100 1 ++ reserves 132 1 buy 100 2 1 ++ reserves 132 0 buy 100 2 1) 0 134
    (accepted 1 129 ++ (answer 130 7 0 0 ∷ answer 131 6 0 0 ∷ answer 132 7 0 0 ∷ answer 133 6 0 0 ∷ answer 134 7 0 0 ∷ []))
    ∷ session 500 (opens 0 ++ opens 1 ++ pairs 33 1 ++ pairs 1 1) 0 36 (accepted 1 34 ++ (answer 35 7 0 0 ∷ answer 36 5 0 0 ∷ []))
    -- 8: "cancel 9, fresh"
    ∷ session 100 (cancels 9) 0 1 (answer 1 8 0 0 ∷ [])
    -- a refused message tells the mask and the count of the venue as it stands
    ∷ session 200 (legged ++ cancels 9) 0 6 (legged_sheet ++ (answer 6 8 5 2 ∷ []))
    -- 9: "two orders with id 1": "the venue as given, all report bytes 0"
    ∷ upon twice 7 100 sweeps 9 0 [] twice
    -- "9 before all"; and 10 before 1, where the number would pass
    ∷ upon twice 4294967295 3 [] 9 0 [] twice
    ∷ upon fresh_venue 4294967295 100 [] 10 0 [] fresh_venue
    -- 10: "11 report bytes, one sweep"; a number that would pass 4,294,967,295; "call ends before that message"
    ∷ session 11 sweeps 10 0 []
    ∷ upon fresh_venue 4294967295 100 sweeps 10 0 [] fresh_venue
    ∷ upon fresh_venue 4294967294 12 sweeps 0 1 (answer 4294967295 0 0 0 ∷ []) fresh_venue
    ∷ session 30 (sweeps ++ sweeps ++ sweeps) 10 2 (accepted 1 2)
    ∷ []

-- What the choices above leave open: Order ----------------------------------------------------

pub met : List Trial
met =
    -- "best own price first": the legging order at 115 before the regular one at 110
    session 300 (legged ++ enters 4 0 buy 110 2 ++ enters 5 0 sell 110 6) 0 7
    (legged_sheet ++ (answer 6 0 5 2 ∷ answer 7 0 0 0 ∷ trade 0 1 115 6 5 3 ∷ trade 1 0 90 6 3 2 ∷ pair 3 (pos 205) 6
    ∷ removed 3 0 0 Executed ∷ removed 3 1 0 Executed ∷ []))
    -- "k contracts of the other leg at its clear price", which is better than when it was made: the net traded is 200
    ∷ session 300 (legged ++ enters 4 1 sell 85 12 ++ enters 5 0 sell 115 5) 0 7
    (legged_sheet ++ (answer 6 0 5 2 ∷ answer 7 0 0 0 ∷ trade 0 1 115 5 5 3 ∷ trade 1 0 85 5 3 4 ∷ pair 3 (pos 200) 5
    ∷ removed 3 0 0 Executed ∷ removed 3 1 0 Executed ∷ []))
    -- "removal of all its parent's legging orders", and of no other's
    ∷ session 300 (opening ++ opens 2 ++ buys_both 3 (pos 205) 8 ++ pair_up 4 2 1 buy (pos 100) 2 ++ encode_message (Away 2 0 20) ++ sweeps ++ enters 5 0 sell 115 8) 0 10
    (accepted 1 5 ++ (answer 6 0 5 2 ∷ generated 3 0 0 115 115 8 ∷ generated 3 1 0 75 75 8 ∷ answer 7 0 5 2 ∷ answer 8 0 5 2
    ∷ answer 9 0 21 3 ∷ generated 4 2 0 10 10 2
    ∷ answer 10 0 16 1 ∷ trade 0 1 115 8 5 3 ∷ trade 1 0 90 8 3 2 ∷ pair 3 (pos 205) 8 ∷ removed 3 0 0 Executed ∷ removed 3 1 0 Executed ∷ []))
    ∷ []

-- Standing and settling -----------------------------------------------------------------------

pub settled : List Trial
settled =
    -- "both its series are open (else cause 6)": one is closed; the second is in auction
    next (encode_message (Status 0 0)) (answer 6 0 0 0 ∷ removed 3 0 0 NotOpen ∷ removed 3 1 0 NotOpen ∷ [])
    ∷ next (encode_message (Status 1 0)) (answer 6 0 0 0 ∷ removed 3 0 0 NotOpen ∷ removed 3 1 0 NotOpen ∷ [])
    ∷ next (in_auction 1) (answer 6 0 0 0 ∷ removed 3 0 0 NotOpen ∷ removed 3 1 0 NotOpen ∷ [])
    -- "N is in band (else 5)": 205 is not in that of 150
    ∷ next (encode_message (Away 0 0 60)) (answer 6 0 0 0 ∷ removed 3 0 0 OutOfBand ∷ removed 3 1 0 OutOfBand ∷ [])
    -- "net with it ≤ N": 115 and 95 are 210; the size at 95 is 20
    ∷ session 250 (opening ++ enters 3 1 sell 95 20 ++ buys_both 4 (pos 205) 20 ++ cancels 2) 0 7
    (accepted 1 5 ++ (answer 6 0 5 2 ∷ generated 4 0 0 115 115 12 ∷ generated 4 1 0 75 75 15 ∷ answer 7 0 4 1 ∷ cancelled 2 12 ∷ removed 4 0 0 Unpaired ∷ []))
    -- "size there ≥ its quantity": 8, and then 7
    ∷ session 250 (legged ++ enters 4 1 buy 90 4 ++ enters 5 1 buy 90 1) 0 7
    (legged_sheet ++ (answer 6 0 5 2 ∷ trade 1 0 90 4 4 2 ∷ answer 7 0 4 1 ∷ trade 1 0 90 1 5 2 ∷ removed 3 0 0 Unpaired ∷ []))
    -- "its displayed price is no worse than the best regular of its side (else 1)": 75, of 80
    ∷ next (enters 4 1 buy 80 5) (answer 6 0 1 1 ∷ removed 3 1 0 Worse ∷ [])
    -- "the lowest cause that applies": 1 and 2 at once
    ∷ session 250 (opens 0 ++ opens 1 ++ enters 1 1 sell 90 12 ++ encode_message (Away 0 110 130) ++ buys_both 2 (pos 205) 8
    ++ two_leg 3 0 sell 1 buy 1 (minus 35) 6 ++ enters 4 0 buy 125 8) 0 7
    (accepted 1 4 ++ (answer 5 0 1 1 ∷ generated 2 0 0 115 115 8 ∷ answer 6 0 3 2 ∷ generated 3 0 1 125 125 6
    ∷ answer 7 0 0 0 ∷ trade 0 0 125 6 4 3 ∷ trade 1 0 90 6 3 1 ∷ pair 3 (minus 35) 6 ∷ removed 3 0 1 Executed ∷ removed 2 0 0 Worse ∷ []))
    -- 1 and 5 at place 0, 5 and 2 at place 2: no offer is left in series 0, and 130 is bid
    ∷ next (enters 4 0 buy 130 20) (answer 6 0 0 0 ∷ trade 0 0 130 15 4 1 ∷ removed 3 0 0 Worse ∷ removed 3 1 0 OutOfBand ∷ [])
    ∷ []

-- Complex, sweep, cancel ----------------------------------------------------------------------

-- three series open, and an offer of 50 in series 2
three_open : List ℕ
three_open = opens 0 ++ opens 1 ++ opens 2 ++ enters 1 2 sell 50 10

-- a market of 1,000 in one series and of 5 in another: the nets of a sum and of a difference are each in the other's band
far_apart : (s t : ℕ) → List ℕ
far_apart s t = opens s ++ opens t ++ encode_message (Away s 1000 1000) ++ encode_message (Away t 5 5)

pub worked : List Trial
worked =
    -- "with the same series and in each the reversed side, whichever leg is named first"
    session 200 (quoted ++ two_leg 1 0 buy 1 sell 1 (pos 10) 5 ++ two_leg 2 1 sell 0 buy 1 (pos 10) 5 ++ two_leg 3 0 sell 1 buy 1 (minus 10) 12) 0 7
    (accepted 1 7 ++ (crossed 3 1 (minus 10) 5 ∷ crossed 3 2 (minus 10) 5 ∷ []))
    -- one side is not
    ∷ session 150 (far_apart 0 1 ++ two_leg 1 0 buy 1 sell 1 (pos 1005) 5 ++ two_leg 2 1 sell 0 buy 1 (pos 1005) 5
    ++ pair_up 3 0 1 sell (minus 1005) 5 ++ pair_up 4 1 0 sell (minus 1005) 5) 0 8 (accepted 1 8)
    ∷ session 150 (far_apart 0 1 ++ two_leg 1 0 sell 1 buy 1 (minus 1000) 5 ++ two_leg 2 1 buy 0 sell 1 (minus 1000) 5
    ++ pair_up 3 0 1 buy (pos 1005) 5 ++ pair_up 4 1 0 buy (pos 1005) 5) 0 8 (accepted 1 8)
    -- one series is not
    ∷ session 200 (far_apart 0 1 ++ far_apart 3 2 ++ pair_up 1 0 2 buy (pos 1005) 5 ++ pair_up 2 3 1 buy (pos 1005) 5
    ++ pair_up 3 2 0 buy (pos 1005) 5 ++ pair_up 4 1 3 buy (pos 1005) 5 ++ pair_up 5 0 1 sell (minus 1005) 5) 0 13 (accepted 1 13)
    -- "N + their N ≥ 0": it is -1
    ∷ session 150 (quoted ++ buys_both 1 (pos 189) 5 ++ pair_up 2 0 1 sell (minus 190) 5) 0 6 (accepted 1 6)
    -- "both nets in band": -181 is in the taker's band of -190, -180 is not
    ∷ session 150 (quoted ++ buys_both 1 (pos 180) 5 ++ buys_both 2 (pos 181) 5 ++ pair_up 3 0 1 sell (minus 180) 12) 0 7
    (accepted 1 7 ++ (crossed 3 2 (minus 181) 5 ∷ []))
    -- and they are the nets dealt at: N -150 itself is out of the band of -190
    ∷ session 150 (quoted ++ buys_both 1 (pos 195) 5 ++ pair_up 2 0 1 sell (minus 150) 5) 0 6 (accepted 1 6 ++ (crossed 2 1 (minus 195) 5 ∷ []))
    -- "if neither series is closed": it crosses in auction
    ∷ session 150 (quoted ++ in_auction 0 ++ buys_both 1 (pos 195) 5 ++ pair_up 2 0 1 sell (minus 190) 5) 0 7 (accepted 1 7 ++ (crossed 2 1 (minus 195) 5 ∷ []))
    -- "First cross", "Each step goes on only while some quantity is open": no touch after it
    ∷ session 250 (three_open ++ enters 2 1 buy 70 5 ++ encode_message (Away 0 80 120) ++ encode_message (Away 1 70 100)
    ++ pair_up 3 0 2 buy (pos 150) 5 ++ pair_up 4 0 1 buy (pos 180) 4 ++ pair_up 5 0 1 sell (minus 170) 4) 0 10
    (accepted 1 7 ++ (answer 8 0 1 1 ∷ generated 3 0 0 100 100 5 ∷ answer 9 0 1 1 ∷ answer 10 0 1 1 ∷ crossed 5 4 (minus 180) 4 ∷ []))
    -- "First cross", though it would leg in at 165
    ∷ session 200 (opens 0 ++ opens 1 ++ enters 1 0 buy 95 5 ++ enters 2 1 buy 70 5 ++ encode_message (Away 0 0 120) ++ encode_message (Away 1 0 100)
    ++ pair_up 3 0 1 buy (pos 180) 4 ++ pair_up 4 0 1 sell (minus 165) 4) 0 8
    (accepted 1 8 ++ (crossed 4 3 (minus 180) 4 ∷ []))
    -- "Then touch", "Then leg in"
    ∷ session 300 (three_open ++ enters 2 0 buy 95 5 ++ enters 3 1 buy 70 5 ++ encode_message (Away 0 80 120) ++ encode_message (Away 1 70 100)
    ++ pair_up 4 0 2 buy (pos 150) 5 ++ pair_up 5 0 1 sell (minus 165) 5) 0 10
    (accepted 1 8 ++ (answer 9 0 1 1 ∷ generated 4 0 0 100 100 5
    ∷ answer 10 0 0 0 ∷ removed 4 0 0 Touched ∷ trade 0 1 95 5 5 2 ∷ trade 1 1 70 5 5 3 ∷ pair 5 (minus 165) 5 ∷ []))
    -- "if both sides it would take have a price": series 1 has no bid, series 0 has none
    ∷ session 150 (opens 0 ++ opens 1 ++ enters 1 1 sell 90 12 ++ encode_message (Away 0 0 130) ++ buys_both 2 (pos 205) 8 ++ pair_up 3 0 1 sell (minus 100) 5) 0 6
    (accepted 1 4 ++ (answer 5 0 1 1 ∷ generated 2 0 0 115 115 8 ∷ answer 6 0 1 1 ∷ []))
    ∷ session 150 (opens 0 ++ opens 1 ++ enters 1 1 sell 90 12 ++ encode_message (Away 0 0 130) ++ buys_both 2 (pos 205) 8 ++ pair_up 3 1 0 sell (minus 100) 5) 0 6
    (accepted 1 4 ++ (answer 5 0 1 1 ∷ generated 2 0 0 115 115 8 ∷ answer 6 0 1 1 ∷ []))
    -- an order of two sides: the offer of 130 and the bid of 75 are 55 to it; of order 3's legging orders that bid alone goes
    ∷ next (two_leg 4 0 buy 1 sell 1 (pos 55) 5) (answer 6 0 1 1 ∷ removed 3 1 0 Touched ∷ [])
    ∷ next (two_leg 4 0 buy 1 sell 1 (pos 54) 5) (answer 6 0 5 2 ∷ [])
    -- nor does it leg in at 60, where the bid is a regular one of 70: not at N 59, and not out of the band of 30
    ∷ session 300 (opening ++ enters 3 1 buy 70 6 ++ two_leg 4 0 buy 1 sell 1 (pos 59) 4 ++ encode_message (Away 0 0 100) ++ two_leg 5 0 buy 1 sell 1 (pos 60) 4) 0 8
    (accepted 1 5 ++ (answer 6 0 9 2 ∷ generated 4 0 0 129 125 4 ∷ generated 4 1 1 71 75 4
    ∷ answer 7 0 0 0 ∷ removed 4 0 0 OutOfBand ∷ removed 4 1 1 OutOfBand ∷ answer 8 0 0 0 ∷ []))
    -- "remove legging orders on those two sides" alone, also in auction
    ∷ session 200 (legged ++ in_auction 2 ++ enters 4 2 buy 50 5 ++ pair_up 5 0 2 sell (minus 165) 5) 0 8
    (legged_sheet ++ (answer 6 0 5 2 ∷ answer 7 0 5 2 ∷ answer 8 0 4 1 ∷ removed 3 0 0 Touched ∷ []))
    -- "its total size", "trades by id"
    ∷ session 300 (opening ++ enters 3 1 sell 90 5 ++ buys_both 4 (pos 220) 14) 0 6
    (accepted 1 6 ++ (trade 0 0 130 14 4 1 ∷ trade 1 0 90 12 4 2 ∷ trade 1 0 90 2 4 3 ∷ pair 4 (pos 220) 14 ∷ []))
    -- "while best regular prices net ≤ N", "the least of open quantity and both sizes": 220 for 3, 225 for 4, and 230 is too much
    ∷ session 300 (opens 0 ++ opens 1 ++ enters 1 0 sell 130 3 ++ enters 2 0 sell 135 9 ++ enters 3 1 sell 90 7 ++ enters 4 1 sell 95 9 ++ buys_both 5 (pos 225) 12) 0 7
    (accepted 1 6 ++ (answer 7 0 5 2 ∷ trade 0 0 130 3 5 1 ∷ trade 1 0 90 3 5 3 ∷ pair 5 (pos 220) 3 ∷ trade 0 0 135 4 5 2 ∷ trade 1 0 90 4 5 3 ∷ pair 5 (pos 225) 4
    ∷ generated 5 0 0 130 130 5 ∷ generated 5 1 0 90 90 5 ∷ []))
    -- the same of bids: 220 for 3, 215 for 4, and 210 is too little
    ∷ session 300 (opens 0 ++ opens 1 ++ enters 1 0 buy 130 3 ++ enters 2 0 buy 125 9 ++ enters 3 1 buy 90 7 ++ enters 4 1 buy 85 9 ++ pair_up 5 0 1 sell (minus 215) 12) 0 7
    (accepted 1 6 ++ (answer 7 0 10 2 ∷ trade 0 1 130 3 5 1 ∷ trade 1 1 90 3 5 3 ∷ pair 5 (minus 220) 3 ∷ trade 0 1 125 4 5 2 ∷ trade 1 1 90 4 5 3 ∷ pair 5 (minus 215) 4
    ∷ generated 5 0 1 130 130 5 ∷ generated 5 1 1 90 90 5 ∷ []))
    -- best regular prices of both legs: then none is left in series 1, which order 3 names first and order 4 second, and an away offer is no such price
    ∷ session 250 (opening ++ encode_message (Away 1 0 100) ++ pair_up 3 1 0 buy (pos 225) 20 ++ pair_up 4 0 1 buy (pos 225) 2) 0 7
    (accepted 1 5 ++ (answer 6 0 4 1 ∷ trade 1 0 90 12 3 2 ∷ trade 0 0 130 12 3 1 ∷ pair 3 (pos 220) 12 ∷ generated 3 1 0 95 95 3 ∷ answer 7 0 4 1 ∷ []))
    -- "The rest rests; settle; generate for its first leg, then second": order 4's legging orders go before order 5's come
    ∷ session 400 (opening ++ enters 3 1 sell 95 20 ++ buys_both 4 (pos 205) 8 ++ buys_both 5 (pos 220) 14) 0 7
    (accepted 1 5 ++ (answer 6 0 5 2 ∷ generated 4 0 0 115 115 8 ∷ generated 4 1 0 75 75 8
    ∷ answer 7 0 5 2 ∷ trade 0 0 130 12 5 1 ∷ trade 1 0 90 12 5 2 ∷ pair 5 (pos 220) 12 ∷ removed 4 0 0 Unpaired ∷ removed 4 1 0 Unpaired
    ∷ generated 5 0 0 125 125 2 ∷ generated 5 1 0 90 90 2 ∷ []))
    -- "settle once and then generate": order 1 legs in, which leaves 3 of the 5 that order 4's legging orders were made for
    ∷ session 350 (opens 0 ++ opens 1 ++ buys_both 1 (pos 220) 2 ++ enters 2 0 sell 130 5 ++ enters 3 1 sell 90 5 ++ buys_both 4 (pos 205) 5 ++ sweeps) 0 7
    (accepted 1 5 ++ (answer 6 0 5 2 ∷ generated 4 0 0 115 115 5 ∷ generated 4 1 0 75 75 5
    ∷ answer 7 0 5 2 ∷ trade 0 0 130 2 1 2 ∷ trade 1 0 90 2 1 3 ∷ pair 1 (pos 220) 2 ∷ removed 4 0 0 Unpaired ∷ removed 4 1 0 Unpaired
    ∷ generated 4 0 0 115 115 3 ∷ generated 4 1 0 75 75 3 ∷ []))
    ∷ session 200 (opens 0 ++ opens 1 ++ buys_both 1 (pos 205) 8 ++ enters 2 0 sell 130 15 ++ enters 3 1 sell 90 12 ++ sweeps) 0 6
    (accepted 1 5 ++ (answer 6 0 5 2 ∷ generated 1 0 0 115 115 8 ∷ generated 1 1 0 75 75 8 ∷ []))
    -- "Cancel: 71, then removals (4)"
    ∷ next (cancels 3) (answer 6 0 0 0 ∷ cancelled 3 8 ∷ removed 3 0 0 Withdrawn ∷ removed 3 1 0 Withdrawn ∷ [])
    ∷ []

-- Generation ----------------------------------------------------------------------------------

-- an offer of 90 in series 1, and in series 0 an away offer alone
away_alone : (offer : ℕ) → List ℕ
away_alone q = opens 0 ++ opens 1 ++ enters 1 1 sell 90 12 ++ encode_message (Away 0 0 q)

-- an offer of 100 in series 1, and in series 0 an away bid of 99,995; order 2 sells in 0 and buys in 1
near_top : (n : ℤ) → List ℕ
near_top n = opens 0 ++ opens 1 ++ enters 1 1 sell 100 5 ++ encode_message (Away 0 99995 0) ++ two_leg 2 0 sell 1 buy 1 n 4

pub made : List Trial
made =
    -- "clear price present": there is no regular offer
    session 100 (quoted ++ buys_both 1 (pos 90) 5) 0 5 (accepted 1 5)
    -- "displayed price from the increment": 3 would be shown at 0
    ∷ session 150 (away_alone 10 ++ buys_both 2 (pos 93) 3) 0 5 (accepted 1 5)
    ∷ session 150 (away_alone 10 ++ buys_both 2 (pos 95) 3) 0 5 (accepted 1 4 ++ (answer 5 0 1 1 ∷ generated 2 0 0 5 5 3 ∷ []))
    -- "to 100,000": 100,001 would be shown at 100,005
    ∷ session 150 (near_top (minus 99900)) 0 5 (accepted 1 4 ++ (answer 5 0 2 1 ∷ generated 2 0 1 100000 100000 4 ∷ []))
    ∷ session 150 (near_top (minus 99901)) 0 5 (accepted 1 5)
    -- "not worse than best regular of its side": 115 is, of 120
    ∷ session 150 (opening ++ enters 3 0 buy 120 5 ++ buys_both 4 (pos 205) 8) 0 6 (accepted 1 5 ++ (answer 6 0 4 1 ∷ generated 4 1 0 75 75 8 ∷ []))
    -- "p itself": 113 reaches 112, though 110 is shown
    ∷ session 150 (away_alone 112 ++ buys_both 2 (pos 203) 3) 0 5 (accepted 1 5)
    ∷ session 150 (away_alone 114 ++ buys_both 2 (pos 203) 3) 0 5 (accepted 1 4 ++ (answer 5 0 1 1 ∷ generated 2 0 0 113 110 3 ∷ []))
    -- "any own price opposite": in the sweep, which touches too, order 3's legging order, at 100, is there again before order 4's turn
    ∷ session 300 (three_open ++ enters 2 1 buy 70 5 ++ encode_message (Away 0 80 120) ++ pair_up 3 0 1 sell (minus 170) 4 ++ pair_up 4 0 2 buy (pos 150) 5 ++ sweeps) 0 9
    (accepted 1 6 ++ (answer 7 0 2 1 ∷ generated 3 0 1 100 100 4 ∷ answer 8 0 1 1 ∷ removed 3 0 1 Touched ∷ generated 4 0 0 100 100 5
    ∷ answer 9 0 2 1 ∷ removed 4 0 0 Touched ∷ generated 3 0 1 100 100 4 ∷ []))
    -- "no other standing order would then fail its test", at an earlier place: in series 1 a bid of 91 would hide that of 90
    ∷ session 200 (opens 0 ++ opens 1 ++ opens 2 ++ enters 1 1 buy 90 10 ++ encode_message (Away 0 80 0) ++ pair_up 2 1 0 sell (minus 200) 5
    ++ enters 3 2 sell 50 5 ++ encode_message (Away 1 0 120) ++ pair_up 4 1 2 buy (pos 141) 5) 0 9
    (accepted 1 5 ++ (answer 6 0 2 1 ∷ generated 2 0 1 110 110 5 ∷ answer 7 0 2 1 ∷ answer 8 0 2 1 ∷ answer 9 0 2 1 ∷ []))
    -- "held at a worse price": 112 and 113 are both shown at 110
    ∷ session 250 (opening ++ buys_both 3 (pos 202) 8 ++ buys_both 4 (pos 203) 8) 0 6
    (accepted 1 4 ++ (answer 5 0 5 2 ∷ generated 3 0 0 112 110 8 ∷ generated 3 1 0 72 70 8
    ∷ answer 6 0 5 2 ∷ removed 3 0 0 Replaced ∷ generated 4 0 0 113 110 8 ∷ removed 3 1 0 Replaced ∷ generated 4 1 0 73 70 8 ∷ []))
    -- "at equal price by class 1 while this is class 0": not by class 0, and not at a better price
    ∷ session 200 (opening ++ two_leg 3 0 buy 1 buy 0 (pos 205) 8 ++ two_leg 4 0 buy 1 buy 0 (pos 205) 9) 0 6 (legged_sheet ++ (answer 6 0 5 2 ∷ []))
    ∷ next (two_leg 4 0 buy 1 buy 0 (pos 200) 9) (answer 6 0 5 2 ∷ [])
    -- "Quantity: the lesser of open and size": nothing is open after the cross
    ∷ session 200 (opening ++ encode_message (Away 0 100 0) ++ encode_message (Away 1 60 0) ++ pair_up 3 0 1 sell (minus 205) 4 ++ buys_both 4 (pos 205) 4) 0 8
    (accepted 1 8 ++ (crossed 4 3 (pos 205) 4 ∷ []))
    ∷ []

-- Soundness, clause by clause: the venue that `legged` leaves, with one thing changed ---------

-- these, complex order 3, and a legging order at a place
standing : (n : ℕ) (l : Legging) → Venue
standing n l = legs_up 0 resting 0 (both 3 8) n l

base : Venue
base = standing 0 (leg 3 115 8)

-- order 3 sells in series 0 and buys in 1, at N; its legging order sells at a price
at_top : (n : ℤ) (price : ℕ) (bids : List Regular) → Venue
at_top n p os =
    legs_up 99995 (rest 1 1 sell 100 10 ∷ os) 0
    (record { id = 3; series1 = 0; side1 = sell; series2 = 1; side2 = buy; class = 1; limit = n; quantity = 5; ratio1 = 1; ratio2 = 1 })
    1 (leg 3 p 5)

-- an offer of 130 in series 0 and a bid of 70 in 1
market : (offered bid : ℕ) → List Regular
market x y = rest 1 0 sell 130 x ∷ rest 2 1 buy 70 y ∷ []

-- complex order 3 buys in series 0 and sells in 1
spreading : (n : ℤ) (quantity : ℕ) → Complex
spreading n q = record { id = 3; series1 = 0; side1 = buy; series2 = 1; side2 = sell; class = 1; limit = n; quantity = q; ratio1 = 1; ratio2 = 1 }

-- a sound venue, of this mask and count: a cancel of what does not rest
is_sound : Venue → (m n : ℕ) → Trial
is_sound v m n = upon v 5 100 (cancels 9) 8 1 (answer 6 8 m n ∷ []) v

-- an unsound one: given back, with 9
unsound : Venue → Trial
unsound v = upon v 5 100 (cancels 9) 9 0 [] v

-- complex order 3 at a limit with ratios, resting alone in a sound venue; and in an unsound one with a legging order or none
weighed : (n : ℤ) (r q : ℕ) → Trial
weighed n r q = is_sound (legs_up 0 resting 0 (by_ratios n r q) 0 no_legging) 0 0

misweighed : (n : ℤ) (r q : ℕ) (l : Legging) → Trial
misweighed n r q l = unsound (legs_up 0 resting 0 (by_ratios n r q) 0 l)

-- a series that is locked
locked : (series : ℕ) → Trial
locked s = unsound (legs_up 0 (rest 1 s sell 100 1 ∷ rest 2 s buy 100 1 ∷ []) 0 no_complex 0 no_legging)

-- a free place with something in it
stale : Regular → Trial
stale o = unsound (with_regular base (set base.regular 127 o))

stale_complex : Complex → Trial
stale_complex c = unsound (with_complex base (set base.complex 31 c))

stale_legging : Legging → Trial
stale_legging l = unsound (with_legging base (set base.legging 15 l))

-- a series' fields
listing : Listed → Trial
listing x = unsound (with_series base (set base.series 7 x))

pub faults : List Trial
faults =
    is_sound base 1 1 ∷ is_sound (standing 2 (leg 3 75 8)) 4 1 ∷ is_sound (at_top (minus 99900) 100000 []) 2 1
    ∷ is_sound (with_last (legs_up 0 (rest 1 0 buy 130 15 ∷ rest 2 1 buy 90 12 ∷ []) 0 no_complex 0 no_legging) 2) 0 0 ∷ is_sound (legs_up 0 [] 0 (both 1 8) 0 no_legging) 0 0
    ∷ is_sound (with_last base 4294967295) 1 1 ∷ is_sound (standing 0 (leg 3 1 8)) 1 1 ∷ is_sound (legs_up 0 (market 15 6) 0 (spreading (pos 59) 4) 3 (leg 3 71 4)) 8 1
    -- "fields are in range"
    ∷ unsound (legs_up 0 (rest 1 0 sell 131 15 ∷ rest 2 1 sell 90 12 ∷ []) 0 (both 3 8) 0 (leg 3 115 8))
    ∷ unsound (legs_up 0 resting 0 (record { id = 3; series1 = 0; side1 = buy; series2 = 1; side2 = buy; class = 2; limit = pos 205; quantity = 8; ratio1 = 1; ratio2 = 1 }) 0 (leg 3 115 8))
    ∷ unsound (standing 0 (leg 3 0 8)) ∷ unsound (at_top (minus 99901) 100001 [])
    ∷ listing (record { status = 3; bid = 0; offer = 0 }) ∷ listing (record { status = 0; bid = 100001; offer = 0 })
    ∷ listing (record { status = 0; bid = 0; offer = 100001 }) ∷ unsound (with_last base 4294967296)
    -- "resting ids distinct and at most the last id"
    ∷ unsound (legs_up 0 resting 0 (both 2 8) 0 (leg 2 115 8)) ∷ unsound (legs_up 0 resting 0 (both 4 8) 0 (leg 4 115 8))
    ∷ unsound (with_last (legs_up 0 resting 0 no_complex 0 no_legging) 1)
    -- held places first, by id, and free places zero
    ∷ unsound (legs_up 0 (rest 2 0 sell 130 15 ∷ rest 1 1 sell 90 12 ∷ []) 0 (both 3 8) 0 (leg 3 115 8))
    ∷ unsound (legs_up 0 (rest 1 0 sell 130 15 ∷ no_regular ∷ rest 2 1 sell 90 12 ∷ []) 0 (both 3 8) 0 (leg 3 115 8))
    ∷ unsound (legs_up 0 resting 1 (both 3 8) 0 (leg 3 115 8))
    ∷ stale (rest 1 0 0 0 0) ∷ stale (rest 0 1 0 0 0) ∷ stale (rest 0 0 1 0 0) ∷ stale (rest 0 0 0 5 0) ∷ stale (single 0 0 0 0 0 1)
    ∷ stale (record { id = 0; series = 0; side = 0; price = 0; quantity = 0; display = 0; reserve = 1 })
    ∷ stale_complex (record { id = 1; series1 = 0; side1 = 0; series2 = 0; side2 = 0; class = 0; limit = pos 0; quantity = 0; ratio1 = 0; ratio2 = 0 })
    ∷ stale_complex (record { id = 0; series1 = 1; side1 = 0; series2 = 0; side2 = 0; class = 0; limit = pos 0; quantity = 0; ratio1 = 0; ratio2 = 0 })
    ∷ stale_complex (record { id = 0; series1 = 0; side1 = 1; series2 = 0; side2 = 0; class = 0; limit = pos 0; quantity = 0; ratio1 = 0; ratio2 = 0 })
    ∷ stale_complex (record { id = 0; series1 = 0; side1 = 0; series2 = 1; side2 = 0; class = 0; limit = pos 0; quantity = 0; ratio1 = 0; ratio2 = 0 })
    ∷ stale_complex (record { id = 0; series1 = 0; side1 = 0; series2 = 0; side2 = 1; class = 0; limit = pos 0; quantity = 0; ratio1 = 0; ratio2 = 0 })
    ∷ stale_complex (record { id = 0; series1 = 0; side1 = 0; series2 = 0; side2 = 0; class = 1; limit = pos 0; quantity = 0; ratio1 = 0; ratio2 = 0 })
    ∷ stale_complex (record { id = 0; series1 = 0; side1 = 0; series2 = 0; side2 = 0; class = 0; limit = minus 1; quantity = 0; ratio1 = 0; ratio2 = 0 })
    ∷ stale_complex (record { id = 0; series1 = 0; side1 = 0; series2 = 0; side2 = 0; class = 0; limit = pos 0; quantity = 0; ratio1 = 1; ratio2 = 0 }) ∷ stale_complex (record { id = 0; series1 = 0; side1 = 0; series2 = 0; side2 = 0; class = 0; limit = pos 0; quantity = 0; ratio1 = 0; ratio2 = 1 })
    ∷ stale_legging (leg 3 0 0) ∷ stale_legging (leg 0 115 0)
    -- "no series is locked or crossed counting own prices": by regular orders in each series; by a legging order of either side
    ∷ locked 0 ∷ locked 1 ∷ locked 2 ∷ locked 3 ∷ locked 4 ∷ locked 5 ∷ locked 6 ∷ locked 7
    ∷ unsound (legs_up 0 (rest 1 0 sell 115 15 ∷ rest 2 1 sell 90 12 ∷ []) 0 (both 3 8) 0 (leg 3 115 8))
    ∷ unsound (at_top (minus 99900) 100000 (rest 2 0 buy 100000 1 ∷ []))
    -- "each legging order matches an open parent leg": no parent; the other side; another series
    ∷ unsound (standing 0 (leg 2 115 8)) ∷ unsound (standing 1 (leg 3 115 8)) ∷ unsound (standing 3 (leg 3 75 8)) ∷ unsound (standing 4 (leg 3 75 8))
    -- request (g): "a given venue with a legging order of one, or one of equal ratios, is unsound"; one to one it is of kind 2, and N within 200,000
    ∷ weighed (pos 600000) 2 1 ∷ weighed (minus 600000) 1 3 ∷ weighed (pos 200000) 1 1 ∷ weighed (minus 200000) 1 1
    ∷ misweighed (pos 205) 2 2 no_legging ∷ misweighed (pos 205) 3 3 no_legging ∷ misweighed (pos 205) 0 1 no_legging ∷ misweighed (pos 205) 1 0 no_legging
    ∷ misweighed (pos 205) 4 1 no_legging ∷ misweighed (pos 205) 1 4 no_legging ∷ misweighed (pos 600001) 2 1 no_legging ∷ misweighed (minus 600001) 1 2 no_legging
    ∷ misweighed (pos 200001) 1 1 no_legging ∷ misweighed (minus 200001) 1 1 no_legging
    ∷ misweighed (pos 205) 2 1 (leg 3 115 8) ∷ misweighed (pos 205) 1 2 (leg 3 115 8)
    -- "is no larger than what its parent has open"; "passes its test": 116 and 90 are 206
    ∷ unsound (standing 0 (leg 3 115 9)) ∷ unsound (standing 0 (leg 3 116 8))
    ∷ []

-- Calls: the venue left, and what is written --------------------------------------------------

-- complex order 1 or 2 of `pairs`, resting alone
lone : (id : ℕ) → Venue
lone i = legs_up 0 [] 0 (record { id = i; series1 = 0; side1 = buy; series2 = 1; side2 = buy; class = 1; limit = pos 100; quantity = 1; ratio1 = 1; ratio2 = 1 }) 0 no_legging

-- series 0 with a status and away prices
quoting : (status bid offer : ℕ) → Venue
quoting x b a = with_series fresh_venue (set fresh_venue.series 0 (record { status = x; bid = b; offer = a }))

-- complex orders in series that are closed, with ids from n on, and then one more
idle : (count n : ℕ) → Complex → List Complex
idle zero n c = c ∷ []
idle (suc k) n c = record { id = n; series1 = 2; side1 = buy; series2 = 3; side2 = buy; class = 1; limit = pos 100; quantity = 1; ratio1 = 1; ratio2 = 1 } ∷ idle k (suc n) c

-- 32 complex orders, of which the last, of this quantity, buys series 0 and 1 at 220
all_held : (orders : List Regular) (quantity : ℕ) → List Legging → Venue
all_held os q ls = record {
  regular = os ++ drop (length os) fresh_venue.regular;
  complex = idle 31 1 (record { id = 32; series1 = 0; side1 = buy; series2 = 1; side2 = buy; class = 1; limit = pos 220; quantity = q; ratio1 = 1; ratio2 = 1 });
  legging = ls ++ drop (length ls) fresh_venue.legging;
  series = open1 0 ∷ open1 0 ∷ replicate 6 not_listed;
  generations = fresh_venue.generations;
  reached = 0;
  last = 40;
  editions = fresh_venue.editions;
}

pub lefts : List Trial
lefts =
    -- what `legged` leaves
    onward fresh_venue 0 200 legged 0 5 legged_sheet legged_venue
    -- one message: the hit, and the cancel of an order before another
    ∷ upon base 5 200 (enters 4 0 sell 115 5) 0 1
    (answer 6 0 0 0 ∷ trade 0 1 115 5 4 3 ∷ trade 1 0 90 5 3 2 ∷ pair 3 (pos 205) 5 ∷ removed 3 0 0 Executed ∷ [])
    (with_last (legs_up 0 (rest 1 0 sell 130 15 ∷ rest 2 1 sell 90 7 ∷ []) 0 (both 3 3) 0 no_legging) 4)
    ∷ upon base 5 100 (cancels 1) 0 1 (answer 6 0 0 0 ∷ cancelled 1 15 ∷ removed 3 0 0 OutOfBand ∷ []) (legs_up 0 (rest 2 1 sell 90 12 ∷ []) 0 (both 3 8) 0 no_legging)
    -- a complex order of two sides, in part: 60 is in the band of 60
    ∷ upon (with_last (legs_up 0 (market 15 6) 0 no_complex 0 no_legging) 2) 5 200 (two_leg 3 0 buy 1 sell 1 (pos 60) 8) 0 1
    (answer 6 0 0 0 ∷ trade 0 0 130 6 3 1 ∷ trade 1 1 70 6 3 2 ∷ pair 3 (pos 60) 6 ∷ []) (legs_up 0 (rest 1 0 sell 130 9 ∷ []) 0 (spreading (pos 60) 2) 0 no_legging)
    -- a status leaves the away prices, and these leave the status
    ∷ upon (quoting 0 80 120) 0 20 (opens 0) 0 1 (answer 1 0 0 0 ∷ []) (quoting 1 80 120)
    ∷ upon (quoting 2 80 120) 0 20 (encode_message (Away 0 85 115)) 0 1 (answer 1 0 0 0 ∷ []) (quoting 2 85 115)
    -- a sweep of 32 orders: the last legs in and generates
    ∷ upon (all_held (rest 33 0 sell 130 15 ∷ rest 34 1 sell 90 12 ∷ rest 35 1 sell 95 20 ∷ []) 14 []) 0 200 sweeps 0 1
    (answer 1 0 5 2 ∷ trade 0 0 130 12 32 33 ∷ trade 1 0 90 12 32 34 ∷ pair 32 (pos 220) 12 ∷ generated 32 0 0 125 125 2 ∷ generated 32 1 0 90 90 2 ∷ [])
    (numbering (1 ∷ []) (1 ∷ []) (all_held (rest 33 0 sell 130 3 ∷ rest 35 1 sell 95 20 ∷ []) 2 (leg 32 125 2 ∷ no_legging ∷ leg 32 90 2 ∷ [])))
    -- a run: two complex orders, of which the first is cancelled, and a torn message; then one without room for its last message
    ∷ onward fresh_venue 0 100 (opens 0 ++ opens 1 ++ pairs 2 1 ++ cancels 1 ++ (4 ∷ 0 ∷ [])) 1 6
    (accepted 1 4 ++ (answer 5 0 0 0 ∷ cancelled 1 1 ∷ answer 6 1 0 0 ∷ [])) (with_last (lone 2) 2)
    ∷ onward (with_last (lone 1) 1) 3 20 (cancels 9 ++ cancels 1) 10 1 (answer 4 8 0 0 ∷ []) (with_last (lone 1) 1)
    ∷ []

-- A run upon a venue that a host holds --------------------------------------------------------

pub continued : List Trial
continued =
    -- the printed session's last message, after one that is refused
    onward legged_venue 5 200 (cancels 9 ++ enters 4 0 sell 115 5) 0 2
    (answer 6 8 5 2 ∷ answer 7 0 0 0 ∷ trade 0 1 115 5 4 3 ∷ trade 1 0 90 5 3 2 ∷ pair 3 (pos 205) 5
    ∷ removed 3 0 0 Executed ∷ removed 3 1 0 Executed ∷ [])
    (numbering (5 ∷ []) (5 ∷ []) (with_last (legs_up 0 (rest 1 0 sell 130 15 ∷ rest 2 1 sell 90 7 ∷ []) 0 (both 3 3) 0 no_legging) 4))
    -- the list is empty
    ∷ onward legged_venue 5 20 [] 0 0 [] legged_venue
    -- 9: the venue is unsound, also where the list is empty; message 5, whose number two generations have, is not above these
    ∷ onward twice 7 100 (sweeps ++ sweeps) 9 0 [] twice
    ∷ onward twice 7 100 [] 9 0 [] twice
    ∷ onward legged_venue 4 100 sweeps 9 0 [] legged_venue
    ∷ onward legged_venue 4 100 [] 9 0 [] legged_venue
    -- 1: a message of length 3 is torn and answered, and the sweep after it is not done
    ∷ onward legged_venue 5 100 (cancels 9 ++ (3 ∷ 0 ∷ 6 ∷ 0 ∷ []) ++ sweeps) 1 2 (answer 6 8 5 2 ∷ answer 7 1 5 2 ∷ []) legged_venue
    -- 10: of 57 bytes 12 are written, the cancel's 46 do not fit, and the message after it, whose 12 would, is not done; with 58 all but that one is
    ∷ onward legged_venue 5 57 (cancels 9 ++ cancels 3 ++ cancels 9) 10 1 (answer 6 8 5 2 ∷ []) legged_venue
    ∷ onward legged_venue 5 58 (cancels 9 ++ cancels 3 ++ cancels 9) 10 2
    (answer 6 8 5 2 ∷ answer 7 0 0 0 ∷ cancelled 3 8 ∷ removed 3 0 0 Withdrawn ∷ removed 3 1 0 Withdrawn ∷ [])
    (numbering (5 ∷ []) (5 ∷ []) (legs_up 0 resting 0 no_complex 0 no_legging))
    -- "or its number would pass 4,294,967,295": before the second message; before the first, torn or not; and not where the list is empty. 9 before it
    ∷ onward fresh_venue 4294967294 100 (sweeps ++ sweeps) 10 1 (answer 4294967295 0 0 0 ∷ []) fresh_venue
    ∷ onward fresh_venue 4294967295 100 sweeps 10 0 [] fresh_venue
    ∷ onward fresh_venue 4294967295 100 (3 ∷ []) 10 0 [] fresh_venue
    ∷ onward fresh_venue 4294967295 100 [] 0 0 [] fresh_venue
    ∷ onward twice 4294967295 100 sweeps 9 0 [] twice
    ∷ []

-- Numbers -------------------------------------------------------------------------------------

-- a record of each kind that names order 3
named : List Report
named =
    answer 3 3 3 3 ∷ trade 0 1 115 5 4 3 ∷ trade 1 0 90 6 3 2 ∷ trade 0 0 120 7 3 1 ∷ pair 3 (pos 205) 8 ∷ generated 3 0 0 115 115 9
    ∷ removed 3 0 0 Executed ∷ crossed 3 4 (pos 1) 10 ∷ crossed 5 3 (pos 1) 20 ∷ cancelled 3 11 ∷ looked 3 ∷ []

pub numbers : List Trial
numbers =
    -- "At most 128 regular and 32 complex orders rest", "16 places", "8 option series"
    counted (length fresh_venue.regular) 128 ∷ counted (length fresh_venue.complex) 32
    ∷ counted (length fresh_venue.legging) 16 ∷ counted (length fresh_venue.series) 8
    -- no length where there is no such kind
    ∷ counted (length_of 0) 0 ∷ counted (length_of 12) 0
    -- the numbers of answers that are enums
    ∷ counted (verdict_number Stands) 0 ∷ counted (verdict_number (Fails NotOpen)) 6 ∷ counted (verdict_number (Fails NoUnit)) 10
    -- the number that a decoding tells, where it names the refusal, and where it has the refusal's number
    ∷ counted (decoded_number refusal_number (Ok Sweep)) 0 ∷ counted (decoded_number refusal_number (Err WrongLength)) 3
    ∷ counted (decoded_number (λ x. x) (Ok Sweep)) 0 ∷ counted (decoded_number (λ x. x) (Err 3)) 3
    -- "contracts in a series from that series' 65, as taker or maker; pairs, or paired, from 66; crossed from 70, as taker or maker; cancelled from 71"
    ∷ counted (total (contracts 3 0) named) 12 ∷ counted (total (contracts 3 1) named) 6 ∷ counted (total (contracts 4 0) named) 5 ∷ counted (total (contracts 4 1) named) 0
    ∷ counted (total (contracts_at 3 0 115) named) 5 ∷ counted (total (contracts_at 3 0 120) named) 7 ∷ counted (total (contracts_at 3 1 120) named) 0
    ∷ counted (total (paired 3) named) 8 ∷ counted (total (paired 4) named) 0
    ∷ counted (total (crossed_for 3) named) 30 ∷ counted (total (crossed_for 5) named) 20 ∷ counted (total (crossed_for 6) named) 0
    ∷ counted (total (cancelled_of 3) named) 11 ∷ counted (total (cancelled_of 4) named) 0
    -- 67 of a series
    ∷ counted (total (generated_of 0) named) 1 ∷ counted (total (generated_of 1) named) 0
    -- "still open is the quantity resting in the venue left (0 if none rests)"
    ∷ counted (open_regular 2 resting) 12 ∷ counted (open_regular 3 resting) 0 ∷ counted (open_complex 3 (both 2 8 ∷ both 3 9 ∷ [])) 9
    ∷ []

-- Settings with dates -------------------------------------------------------------------------

increments : (series increment edition : ℕ) → List ℕ
increments s i e = encode_message (Increment s i e)

bands : (percent edition : ℕ) → List ℕ
bands x e = encode_message (Percent x e)

-- series 6 closed, editions 1 and 3, entered by messages 1 and 2, and then one more place
dating : Edition → Venue
dating e =
    with_editions (set_status 6 closed fresh_venue) (record { edition = 1; message = 1; figure = 0; value = 1 } ∷ record { edition = 3; message = 2; figure = 8; value = 4 } ∷ e ∷ replicate 29 no_edition)

-- and edition 7, entered by message 4
dated : Venue
dated = dating (record { edition = 7; message = 4; figure = 6; value = 5 })

-- editions of the percentage from n on
many : (count n : ℕ) → List ℕ
many zero n = []
many (suc count) n = bands 5 n ++ many count (suc n)

-- 32 editions, the last of them with this number and this message
full : (edition message : ℕ) → Venue
full e n = with_editions fresh_venue (kept 31 1)
  where
    kept : (count n : ℕ) → List Edition
    kept zero k = record { edition = e; message = n; figure = 8; value = 5 } ∷ []
    kept (suc count) k = record { edition = k; message = k; figure = 8; value = 5 } ∷ kept count (suc k)

-- series 0 has an increment of 1
finer : List ℕ
finer = closes 0 ++ increments 0 1 1 ++ opens 0

-- it has one of 10, and an order rests there at a price
coarser : (price : ℕ) → Venue
coarser p =
    with_editions (legs_up 0 (rest 1 0 sell p 15 ∷ []) 0 no_complex 0 no_legging) (record { edition = 1; message = 1; figure = 0; value = 10 } ∷ replicate 31 no_edition)

in_all : (first sixth percent : ℕ) → Settings
in_all a g x = record { number = 0; increments = a ∷ 5 ∷ 5 ∷ 5 ∷ 5 ∷ 5 ∷ g ∷ 10 ∷ []; percent = x }

pub seasons : List Trial
seasons =
    -- "of each, the last entered by a message numbered no higher"
    upon (dating no_edition) 3 100 (increments 6 5 7) 0 1 (answer 4 0 0 0 ∷ []) dated
    ∷ inforce dated 0 (in_all 5 10 5) ∷ inforce dated 1 (in_all 1 10 5) ∷ inforce dated 2 (in_all 1 10 4) ∷ inforce dated 3 (in_all 1 10 4)
    ∷ inforce dated 4 (in_all 1 5 4) ∷ inforce dated 4294967295 (in_all 1 5 4)
    -- "asked of an unsound venue, the settings are told as 9 and zeros"; editions that do not rise, in either number
    ∷ inforce twice 1 (record { number = 9; increments = 0 ∷ 0 ∷ 0 ∷ 0 ∷ 0 ∷ 0 ∷ 0 ∷ 0 ∷ []; percent = 0 })
    ∷ upon (full 31 32) 40 100 sweeps 9 0 [] (full 31 32)
    ∷ upon (full 32 31) 40 100 sweeps 9 0 [] (full 32 31)
    -- "from 0": an edition entered by message 0
    ∷ unsound (with_editions fresh_venue (record { edition = 1; message = 0; figure = 8; value = 5 } ∷ replicate 31 no_edition))
    -- "A one-message call whose number is not above every kept edition's gets 9."
    ∷ upon dated 3 100 sweeps 9 0 [] dated
    ∷ upon dated 4 100 sweeps 0 1 (answer 5 0 0 0 ∷ []) dated
    -- "Every band and increment in the rules reads the edition in force": 113 is shown at 113, and 4 percent leave 105 out of the band of 100
    ∷ session 300 (closes 0 ++ increments 0 1 1 ++ opening ++ enters 3 0 sell 131 1 ++ buys_both 4 (pos 203) 8) 0 8
    (accepted 1 7 ++ (answer 8 0 5 2 ∷ generated 4 0 0 113 113 8 ∷ generated 4 1 0 73 70 8 ∷ []))
    ∷ session 300 (opening ++ away_added ++ buys_both 3 (pos 105) 8 ++ bands 4 1) 0 8
    (accepted 1 6 ++ (answer 7 0 1 1 ∷ generated 3 0 0 15 15 8 ∷ answer 8 0 0 0 ∷ removed 3 0 0 OutOfBand ∷ []))
    -- an edition holds from its own message on: the settling of that message reads it
    ∷ session 300 (encode_message (Away 0 0 100) ++ enters 1 0 sell 130 15 ++ enters 2 1 sell 90 12 ++ buys_both 3 (pos 195) 8 ++ bands 2 1) 0 5
    (accepted 1 3 ++ (answer 4 0 4 1 ∷ generated 3 1 0 65 65 8 ∷ answer 5 0 0 0 ∷ removed 3 1 0 OutOfBand ∷ []))
    -- the last of several editions: 195 is in the band of 190 by 5 percent, and not by 2
    ∷ session 100 (encode_message (Away 0 0 100) ++ enters 1 0 sell 130 15 ++ enters 2 1 sell 90 12 ++ bands 2 1 ++ bands 5 2 ++ buys_both 3 (pos 195) 8) 0 6
    (accepted 1 5 ++ (answer 6 0 4 1 ∷ generated 3 1 0 65 65 8 ∷ []))
    -- the leg in's band, 200 in that of 190 by 10 percent; and the cross's, the maker's 225 in that of 210
    ∷ session 150 (bands 10 1 ++ encode_message (Away 0 0 100) ++ enters 1 0 sell 110 5 ++ enters 2 1 sell 90 5 ++ buys_both 3 (pos 200) 5) 0 5
    (accepted 1 5 ++ (trade 0 0 110 5 3 1 ∷ trade 1 0 90 5 3 2 ∷ pair 3 (pos 200) 5 ∷ []))
    ∷ session 150 (bands 10 1 ++ quoted ++ buys_both 2 (pos 225) 5 ++ pair_up 3 0 1 sell (minus 190) 3) 0 7 (accepted 1 7 ++ (crossed 3 2 (minus 225) 3 ∷ []))
    -- where the increment is 1, a bid of 113 is shown at 113 and is no worse than one of 112; and a bid of 3 is shown
    ∷ session 150 (finer ++ enters 1 1 sell 90 12 ++ encode_message (Away 0 0 130) ++ enters 2 0 buy 112 5 ++ buys_both 3 (pos 203) 8) 0 7
    (accepted 1 6 ++ (answer 7 0 1 1 ∷ generated 3 0 0 113 113 8 ∷ []))
    ∷ session 100 (finer ++ enters 1 1 sell 90 12 ++ encode_message (Away 0 0 10) ++ buys_both 2 (pos 93) 3) 0 6 (accepted 1 5 ++ (answer 6 0 1 1 ∷ generated 2 0 0 3 3 3 ∷ []))
    -- where the increment is 10, a given venue with an order at 110 is sound, and one with an order at 105 is not
    ∷ is_sound (coarser 110) 0 0 ∷ unsound (coarser 105)
    -- by an increment of 1, too: no legging order below it, and none shown above 100,000
    ∷ session 300 (closes 0 ++ increments 0 1 1 ++ opening ++ buys_both 3 (pos 50) 8) 0 7 (accepted 1 7)
    ∷ session 300 (closes 0 ++ increments 0 1 1 ++ opens 0 ++ enters 1 0 buy 130 15 ++ enters 2 1 buy 90 12 ++ pair_up 3 0 1 sell (neg_ℤ (pos 100091)) 8) 0 6
    (accepted 1 5 ++ (answer 6 0 8 1 ∷ generated 3 1 1 99961 99965 8 ∷ []))
    -- 3, 4 before 11, 11 before 12: "edition not above the last of either kind, at first 0"
    ∷ session 200 ((4 ∷ 0 ∷ 7 ∷ 0 ∷ []) ++ increments 0 2 0 ++ increments 0 1 0 ++ bands 4 1 ++ opens 0 ++ increments 0 1 1 ++ bands 4 1) 0 7
    (answer 1 3 0 0 ∷ answer 2 4 0 0 ∷ answer 3 11 0 0 ∷ answer 4 0 0 0 ∷ answer 5 0 0 0 ∷ answer 6 11 0 0 ∷ answer 7 11 0 0 ∷ [])
    -- 12: "a series that isn't closed or has a resting order or leg"
    ∷ session 300 (opening ++ buys_both 3 (pos 50) 1 ++ increments 0 1 1 ++ closes 0 ++ increments 0 1 1 ++ cancels 1 ++ increments 0 1 1
    ++ cancels 3 ++ increments 0 1 1 ++ closes 2 ++ increments 2 1 2) 0 14
    (accepted 1 5 ++ (answer 6 12 0 0 ∷ answer 7 0 0 0 ∷ answer 8 12 0 0 ∷ answer 9 0 0 0 ∷ cancelled 1 15 ∷ answer 10 12 0 0 ∷ answer 11 0 0 0 ∷ cancelled 3 1
    ∷ answer 12 0 0 0 ∷ answer 13 0 0 0 ∷ answer 14 0 0 0 ∷ []))
    -- a regular order alone
    ∷ session 50 (enters 1 0 sell 100 1 ++ closes 0 ++ increments 0 1 1) 0 3 (accepted 1 2 ++ (answer 3 12 0 0 ∷ []))
    -- a series in auction is not closed, and 25 is no increment; a complex order's second leg counts in its series, and neither leg in another
    ∷ session 100 (in_auction 0 ++ increments 0 1 1 ++ closes 0 ++ increments 0 25 1) 0 4 (answer 1 0 0 0 ∷ answer 2 12 0 0 ∷ answer 3 0 0 0 ∷ answer 4 4 0 0 ∷ [])
    ∷ session 100 (buys_both 1 (pos 100) 1 ++ closes 1 ++ increments 1 1 1 ++ closes 2 ++ increments 2 1 1) 0 5
    (accepted 1 2 ++ (answer 3 12 0 0 ∷ answer 4 0 0 0 ∷ answer 5 0 0 0 ∷ []))
    -- 13: "32 editions held already", after 11 and 12, of either kind
    ∷ session 500 (many 33 1 ++ bands 5 32 ++ opens 0 ++ increments 0 1 33 ++ closes 0 ++ increments 0 1 33) 0 38
    (accepted 1 32 ++ (answer 33 13 0 0 ∷ answer 34 11 0 0 ∷ answer 35 0 0 0 ∷ answer 36 12 0 0 ∷ answer 37 0 0 0 ∷ answer 38 13 0 0 ∷ []))
    ∷ []

-- A ceiling on legging traffic: request (m) -----------------------------------------------------

limited : (n : ℕ) → List ℕ
limited n = encode_message (LimitedSweep n)

-- complex orders 3, 4 and 5 rest in closed series, and a limited sweep has looked at an id
three : (reached : ℕ) → Venue
three r = with_reached (with_last (with_complex (set_status 0 closed (set_status 1 closed fresh_venue)) (both 3 1 ∷ both 4 1 ∷ both 5 1 ∷ drop 3 fresh_venue.complex)) 5) r

-- complex order 4 has joined, at 206
outbid : (leggings : List Legging) (first second : List ℕ) (reached : ℕ) → Venue
outbid ls ms ns r =
    let c : Complex = record { id = 4; series1 = 0; side1 = buy; series2 = 1; side2 = buy; class = 1; limit = pos 206; quantity = 8; ratio1 = 1; ratio2 = 1 } in
    let v = busy ls ms ns in
    with_reached (with_last (with_complex v (both 3 8 ∷ c ∷ drop 2 fresh_venue.complex)) 4) r

-- away prices at which order 3 and one that sells both cross; nothing rests
meeting : Venue
meeting = with_last (set_away 1 70 80 (set_away 0 120 130 fresh_venue)) 4

sells_both : Complex
sells_both = record { id = 4; series1 = 0; side1 = sell; series2 = 1; side2 = sell; class = 1; limit = neg_ℤ (pos 205); quantity = 1; ratio1 = 1; ratio2 = 1 }

pub traffic : List Trial
traffic =
    -- "at most 20 are generated in any 256 consecutive messages, the present one counted": 10 and 265 are in one, 10 and 266 are not
    upon (busy [] (replicate 20 10) []) 264 100 sweeps 0 1 (answer 265 0 4 1 ∷ generated 3 1 0 75 75 8 ∷ [])
    (busy (no_legging ∷ no_legging ∷ leg 3 75 8 ∷ []) (replicate 20 10) (265 ∷ []))
    ∷ upon (busy [] (replicate 20 10) []) 265 100 sweeps 0 1 (answer 266 0 5 2 ∷ generated 3 0 0 115 115 8 ∷ generated 3 1 0 75 75 8 ∷ [])
    (busy (leg 3 115 8 ∷ no_legging ∷ leg 3 75 8 ∷ []) (replicate 19 10 ++ (266 ∷ [])) (266 ∷ []))
    -- the oldest of the 20 alone is asked, and 19 are under the ceiling
    ∷ upon (busy [] (10 ∷ replicate 19 265) (replicate 19 265)) 265 100 sweeps 0 1 (answer 266 0 5 2 ∷ generated 3 0 0 115 115 8 ∷ generated 3 1 0 75 75 8 ∷ [])
    (busy (leg 3 115 8 ∷ no_legging ∷ leg 3 75 8 ∷ []) (replicate 19 265 ++ (266 ∷ [])) (replicate 19 265 ++ (266 ∷ [])))
    -- a replacement counts; at the ceiling the holder stays
    ∷ upon (outbid (leg 3 115 8 ∷ no_legging ∷ leg 3 75 8 ∷ []) (replicate 20 10) (10 ∷ []) 3) 264 100 (limited 1) 0 1
    (answer 265 0 5 2 ∷ looked 1 ∷ removed 3 1 0 Replaced ∷ generated 4 1 0 76 75 8 ∷ [])
    (outbid (leg 3 115 8 ∷ no_legging ∷ leg 4 76 8 ∷ []) (replicate 20 10) (10 ∷ 265 ∷ []) 4)
    -- "starting after the last id that a kind 11 looked at and going round by id"; "the lesser of n and the orders resting when it starts"
    ∷ upon (three 0) 0 100 (limited 1) 0 1 (answer 1 0 0 0 ∷ looked 1 ∷ []) (three 3)
    ∷ upon (three 4) 0 100 (limited 2) 0 1 (answer 1 0 0 0 ∷ looked 2 ∷ []) (three 3)
    ∷ upon (three 5) 0 100 (limited 2) 0 1 (answer 1 0 0 0 ∷ looked 2 ∷ []) (three 4)
    ∷ upon (three 4) 0 100 (limited 32) 0 1 (answer 1 0 0 0 ∷ looked 3 ∷ []) (three 4)
    ∷ upon fresh_venue 0 100 (limited 32) 0 1 (answer 1 0 0 0 ∷ looked 0 ∷ []) fresh_venue
    -- "that a kind 11 looked at": a sweep leaves it
    ∷ upon (three 4) 0 100 sweeps 0 1 (answer 1 0 0 0 ∷ []) (three 4)
    -- the id reached is the last one looked at, though it is gone
    ∷ upon (with_complex meeting (both 3 1 ∷ sells_both ∷ drop 2 fresh_venue.complex)) 0 100 (limited 2) 0 1
    (answer 1 0 0 0 ∷ looked 2 ∷ crossed 3 4 (pos 205) 1 ∷ []) (with_reached meeting 4)
    -- "generation too": order 4 first, and then order 3 has no place
    ∷ upon (outbid [] [] [] 3) 9 100 (limited 2) 0 1 (answer 10 0 5 2 ∷ looked 2 ∷ generated 4 0 0 116 115 8 ∷ generated 4 1 0 76 75 8 ∷ [])
    (outbid (leg 4 116 8 ∷ no_legging ∷ leg 4 76 8 ∷ []) (10 ∷ []) (10 ∷ []) 3)
    -- the second looks at order 2
    ∷ session 400 (buys_both 1 (pos 205) 8 ++ buys_both 2 (pos 206) 8 ++ enters 3 0 sell 130 15 ++ enters 4 1 sell 90 12 ++ limited 1 ++ limited 1) 0 6
    (accepted 1 4 ++ (answer 5 0 5 2 ∷ looked 1 ∷ generated 1 0 0 115 115 8 ∷ generated 1 1 0 75 75 8
    ∷ answer 6 0 5 2 ∷ looked 1 ∷ removed 1 0 0 Replaced ∷ generated 2 0 0 116 115 8 ∷ removed 1 1 0 Replaced ∷ generated 2 1 0 76 75 8 ∷ []))
    -- "one that is gone by its turn counts as looked at": order 2, which order 1 crosses; and order 6, which order 5 crosses
    ∷ session 200 (two_leg 1 0 buy 1 buy 0 (pos 150) 5 ++ two_leg 2 0 sell 1 sell 0 (minus 150) 5 ++ encode_message (Away 0 100 101) ++ encode_message (Away 1 50 51) ++ limited 2) 0 5
    (accepted 1 5 ++ (looked 2 ∷ crossed 1 2 (pos 150) 5 ∷ []))
    ∷ session 400 (kept_apart ++ sweeps ++ limited 32) 0 14
    (accepted 1 8 ++ (answer 9 0 8 1 ∷ generated 5 1 1 121 125 4 ∷ answer 10 0 8 1 ∷ answer 11 0 8 1 ∷ answer 12 0 8 1
    ∷ answer 13 0 28 3 ∷ trade 0 0 100 5 7 1 ∷ trade 2 0 50 5 7 8 ∷ pair 7 (pos 150) 5 ∷ generated 6 1 0 85 85 3 ∷ generated 7 2 0 20 20 2
    ∷ answer 14 0 24 2 ∷ looked 3 ∷ crossed 5 6 (minus 215) 3 ∷ removed 5 1 1 Executed ∷ removed 6 1 0 Executed ∷ generated 5 1 1 121 125 1 ∷ []))
    -- "a sweep": order 1 legs in, order 2 touches, and all this before the settling: order 5's legging orders are touched, do not fail, and come anew for 3
    ∷ session 250 (buys_both 1 (pos 220) 2 ++ pair_up 2 0 1 sell (minus 190) 5 ++ enters 3 0 sell 130 5 ++ enters 4 1 sell 90 5 ++ buys_both 5 (pos 205) 5 ++ limited 3) 0 6
    (accepted 1 4 ++ (answer 5 0 5 2 ∷ generated 5 0 0 115 115 5 ∷ generated 5 1 0 75 75 5 ∷ answer 6 0 5 2 ∷ looked 3 ∷ trade 0 0 130 2 1 3 ∷ trade 1 0 90 2 1 4 ∷ pair 1 (pos 220) 2
    ∷ removed 5 0 0 Touched ∷ removed 5 1 0 Touched ∷ generated 5 0 0 115 115 3 ∷ generated 5 1 0 75 75 3 ∷ []))
    -- settling before generation: order 4's, made for 5, fail and come anew for 3
    ∷ session 250 (buys_both 1 (pos 220) 2 ++ enters 2 0 sell 130 5 ++ enters 3 1 sell 90 5 ++ buys_both 4 (pos 205) 5 ++ limited 2) 0 5
    (accepted 1 3 ++ (answer 4 0 5 2 ∷ generated 4 0 0 115 115 5 ∷ generated 4 1 0 75 75 5 ∷ answer 5 0 5 2 ∷ looked 2 ∷ trade 0 0 130 2 1 2 ∷ trade 1 0 90 2 1 3 ∷ pair 1 (pos 220) 2
    ∷ removed 4 0 0 Unpaired ∷ removed 4 1 0 Unpaired ∷ generated 4 0 0 115 115 3 ∷ generated 4 1 0 75 75 3 ∷ []))
    -- touch alone
    ∷ session 200 (pair_up 1 0 1 sell (minus 190) 5 ++ enters 2 0 sell 130 15 ++ enters 3 1 sell 90 12 ++ buys_both 4 (pos 205) 8 ++ limited 2) 0 5
    (accepted 1 3 ++ (answer 4 0 5 2 ∷ generated 4 0 0 115 115 8 ∷ generated 4 1 0 75 75 8 ∷ answer 5 0 5 2 ∷ looked 2
    ∷ removed 4 0 0 Touched ∷ removed 4 1 0 Touched ∷ generated 4 0 0 115 115 8 ∷ generated 4 1 0 75 75 8 ∷ []))
    -- "limited to n resting orders": order 2 would leg in too
    ∷ session 150 (buys_both 1 (pos 220) 2 ++ buys_both 2 (pos 220) 2 ++ enters 3 0 sell 130 15 ++ enters 4 1 sell 90 12 ++ limited 1) 0 5
    (accepted 1 5 ++ (looked 1 ∷ trade 0 0 130 2 1 3 ∷ trade 1 0 90 2 1 4 ∷ pair 1 (pos 220) 2 ∷ []))
    -- all that it works find the shown size once: 3 of 15, for two orders that want 2 each
    ∷ session 200 (buys_both 1 (pos 220) 2 ++ buys_both 2 (pos 220) 2 ++ reserves 3 0 sell 130 15 3 ++ enters 4 1 sell 90 12 ++ limited 2) 0 5
    (accepted 1 5 ++ (looked 2 ∷ trade 0 0 130 2 1 3 ∷ trade 1 0 90 2 1 4 ∷ pair 1 (pos 220) 2 ∷ trade 0 0 130 1 2 3 ∷ trade 1 0 90 1 2 4 ∷ pair 2 (pos 220) 1 ∷ []))
    -- units of what shows alone, which shows again for the sweep and again for the limited one
    ∷ session 400 (reserves 1 0 sell 130 15 4 ++ enters 2 1 sell 90 12 ++ ratioed 3 buy 2 1 (pos 350) 5 ++ sweeps ++ limited 1) 0 5
    (accepted 1 3 ++ (trade 0 0 130 4 3 1 ∷ trade 1 0 90 2 3 2 ∷ pair 3 (pos 350) 2 ∷ answer 4 0 0 0 ∷ trade 0 0 130 4 3 1 ∷ trade 1 0 90 2 3 2 ∷ pair 3 (pos 350) 2
    ∷ answer 5 0 0 0 ∷ looked 1 ∷ trade 0 0 130 2 3 1 ∷ trade 1 0 90 1 3 2 ∷ pair 3 (pos 350) 1 ∷ []))
    -- 3 and 4
    ∷ session 100 ((4 ∷ 0 ∷ 11 ∷ 0 ∷ []) ++ limited 33) 0 2 (answer 1 3 0 0 ∷ answer 2 4 0 0 ∷ [])
    -- 9: a number that is not above a generation's; generations that fall; an id reached above the last
    ∷ upon (busy [] (replicate 20 10) []) 9 100 sweeps 9 0 [] (busy [] (replicate 20 10) [])
    ∷ upon (busy [] (5 ∷ 4 ∷ []) []) 9 100 sweeps 9 0 [] (busy [] (5 ∷ 4 ∷ []) [])
    ∷ upon (three 6) 9 100 sweeps 9 0 [] (three 6)
    ∷ []

-- `unfolding staged` opens every trial of these lists, as `opened-rules` does every definition
unfoldable staged : Unit {0}
unfolding together wrongs quoted relying in_auction resting_before kept_apart choices dearer respecting pairs gone layouts whole double increments_below edges offers twice refused met settled three_open far_apart worked away_alone near_top made standing base at_top is_sound unsound weighed misweighed locked stale stale_complex stale_legging listing market spreading faults lone quoting idle all_held lefts continued named numbers with_one half all_shown too_short reserved weighing ratioed one_each one_each_sheet tenth unequal increments bands dating dated many full finer coarser in_all seasons limited three outbid meeting sells_both traffic
staged = tt

-- every trial of a list comes out as it should; asked list by list, which takes the checker less than all at once
record Holds (l : List Trial) : Type 0 where
  pub out : map outcome l ≡ map expected l

infixl 20 ◌and◌
◌and◌ : {a b : List Trial} → Holds a → Holds b → Holds (a ++ b)
◌and◌ {a} {b} h k = record { out = map-append outcome a b ∙ ap₂ ◌++◌ h.out k.out ∙ sym (map-append expected a b) }

starred-holds : Holds starred
starred-holds = record { out = starred-hold }

wrongs-hold : Holds wrongs
unfolding opened-rules tried staged
wrongs-hold = record { out = refl }

choices-hold : Holds choices
unfolding opened-rules tried staged
choices-hold = record { out = refl }

respecting-hold : Holds respecting
unfolding opened-rules tried staged
respecting-hold = record { out = refl }

layouts-hold : Holds layouts
unfolding opened-rules tried staged
layouts-hold = record { out = refl }

edges-hold : Holds edges
unfolding opened-rules tried staged
edges-hold = record { out = refl }

refused-hold : Holds refused
unfolding opened-rules tried staged
refused-hold = record { out = refl }

met-hold : Holds met
unfolding opened-rules tried staged
met-hold = record { out = refl }

settled-hold : Holds settled
unfolding opened-rules tried staged
settled-hold = record { out = refl }

worked-hold : Holds worked
unfolding opened-rules tried staged
worked-hold = record { out = refl }

made-hold : Holds made
unfolding opened-rules tried staged
made-hold = record { out = refl }

faults-hold : Holds faults
unfolding opened-rules tried staged
faults-hold = record { out = refl }

lefts-hold : Holds lefts
unfolding opened-rules tried staged
lefts-hold = record { out = refl }

continued-hold : Holds continued
unfolding opened-rules tried staged
continued-hold = record { out = refl }

numbers-hold : Holds numbers
unfolding opened-rules tried staged
numbers-hold = record { out = refl }

pub trials : List Trial
trials = starred ++ wrongs ++ choices ++ respecting ++ layouts ++ edges ++ refused ++ met ++ settled ++ worked ++ made ++ faults ++ lefts ++ continued ++ numbers

pub trials-hold : map outcome trials ≡ map expected trials
unfolding trials
trials-hold =
    (starred-holds and wrongs-hold and choices-hold and respecting-hold and layouts-hold and edges-hold and refused-hold and met-hold and settled-hold
    and worked-hold and made-hold and faults-hold and lefts-hold and continued-hold and numbers-hold).out

pub reserves-hold : map outcome reserved ≡ map expected reserved
unfolding opened-rules tried staged
reserves-hold = refl

pub units-hold : map outcome unequal ≡ map expected unequal
unfolding opened-rules tried staged
units-hold = refl

pub seasons-hold : map outcome seasons ≡ map expected seasons
unfolding opened-rules tried staged
seasons-hold = refl

pub traffic-holds : map outcome traffic ≡ map expected traffic
unfolding opened-rules tried staged
traffic-holds = refl
