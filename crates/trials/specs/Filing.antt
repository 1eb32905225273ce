-- The filing's own examples: source document 001 (SR-Phlx-2014-54), Item 3, which works out ten, under the clauses of Rule 1080.08(f)(iii)(C) that they
-- explain. Series A to D are 0 to 3, and dollars are cents. Each comes out as the filing says, where document 01 keeps the rule; what 01 narrows or does
-- besides is said at each. They are stored as text as host/venue/tests/sessions/filing-1-generating.txt and so on, with their sheets.
use Rattle.std.specs.Prelude.{◌≡◌, refl, List, [], ◌∷◌, ◌++◌, map, ℕ, pos}
use Rattle.rules.specs.declared.Regular.{Regular}
use Rattle.rules.specs.declared.Complex.{Complex}
use Rattle.rules.specs.declared.Venue.{Venue}
use Rattle.rules.specs.declared.Message.TheVariants.{TwoLeg, Away, Status}
use Rattle.rules.specs.declared.Cause.TheVariants.{Worse, Unpaired, Executed, OutOfBand, NotOpen, Replaced, Touched, NoUnit}
use Rattle.rules.specs.Words.{buy, sell, no_complex, no_legging, fresh_venue, with_last}
use Rattle.rules.specs.Messages.{encode_message}
use Rattle.rules.specs.Records.{answer, trade, pair, generated, removed, crossed}
use Rattle.rules.specs.Opened.{opened-rules}
use Rattle.rules.specs.Trials.{Trial, session, onward, legs_up, rest, numbering, outcome, expected, minus, enters, pair_up, buys_both, sweeps, accepted, two_leg, tried}

-- a series in auction
auction : (series : ℕ) → List ℕ
auction s = encode_message (Status s 2)

-- a complex order to buy A and B at 2.25
buying : (id quantity : ℕ) → Complex
buying i q = record { id = i; series1 = 0; side1 = buy; series2 = 1; side2 = buy; class = 1; limit = pos 225; quantity = q; ratio1 = 1; ratio2 = 1 }

-- the books left: regular orders, a complex order, no legging order; A and B had one generation each, by the message of this number
books : List Regular → Complex → (generation last : ℕ) → Venue
books os c n last = numbering (n ∷ []) (n ∷ []) (with_last (legs_up 0 os 0 c 0 no_legging) last)

-- "A 30 at $1.05 (20 Legging Order) … 20 at $1.20", "B 30 at $1.05 (20 Legging Order) … 50 at $1.20": of complex order 5, by the two examples of (viii)
twenty : List ℕ
twenty = enters 1 0 buy 105 10 ++ enters 2 0 sell 120 20 ++ enters 3 1 buy 105 10 ++ enters 4 1 sell 120 50 ++ buys_both 5 (pos 225) 20

pub filing : List Trial
filing =
    -- 1. "Generating Legging Orders", (C)(1): buy 10 A and 10 B at 2.25, with bids of 1.00 and offers of 1.20. "Legging Orders to buy 10 A at $1.05 and 10 B at
    -- $1.05 may be automatically generated". An order to sell 10 A "will execute against the Legging Order to buy A at $1.05, there will be an automatic
    -- execution of the other leg … at $1.20, and the Legging Order to buy B at $1.05 will be automatically removed". The BBO that follows: A "10 at $1.00 …
    -- 20 at $1.20", B "10 at $1.00 … 10 at $1.20"
    onward fresh_venue 0 200 (enters 1 0 buy 100 10 ++ enters 2 0 sell 120 20 ++ enters 3 1 buy 100 10 ++ enters 4 1 sell 120 20 ++ buys_both 5 (pos 225) 10
    ++ enters 6 0 sell 105 10) 0 6
    (accepted 1 4 ++ (answer 5 0 5 2 ∷ generated 5 0 0 105 105 10 ∷ generated 5 1 0 105 105 10
    ∷ answer 6 0 0 0 ∷ trade 0 1 105 10 6 5 ∷ trade 1 0 120 10 5 4 ∷ pair 5 (pos 225) 10 ∷ removed 5 0 0 Executed ∷ removed 5 1 0 Executed ∷ []))
    (books (rest 1 0 buy 100 10 ∷ rest 2 0 sell 120 20 ∷ rest 3 1 buy 100 10 ∷ rest 4 1 sell 120 10 ∷ []) no_complex 5 6)
    -- 2. "Execution of Legging Orders", (C)(3): buy 50 A and 50 B at 2.25. An order to sell 30 A "will execute against the orders and/or quotes at $1.05 other
    -- than the Legging Order"; one to sell 50 A takes "the remaining 10 A", then "40 A against the Legging Order. At this time, the Complex Order will also
    -- execute 40 B at $1.20. The residual 10 contracts … and the Legging Order for 50 contracts of B will be removed." The BBO: A none and "60 at $1.20", B
    -- "20 at $1.05 … 40 at $1.20". 01 narrows: no quotes, and the lower id first for the allocation by participant
    ∷ onward fresh_venue 0 300 (enters 1 0 buy 105 40 ++ enters 2 0 sell 120 60 ++ enters 3 1 buy 105 20 ++ enters 4 1 sell 120 80 ++ buys_both 5 (pos 225) 50
    ++ enters 6 0 sell 105 30 ++ enters 7 0 sell 105 50) 0 7
    (accepted 1 4 ++ (answer 5 0 5 2 ∷ generated 5 0 0 105 105 50 ∷ generated 5 1 0 105 105 50 ∷ answer 6 0 5 2 ∷ trade 0 1 105 30 6 1
    ∷ answer 7 0 0 0 ∷ trade 0 1 105 10 7 1 ∷ trade 0 1 105 40 7 5 ∷ trade 1 0 120 40 5 4 ∷ pair 5 (pos 225) 40 ∷ removed 5 0 0 Executed ∷ removed 5 1 0 Executed ∷ []))
    (books (rest 2 0 sell 120 60 ∷ rest 3 1 buy 105 20 ∷ rest 4 1 sell 120 40 ∷ []) (buying 5 10) 5 7)
    -- 3. "Removal", (C)(4)(i) and (ii): buy 20 A and 20 B at 2.25. "If a limit order to buy 10 A at $1.10 is received, the Legging Order to buy 20 A at $1.05 will
    -- be removed because it is no longer at the PHLX best bid." Then an order to buy 20 A moves the best offer to 1.25, "resulting in the removal of the Legging
    -- Order to buy B at $1.05 because the net price of $2.25 can no longer be achieved". The BBO: A "10 at $1.10 … 20 at $1.25", B "10 at $1.05 … 50 at $1.20"
    ∷ onward fresh_venue 0 200 (enters 1 0 buy 105 10 ++ enters 2 0 sell 120 20 ++ enters 3 1 buy 105 10 ++ enters 4 1 sell 120 50 ++ enters 5 0 sell 125 20
    ++ buys_both 6 (pos 225) 20 ++ enters 7 0 buy 110 10 ++ enters 8 0 buy 120 20) 0 8
    (accepted 1 5 ++ (answer 6 0 5 2 ∷ generated 6 0 0 105 105 20 ∷ generated 6 1 0 105 105 20 ∷ answer 7 0 4 1 ∷ removed 6 0 0 Worse
    ∷ answer 8 0 0 0 ∷ trade 0 0 120 20 8 2 ∷ removed 6 1 0 Unpaired ∷ []))
    (books (rest 1 0 buy 105 10 ∷ rest 3 1 buy 105 10 ∷ rest 4 1 sell 120 50 ∷ rest 5 0 sell 125 20 ∷ rest 7 0 buy 110 10 ∷ []) (buying 6 20) 6 8)
    -- 4. "Removal", (C)(4)(v): buy 20 A and 20 B at 3.25, offers of 2.20. With away offers of 1.20 it is not executed "more than 5% above the c_nbbo offer of
    -- $2.40, or no higher than $2.52", so "the legging orders associated with the Complex Order are removed". 01 narrows: an away message is of one series, and
    -- the first leaves 3.40, with 3.57 the highest in band
    ∷ session 150 (enters 1 0 sell 220 20 ++ enters 2 1 sell 220 20 ++ buys_both 3 (pos 325) 20 ++ encode_message (Away 0 105 120) ++ encode_message (Away 1 105 120)) 0 5
    (accepted 1 2 ++ (answer 3 0 5 2 ∷ generated 3 0 0 105 105 20 ∷ generated 3 1 0 105 105 20 ∷ answer 4 0 5 2
    ∷ answer 5 0 0 0 ∷ removed 3 0 0 OutOfBand ∷ removed 3 1 0 OutOfBand ∷ []))
    -- 5. "Removal", (C)(4)(vi): "Complex Order 1 has generated a Legging Order in A and Complex Order 2 has generated a Legging Order in B", at 1.05 and 0.50;
    -- here orders 5 and 6, each with a leg in C. "Upon receipt of an auctionable order … The Legging Orders in A and B are therefore removed from the system and
    -- no new Legging Orders will be generated until the end of the Auction", in the sweep neither. 01 narrows: the status of a series tells that an auction is
    -- in progress, and no order starts one. The away offer keeps order 5 from a legging order in C, where the filing shows none
    ∷ session 200 (enters 1 0 sell 120 20 ++ enters 2 1 sell 80 20 ++ enters 3 2 buy 25 20 ++ enters 4 2 sell 50 20 ++ encode_message (Away 2 0 35)
    ++ pair_up 5 0 2 buy (pos 155) 20 ++ pair_up 6 1 2 buy (pos 100) 20 ++ auction 0 ++ auction 1 ++ sweeps) 0 10
    (accepted 1 5 ++ (answer 6 0 1 1 ∷ generated 5 0 0 105 105 20 ∷ answer 7 0 5 2 ∷ generated 6 1 0 50 50 20
    ∷ answer 8 0 4 1 ∷ removed 5 0 0 NotOpen ∷ answer 9 0 0 0 ∷ removed 6 1 0 NotOpen ∷ answer 10 0 0 0 ∷ []))
    -- 6. "Removal", (C)(4)(vii): "the system will remove a Legging Order representing a leg of a Complex Order for a Market Maker when a Legging Order is also
    -- generated in that leg at the same price for a Customer Complex Order." 01 narrows: two classes, 0 customer and 1 other
    ∷ session 200 (enters 1 0 sell 120 20 ++ enters 2 1 sell 120 20 ++ buys_both 3 (pos 225) 20 ++ two_leg 4 0 buy 1 buy 0 (pos 225) 20) 0 4
    (accepted 1 2 ++ (answer 3 0 5 2 ∷ generated 3 0 0 105 105 20 ∷ generated 3 1 0 105 105 20
    ∷ answer 4 0 5 2 ∷ removed 3 0 0 Replaced ∷ generated 4 0 0 105 105 20 ∷ removed 3 1 0 Replaced ∷ generated 4 1 0 105 105 20 ∷ []))
    -- 7. "Removal", (C)(4)(viii): "Complex Order 2 to buy 20 contracts of A and sell 20 contracts of B for a net debit of $0.15"; "the Legging Order in B to buy
    -- 20 for $1.05 which was generated by Complex Order 1 will be removed upon receipt of Complex Order 2". 01: cause 8, whether or not legs are in common; and
    -- order 6 then legs in, for the 10 that are bid for B
    ∷ session 200 (twenty ++ two_leg 6 0 buy 1 sell 1 (pos 15) 20) 0 6
    (accepted 1 4 ++ (answer 5 0 5 2 ∷ generated 5 0 0 105 105 20 ∷ generated 5 1 0 105 105 20
    ∷ answer 6 0 1 1 ∷ removed 5 1 0 Touched ∷ trade 0 0 120 10 6 2 ∷ trade 1 1 105 10 6 3 ∷ pair 6 (pos 15) 10 ∷ []))
    -- 8. The same "revised such that Complex Order 2 is to sell 20 contracts of A and to sell 20 contracts of B for a net credit of $2.25, the system will cancel
    -- the Legging Orders in A and B and trade Complex Order 2 against Complex Order 1". 01: the removals follow the cross, with cause 3
    ∷ session 200 (twenty ++ pair_up 6 0 1 sell (minus 225) 20) 0 6
    (accepted 1 4 ++ (answer 5 0 5 2 ∷ generated 5 0 0 105 105 20 ∷ generated 5 1 0 105 105 20
    ∷ answer 6 0 0 0 ∷ crossed 6 5 (minus 225) 20 ∷ removed 5 0 0 Executed ∷ removed 5 1 0 Executed ∷ []))
    -- 9. "Removal", (C)(4)(ix): "Complex Order 1 to Buy A and Buy B, with a Legging Order generated in A, and Complex Order 2 to Buy C and Buy D, with a Legging
    -- Order generated in C"; here orders 3 and 4, and A and C have away offers alone. "Since Complex Order 3 is marketable against multiple Legging Orders (in A
    -- and C), the Legging Orders in both A and C are removed." 01: cause 8, and one legging order is enough. The filing's other example has three legs
    ∷ session 150 (enters 1 1 sell 120 20 ++ enters 2 3 sell 120 20 ++ encode_message (Away 0 0 110) ++ encode_message (Away 2 0 110)
    ++ buys_both 3 (pos 225) 20 ++ pair_up 4 2 3 buy (pos 225) 20 ++ pair_up 5 0 2 sell (minus 210) 20) 0 7
    (accepted 1 4 ++ (answer 5 0 1 1 ∷ generated 3 0 0 105 105 20 ∷ answer 6 0 17 2 ∷ generated 4 2 0 105 105 20
    ∷ answer 7 0 0 0 ∷ removed 3 0 0 Touched ∷ removed 4 2 0 Touched ∷ []))
    -- 10. "Removal", (C)(4)(x): buy 1 A and 1 B at 2.25; then "sell 3 A and sell 1 C at a net price of $3.65", which is "marketable against the c_pbbo bid of $3.65",
    -- but "there is only one contract in A". "Since Complex Order 2 cannot be executed, it will go onto the CBOOK. The Legging Order in A will be removed."
    -- 01: the legging orders of both sides that it would take go, and C has none
    ∷ session 150 (enters 1 0 sell 120 20 ++ enters 2 1 sell 120 20 ++ enters 3 2 buy 50 5 ++ enters 4 2 sell 60 5 ++ buys_both 5 (pos 225) 1
    ++ encode_message (TwoLeg (record { id = 6; series1 = 0; side1 = sell; series2 = 2; side2 = sell; class = 1; limit = minus 365; quantity = 1; ratio1 = 3; ratio2 = 1 }))) 0 6
    (accepted 1 4 ++ (answer 5 0 5 2 ∷ generated 5 0 0 105 105 1 ∷ generated 5 1 0 105 105 1 ∷ answer 6 0 4 1 ∷ removed 5 0 0 NoUnit ∷ []))
    ∷ []

pub filing-holds : map outcome filing ≡ map expected filing
unfolding opened-rules tried auction buying books twenty filing
filing-holds = refl
