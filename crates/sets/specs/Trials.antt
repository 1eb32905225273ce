-- Sets as bytes: those of each kind, a venue with one of everything written and read, a short set, and what each answer is for. A statement over a list for each
-- part, for the checker's limit on steps.
use Rattle.std.specs.Prelude.{◌≡◌, refl, List, [], ◌∷◌, ◌++◌, map, ℕ, zero, suc, ◌-◌, negsuc, pos, drop, length, replicate}
use Rattle.rules.specs.declared.Regular.{Regular}
use Rattle.rules.specs.declared.Complex.{Complex}
use Rattle.rules.specs.declared.Legging.{Legging}
use Rattle.rules.specs.declared.Listed.{Listed}
use Rattle.rules.specs.declared.Edition.{Edition}
use Rattle.rules.specs.declared.Generations.{Generations}
use Rattle.rules.specs.declared.Venue.{Venue}
use Rattle.rules.specs.Words.{fresh_venue, newly_listed, no_legging}
use Rattle.rules.specs.Opened.{opened-rules}
use Rattle.sets.specs.Set.{ReadSet, WrittenSet, joined, read_set, write_set}
use Rattle.sets.specs.Opened.{opened-sets}

-- What is tried -------------------------------------------------------------------------------

pub data Trial : Type 0 where
  -- a venue and its message number written into a memory of a length: the records, and zeros after them
  writes : (number : ℕ) (v : Venue) (room : ℕ) (set : List (List ℕ)) → Trial
  -- and one that is refused
  keeps : (number : ℕ) (v : Venue) (room answer : ℕ) → Trial
  -- a memory read: the venue and its message number
  reads : (memory : List ℕ) (v : Venue) (message : ℕ) → Trial
  -- and one that is refused
  answers : (memory : List ℕ) (number : ℕ) → Trial

pub data Outcome : Type 0 where
  written : WrittenSet → Outcome
  told : ReadSet → Outcome

pub outcome : Trial → Outcome
outcome (writes n v room set) = written (write_set n v room)
outcome (keeps n v room answer) = written (write_set n v room)
outcome (reads memory v n) = told (read_set memory)
outcome (answers memory number) = told (read_set memory)

pub expected : Trial → Outcome
expected (writes n v room set) =
    let bytes = joined set in
    written (record { number = 0; written = length bytes; memory = bytes ++ replicate (room - length bytes) 0 })
expected (keeps n v room answer) = written (record { number = answer; written = 0; memory = replicate room 0 })
expected (reads memory v n) = told (record { number = 0; venue = v; message = n })
expected (answers memory number) = told (record { number = number; venue = fresh_venue; message = 0 })

-- A venue with one of everything ----------------------------------------------------------------

-- "Offers 130 (15) in series 0, 90 (12) in 1; buy both", an order that shows 2 of 6, and one of unequal ratios
orders : List Regular
orders =
    record { id = 1; series = 0; side = 1; price = 130; quantity = 15; display = 15; reserve = 0 }
    ∷ record { id = 2; series = 1; side = 1; price = 90; quantity = 12; display = 12; reserve = 0 }
    ∷ record { id = 4; series = 5; side = 0; price = 100; quantity = 6; display = 2; reserve = 4 }
    ∷ []

pairs : List Complex
pairs =
    record { id = 3; series1 = 0; side1 = 0; series2 = 1; side2 = 0; class = 1; limit = pos 205; quantity = 8; ratio1 = 1; ratio2 = 1 }
    ∷ record { id = 5; series1 = 2; side1 = 0; series2 = 3; side2 = 1; class = 0; limit = negsuc 99; quantity = 7; ratio1 = 2; ratio2 = 1 }
    ∷ []

legs : List Legging
legs = record { parent = 3; price = 115; quantity = 8 } ∷ no_legging ∷ record { parent = 3; price = 75; quantity = 8 } ∷ []

-- percent 10 as edition 2 by message 1, increment 1 in series 7 as edition 4 by message 3
dated : List Edition
dated = record { edition = 2; message = 1; figure = 8; value = 10 } ∷ record { edition = 4; message = 3; figure = 7; value = 1 } ∷ []

-- generations by these messages
lately : List ℕ → Generations
lately ns = record { messages = drop (length ns) (replicate 20 0) ++ ns }

-- series 4 is in auction and has away prices
listing : List Listed
listing = replicate 4 newly_listed ++ (record { status = 2; bid = 95; offer = 105 } ∷ []) ++ replicate 3 newly_listed

-- the last id is 7, the id reached 3
everything : Venue
everything = record {
  regular = orders ++ drop 3 fresh_venue.regular;
  complex = pairs ++ drop 2 fresh_venue.complex;
  legging = legs ++ drop 3 fresh_venue.legging;
  series = listing;
  editions = dated ++ drop 2 fresh_venue.editions;
  generations = lately (5 ∷ 5 ∷ []) ∷ lately (5 ∷ 6 ∷ []) ∷ drop 2 fresh_venue.generations;
  last = 7;
  reached = 3;
}

-- Its records, byte by byte -----------------------------------------------------------------------

-- kinds 80 and 81: message number, last id
begins : (kind number last : ℕ) → List ℕ
begins k n last = 12 ∷ 0 ∷ k ∷ 0 ∷ n ∷ 0 ∷ 0 ∷ 0 ∷ last ∷ 0 ∷ 0 ∷ 0 ∷ []

-- kinds 5 and 4 of a series
status : (series x : ℕ) → List ℕ
status s x = 6 ∷ 0 ∷ 5 ∷ 0 ∷ s ∷ x ∷ []

away : (series bid offer : ℕ) → List ℕ
away s b o = 13 ∷ 0 ∷ 4 ∷ 0 ∷ s ∷ b ∷ 0 ∷ 0 ∷ 0 ∷ o ∷ 0 ∷ 0 ∷ 0 ∷ []

open_from : (series count : ℕ) → List (List ℕ)
open_from s zero = []
open_from s (suc count) = status s 1 ∷ away s 0 0 ∷ open_from (suc s) count

-- all eight, as the venue has them, and as a fresh one
eight : List (List ℕ)
eight = open_from 0 4 ++ (status 4 2 ∷ away 4 95 105 ∷ []) ++ open_from 5 3

quiet : List (List ℕ)
quiet = open_from 0 8

-- kind 8 and kind 7 with the message number
percents : (value edition message : ℕ) → List ℕ
percents x e m = 13 ∷ 0 ∷ 8 ∷ 0 ∷ x ∷ e ∷ 0 ∷ 0 ∷ 0 ∷ m ∷ 0 ∷ 0 ∷ 0 ∷ []

increments : (series value edition message : ℕ) → List ℕ
increments s x e m = 14 ∷ 0 ∷ 7 ∷ 0 ∷ s ∷ x ∷ e ∷ 0 ∷ 0 ∷ 0 ∷ m ∷ 0 ∷ 0 ∷ 0 ∷ []

-- kind 1, and kind 9
enters : (id series side price quantity : ℕ) → List ℕ
enters i s d p q = 18 ∷ 0 ∷ 1 ∷ 0 ∷ i ∷ 0 ∷ 0 ∷ 0 ∷ s ∷ d ∷ p ∷ 0 ∷ 0 ∷ 0 ∷ q ∷ 0 ∷ 0 ∷ 0 ∷ []

rests : (id series side price quantity display : ℕ) → List ℕ
rests i s d p q x = 22 ∷ 0 ∷ 9 ∷ 0 ∷ i ∷ 0 ∷ 0 ∷ 0 ∷ s ∷ d ∷ p ∷ 0 ∷ 0 ∷ 0 ∷ q ∷ 0 ∷ 0 ∷ 0 ∷ x ∷ 0 ∷ 0 ∷ 0 ∷ []

-- kind 2 that buys series 0 and 1 at 205, and kind 10 that buys two of series 2 and sells one of 3 at -100
buys_both : (id quantity : ℕ) → List ℕ
buys_both i q = 21 ∷ 0 ∷ 2 ∷ 0 ∷ i ∷ 0 ∷ 0 ∷ 0 ∷ 0 ∷ 0 ∷ 1 ∷ 0 ∷ 1 ∷ 205 ∷ 0 ∷ 0 ∷ 0 ∷ q ∷ 0 ∷ 0 ∷ 0 ∷ []

ratioed : (id ratio1 ratio2 : ℕ) → List ℕ
ratioed i r q = 23 ∷ 0 ∷ 10 ∷ 0 ∷ i ∷ 0 ∷ 0 ∷ 0 ∷ 2 ∷ 0 ∷ 3 ∷ 1 ∷ 0 ∷ 156 ∷ 255 ∷ 255 ∷ 255 ∷ 7 ∷ 0 ∷ 0 ∷ 0 ∷ r ∷ q ∷ []

-- kind 82
stands : (id series side price quantity : ℕ) → List ℕ
stands i s d p q = 18 ∷ 0 ∷ 82 ∷ 0 ∷ i ∷ 0 ∷ 0 ∷ 0 ∷ s ∷ d ∷ p ∷ 0 ∷ 0 ∷ 0 ∷ q ∷ 0 ∷ 0 ∷ 0 ∷ []

-- kind 83, and kind 84
generated : (series number : ℕ) → List ℕ
generated s n = 9 ∷ 0 ∷ 83 ∷ 0 ∷ s ∷ n ∷ 0 ∷ 0 ∷ 0 ∷ []

reaches : (id : ℕ) → List ℕ
reaches i = 8 ∷ 0 ∷ 84 ∷ 0 ∷ i ∷ 0 ∷ 0 ∷ 0 ∷ []

-- after the series: editions, resting orders, legging orders, generations, the id reached
dated_rows : List (List ℕ)
dated_rows = percents 10 2 1 ∷ increments 7 1 4 3 ∷ []

order_rows : List (List ℕ)
order_rows = rests 1 0 1 130 15 15 ∷ rests 2 1 1 90 12 12 ∷ buys_both 3 8 ∷ rests 4 5 0 100 6 2 ∷ ratioed 5 2 1 ∷ []

leg_rows : List (List ℕ)
leg_rows = stands 3 0 0 115 8 ∷ stands 3 1 0 75 8 ∷ []

generated_rows : List (List ℕ)
generated_rows = generated 0 5 ∷ generated 0 5 ∷ generated 1 5 ∷ generated 1 6 ∷ []

whole : List (List ℕ)
whole = (begins 80 9 7 ∷ eight) ++ dated_rows ++ order_rows ++ leg_rows ++ generated_rows ++ (reaches 3 ∷ [])

-- Both ways -----------------------------------------------------------------------------------

pub kept : List Trial
kept =
    writes 9 everything 500 whole
    -- memory that the set fills, and one byte less: 15
    ∷ writes 9 everything (length (joined whole)) whole
    ∷ keeps 9 everything (length (joined whole) - 1) 15
    -- "no message number in it above its own, else 9": equal is fine, and 9 comes before 15
    ∷ writes 6 everything 500 ((begins 80 6 7 ∷ eight) ++ drop 17 whole)
    ∷ keeps 5 everything 0 9
    ∷ reads (joined whole) everything 9
    -- one last zero byte ends it, a zero length does, and bytes after that are not looked at
    ∷ reads (joined whole ++ (0 ∷ [])) everything 9
    ∷ reads (joined whole ++ (0 ∷ 0 ∷ 7 ∷ 7 ∷ 7 ∷ [])) everything 9
    ∷ writes 0 fresh_venue 170 (begins 80 0 0 ∷ quiet)
    ∷ reads (joined (begins 80 0 0 ∷ quiet)) fresh_venue 0
    ∷ []

pub kept-hold : map outcome kept ≡ map expected kept
unfolding opened-rules opened-sets outcome expected orders pairs legs dated lately listing everything begins status away open_from eight quiet percents increments rests buys_both ratioed stands generated reaches dated_rows order_rows leg_rows generated_rows whole kept
kept-hold = refl

-- Short sets ----------------------------------------------------------------------------------

-- "begun by 81 for 80, with 1 for 9 and no editions"
short : List (List ℕ)
short = (begins 81 9 7 ∷ eight) ++ (enters 1 0 1 130 15 ∷ enters 2 1 1 90 12 ∷ buys_both 3 8 ∷ enters 4 5 0 100 6 ∷ ratioed 5 2 1 ∷ []) ++ leg_rows

-- "it means edition 0 and all size shown"; none generated, and no id looked at
all_shown : Venue
all_shown = record {
  regular =
      (record { id = 1; series = 0; side = 1; price = 130; quantity = 15; display = 15; reserve = 0 }
      ∷ record { id = 2; series = 1; side = 1; price = 90; quantity = 12; display = 12; reserve = 0 }
      ∷ record { id = 4; series = 5; side = 0; price = 100; quantity = 6; display = 6; reserve = 0 }
      ∷ []) ++ drop 3 fresh_venue.regular;
  complex = pairs ++ drop 2 fresh_venue.complex;
  legging = legs ++ drop 3 fresh_venue.legging;
  series = listing;
  editions = fresh_venue.editions;
  generations = fresh_venue.generations;
  last = 7;
  reached = 0;
}

-- a short set with these records after its series
shortly : List (List ℕ) → List ℕ
shortly t = joined ((begins 81 9 7 ∷ quiet) ++ t)

pub shorts : List Trial
shorts =
    reads (joined short) all_shown 9
    ∷ reads (joined (begins 81 0 0 ∷ quiet)) fresh_venue 0
    -- kinds that it hasn't
    ∷ answers (shortly (percents 10 2 1 ∷ [])) 16
    ∷ answers (shortly (increments 7 1 4 3 ∷ [])) 16
    ∷ answers (shortly (rests 1 0 1 130 15 15 ∷ [])) 16
    ∷ answers (shortly (generated 0 5 ∷ [])) 16
    ∷ answers (shortly (reaches 3 ∷ [])) 16
    ∷ []

pub shorts-hold : map outcome shorts ≡ map expected shorts
unfolding opened-rules opened-sets outcome expected pairs legs listing begins status away open_from eight quiet percents increments enters rests buys_both ratioed stands generated reaches leg_rows short all_shown shortly shorts
shorts-hold = refl

-- 16 ------------------------------------------------------------------------------------------

-- a whole set with these records after its series
memory : List (List ℕ) → List ℕ
memory t = joined ((begins 80 9 7 ∷ quiet) ++ t)

-- `count` records by numbers from n on
many : (ℕ → List ℕ) → (n count : ℕ) → List (List ℕ)
many f n zero = []
many f n (suc count) = f n ∷ many f (suc n) count

pub torn16 : List Trial
torn16 =
    -- no bytes, or zeros only
    answers [] 16
    ∷ answers (replicate 8 0) 16
    -- "One last byte not 0, a length 1 to 3 or beyond the memory: torn"
    ∷ answers (memory [] ++ (1 ∷ [])) 16
    ∷ answers (memory [] ++ (3 ∷ 0 ∷ 0 ∷ 0 ∷ [])) 16
    ∷ answers (memory [] ++ (8 ∷ 0 ∷ 84 ∷ 0 ∷ 3 ∷ 0 ∷ 0 ∷ [])) 16
    -- the first record missing, or the last of the series', or one between
    ∷ answers (joined quiet) 16
    ∷ answers (joined (begins 80 9 7 ∷ [])) 16
    ∷ answers (joined (begins 80 9 7 ∷ open_from 0 7 ++ (status 7 1 ∷ []))) 16
    ∷ answers (joined (begins 80 9 7 ∷ open_from 0 7 ++ (away 7 0 0 ∷ []))) 16
    -- 4 before 5, and series out of turn
    ∷ answers (joined (begins 80 9 7 ∷ open_from 0 7 ++ (away 7 0 0 ∷ status 7 1 ∷ []))) 16
    ∷ answers (joined (begins 80 9 7 ∷ open_from 0 6 ++ (status 7 1 ∷ away 7 0 0 ∷ status 6 1 ∷ away 6 0 0 ∷ []))) 16
    ∷ answers (joined (begins 80 9 7 ∷ open_from 0 7 ++ (status 7 1 ∷ away 6 0 0 ∷ []))) 16
    -- kinds that the set hasn't, and a length that is a message's and not the set's
    ∷ answers (memory ((8 ∷ 0 ∷ 3 ∷ 0 ∷ 1 ∷ 0 ∷ 0 ∷ 0 ∷ []) ∷ [])) 16
    ∷ answers (memory ((8 ∷ 0 ∷ 85 ∷ 0 ∷ 1 ∷ 0 ∷ 0 ∷ 0 ∷ []) ∷ [])) 16
    ∷ answers (memory (enters 1 0 1 130 15 ∷ [])) 16
    ∷ answers (memory ((10 ∷ 0 ∷ 7 ∷ 0 ∷ 7 ∷ 1 ∷ 4 ∷ 0 ∷ 0 ∷ 0 ∷ []) ∷ [])) 16
    ∷ answers (memory ((9 ∷ 0 ∷ 8 ∷ 0 ∷ 10 ∷ 2 ∷ 0 ∷ 0 ∷ 0 ∷ []) ∷ [])) 16
    ∷ []

pub torn-hold : map outcome torn16 ≡ map expected torn16
unfolding opened-rules opened-sets outcome expected begins status away open_from quiet enters memory torn16
torn-hold = refl

pub order16 : List Trial
order16 =
    -- "editions, ids or places that don't rise (equal too)"
    answers (memory (percents 10 4 1 ∷ increments 7 1 2 3 ∷ [])) 16
    ∷ answers (memory (percents 10 4 1 ∷ increments 7 1 4 3 ∷ [])) 16
    ∷ answers (memory (rests 2 1 1 90 12 12 ∷ rests 1 0 1 130 15 15 ∷ [])) 16
    ∷ answers (memory (rests 2 1 1 90 12 12 ∷ rests 2 0 1 130 15 15 ∷ [])) 16
    -- the ids of both books in one row
    ∷ answers (memory (rests 4 1 1 90 12 12 ∷ buys_both 3 8 ∷ [])) 16
    ∷ answers (memory (buys_both 3 8 ∷ rests 3 1 1 90 12 12 ∷ [])) 16
    -- places 2 and 1, 2 and 2
    ∷ answers (memory (stands 3 1 0 75 8 ∷ stands 3 0 1 115 8 ∷ [])) 16
    ∷ answers (memory (stands 3 1 0 75 8 ∷ stands 3 0 2 115 8 ∷ [])) 16
    -- "83 not by series or falling"
    ∷ answers (memory (generated 1 5 ∷ generated 0 5 ∷ [])) 16
    ∷ answers (memory (generated 1 6 ∷ generated 1 5 ∷ [])) 16
    -- the parts in their order
    ∷ answers (memory (rests 1 0 1 130 15 15 ∷ percents 10 2 1 ∷ [])) 16
    ∷ answers (memory (stands 3 0 0 115 8 ∷ buys_both 3 8 ∷ [])) 16
    ∷ answers (memory (generated 0 5 ∷ stands 3 0 0 115 8 ∷ [])) 16
    -- "a second 80 or 84, anything after the 84"
    ∷ answers (memory (begins 80 9 7 ∷ [])) 16
    ∷ answers (memory (reaches 3 ∷ reaches 3 ∷ [])) 16
    ∷ answers (memory (reaches 3 ∷ generated 0 5 ∷ [])) 16
    -- 16 before 9: a side out of range, and then a second 84
    ∷ answers (memory (rests 1 0 2 130 15 15 ∷ reaches 3 ∷ reaches 3 ∷ [])) 16
    ∷ []

pub order-hold : map outcome order16 ≡ map expected order16
unfolding opened-rules opened-sets outcome expected begins status away open_from quiet percents increments rests buys_both stands generated reaches memory order16
order-hold = refl

-- one too many is 16; as many as there may be are not, though none of these venues is sound: 9
pub count16 : List Trial
count16 =
    answers (memory (many (λ n. increments 7 1 n n) 1 32)) 9
    ∷ answers (memory (many (λ n. increments 7 1 n n) 1 33)) 16
    ∷ answers (memory (many (λ n. increments 7 1 n n) 1 32 ++ (percents 10 33 33 ∷ []))) 16
    ∷ answers (memory (many (λ n. buys_both n 8) 1 32)) 9
    ∷ answers (memory (many (λ n. buys_both n 8) 1 33)) 16
    ∷ answers (memory (many (λ n. buys_both n 8) 1 32 ++ (ratioed 33 1 2 ∷ []))) 16
    ∷ answers (memory (many (λ s. stands 3 0 s 115 8) 0 16)) 9
    ∷ answers (memory (many (λ s. stands 3 0 s 115 8) 0 17)) 16
    ∷ answers (memory (replicate 20 (generated 0 10))) 9
    ∷ answers (memory (replicate 21 (generated 0 10))) 16
    ∷ answers (memory (generated 0 5 ∷ replicate 20 (generated 1 10))) 9
    ∷ []

pub count-holds : map outcome count16 ≡ map expected count16
unfolding opened-rules opened-sets outcome expected begins status away open_from quiet increments percents buys_both ratioed stands generated memory many count16
count-holds = refl

pub regular16 : List Trial
regular16 =
    answers (memory (many (λ n. rests n 0 1 130 1 1) 1 128)) 9
    ∷ answers (memory (many (λ n. rests n 0 1 130 1 1) 1 129)) 16
    ∷ []

pub regular-holds : map outcome regular16 ≡ map expected regular16
unfolding opened-rules opened-sets outcome expected begins status away open_from quiet rests memory many regular16
regular-holds = refl

-- 9 -------------------------------------------------------------------------------------------

-- fields out of range, or that no venue has a place for
pub fields9 : List Trial
fields9 =
    answers (joined (begins 80 9 7 ∷ open_from 0 7 ++ (status 7 3 ∷ away 7 0 0 ∷ []))) 9
    ∷ answers (memory (increments 8 10 4 3 ∷ [])) 9
    ∷ answers (memory (increments 7 2 4 3 ∷ [])) 9
    ∷ answers (memory (percents 51 4 3 ∷ [])) 9
    ∷ answers (memory (percents 10 0 3 ∷ [])) 9
    ∷ answers (memory (rests 1 0 2 130 15 15 ∷ [])) 9
    ∷ answers (memory (rests 1 0 1 131 15 15 ∷ [])) 9
    ∷ answers (memory (rests 1 0 1 130 15 0 ∷ [])) 9
    ∷ answers (memory (rests 1 0 1 130 15 16 ∷ [])) 9
    ∷ answers (memory (rests 0 0 0 0 0 0 ∷ [])) 9
    ∷ answers (memory (buys_both 3 0 ∷ [])) 9
    -- equal ratios are kind 2's, or no order's
    ∷ answers (memory (ratioed 5 1 1 ∷ [])) 9
    ∷ answers (memory (ratioed 5 2 2 ∷ [])) 9
    -- a legging order without its parent, of a series or side out of range, and one of nothing
    ∷ answers (memory (stands 3 0 0 115 8 ∷ [])) 9
    ∷ answers (memory (stands 3 8 0 115 8 ∷ [])) 9
    ∷ answers (memory (stands 3 0 2 115 8 ∷ [])) 9
    ∷ answers (memory (stands 0 0 0 0 0 ∷ [])) 9
    ∷ answers (memory (generated 8 5 ∷ [])) 9
    ∷ answers (memory (generated 0 0 ∷ [])) 9
    ∷ answers (memory (reaches 0 ∷ [])) 9
    ∷ []

pub fields-hold : map outcome fields9 ≡ map expected fields9
unfolding opened-rules opened-sets outcome expected begins status away open_from quiet percents increments rests buys_both ratioed stands generated reaches memory fields9
fields-hold = refl

pub numbers9 : List Trial
numbers9 =
    -- "message numbers that don't rise, any number above the set's own (equal is fine), all that is unsound"
    answers (memory (percents 10 2 3 ∷ increments 7 1 4 3 ∷ [])) 9
    ∷ answers (memory (percents 10 2 10 ∷ [])) 9
    ∷ answers (memory (generated 0 10 ∷ [])) 9
    ∷ reads (memory (generated 0 9 ∷ [])) (record { regular = fresh_venue.regular; complex = fresh_venue.complex; legging = fresh_venue.legging; series = fresh_venue.series; editions = fresh_venue.editions; generations = lately (9 ∷ []) ∷ drop 1 fresh_venue.generations; last = 7; reached = 0 }) 9
    -- ids above the last one
    ∷ answers (memory (rests 8 0 1 130 15 15 ∷ [])) 9
    ∷ answers (memory (reaches 8 ∷ [])) 9
    -- locked
    ∷ answers (memory (rests 1 0 1 130 15 15 ∷ rests 2 0 0 130 15 15 ∷ [])) 9
    ∷ []

pub numbers-hold : map outcome numbers9 ≡ map expected numbers9
unfolding opened-rules opened-sets outcome expected lately begins status away open_from quiet percents increments rests generated reaches memory numbers9
numbers-hold = refl
