-- Document 01, "Complex (kind 2)", with "Sweep" and "Cancel"; kind 10 of request (g), whose quantities "outside 65 are units": of kind 2
-- a unit is one contract of each leg; and the limited sweep of request (m).
use Rattle.std.specs.Prelude.{Bool, true, not, ◌&&◌, ◌||◌, List, [], ◌∷◌, ◌++◌, ℕ, suc, ◌*◌, ◌/◌, min, leb, ltb, eqb, length, take, ℤ, pos, neg_ℤ, ◌+ℤ◌, if◌then◌else◌}
use Rattle.std.specs.Int.Signed.{le_z, lt_z}
use Rattle.rules.specs.declared.Complex.{Complex}
use Rattle.rules.specs.declared.Venue.{Venue}
use Rattle.rules.specs.declared.Cause.TheVariants.{Executed, Withdrawn, Touched, NoUnit}
use Rattle.rules.specs.Base.{held, place_where, nobody, picked, first}
use Rattle.rules.specs.Words.{closed, opposite, place_of, status_of, regular_at, complex_at, is_regular_of, is_complex_of, earlier_complex}
use Rattle.rules.specs.Words.{with_reached}
use Rattle.rules.specs.Prices.{best_regular, best_size, best_own, own_size, net, in_band}
use Rattle.rules.specs.Records.{crossed, cancelled, looked}
use Rattle.rules.specs.Effects.{Effect, nothing, report, ◌⟫◌, Turn, ended, turned, repeat}
use Rattle.rules.specs.Removal.{remove, remove_of, fail_if}
use Rattle.rules.specs.Standing.{settle}
use Rattle.rules.specs.Trading.{fill_regular, fill_complex, free_complex, put_complex, trade_at_price, pair_off}
use Rattle.rules.specs.Generation.{generate}

-- a series of c is closed
unfoldable pub any_closed : Venue → Complex → Bool
any_closed v c = eqb (status_of v c.series1) closed || eqb (status_of v c.series2) closed

-- Cross ---------------------------------------------------------------------------------------

-- "with the same series and in each the reversed side, whichever leg is named first"; request (g): "only with the same series and ratios
-- reversed in side"
unfoldable pub reversed : Complex → Complex → Bool
reversed a b =
    (eqb a.series1 b.series1 && eqb a.side1 (opposite b.side1) && eqb a.ratio1 b.ratio1
    && eqb a.series2 b.series2 && eqb a.side2 (opposite b.side2) && eqb a.ratio2 b.ratio2)
    || (eqb a.series1 b.series2 && eqb a.side1 (opposite b.side2) && eqb a.ratio1 b.ratio2
    && eqb a.series2 b.series1 && eqb a.side2 (opposite b.side1) && eqb a.ratio2 b.ratio1)

-- Request (b): "A cross is made only if neither party's net is above what best regular prices of both legs would give that party, where
-- both legs have one." For the party c, dealt at net t.
unfoldable pub respects_legs : Venue → Complex → (t : ℤ) → Bool
respects_legs v c t =
    let a = best_regular v c.series1 (opposite c.side1) in
    let b = best_regular v c.series2 (opposite c.side2) in
    not (held a && held b) || le_z t (net c a b)

-- "N + their N ≥ 0, both nets in band": the resting order m is a candidate for c. Dealt "at the resting limit", m's net is its N and c's
-- is minus that.
unfoldable pub crosses : Venue → Complex → Complex → Bool
crosses v c m =
    held m.quantity
    && reversed c m
    && le_z (pos 0) (c.limit +ℤ m.limit)
    && in_band v c (neg_ℤ m.limit)
    && in_band v m m.limit
    && respects_legs v c (neg_ℤ m.limit)
    && respects_legs v m m.limit

-- "take the highest N, then earliest"
unfoldable pub limit_then_id : Complex → Complex → Bool
limit_then_id a b = lt_z b.limit a.limit || (not (lt_z a.limit b.limit) && earlier_complex a b)

-- The orders at places i and j cross for k: "Any cross or pair removes the legging orders of each party (3), right after its 70 or 66,
-- the taker's first."; (C)(4)(iii)
unfoldable pub cross : (i j k : ℕ) → Venue → Effect
cross i j k v =
    let c = complex_at v i in
    let m = complex_at v j in
    report (crossed c.id m.id (neg_ℤ m.limit) k) (fill_complex j k (fill_complex i k v))
    ⟫ remove_of c.id Executed
    ⟫ remove_of m.id Executed

-- "for the lesser of both open quantities; repeat"
unfoldable pub cross_turn : (i : ℕ) → Venue → Turn
cross_turn i v =
    let c = complex_at v i in
    if not (held c.quantity) then ended
    else elim (first (crosses v c) limit_then_id v.complex) [
      | nobody ↦ ended
      | picked j m ↦ turned (cross i j (min c.quantity m.quantity) v)
    ]

-- Touch ---------------------------------------------------------------------------------------

-- "if both sides it would take have a price and the best own prices, legging included, net ≤ N", while some quantity is open
unfoldable pub touches : Venue → Complex → Bool
touches v c =
    let a = best_own v c.series1 (opposite c.side1) in
    let b = best_own v c.series2 (opposite c.side2) in
    held c.quantity && held a && held b && le_z (net c a b) c.limit

-- place n is one of the two sides that c would take
unfoldable pub taken_side : Complex → (place : ℕ) → Bool
taken_side c n =
    eqb n (place_of c.series1 (opposite c.side1)) || eqb n (place_of c.series2 (opposite c.side2))

-- request (g): "the sizes, shown and legging, at the prices touched" fill a unit; one contract of each leg always does
unfoldable pub fills_unit : Venue → Complex → Bool
fills_unit v c =
    leb c.ratio1 (own_size v c.series1 (opposite c.side1))
    && leb c.ratio2 (own_size v c.series2 (opposite c.side2))

-- "remove legging orders on those two sides (cause 8; this stands for viii and ix)"; request (g): where the sizes "can't fill a unit, the
-- legging orders on the touched sides go with cause 10 instead of 8"; (C)(4)(viii) to (x)
unfoldable pub touch : (i : ℕ) → Venue → Effect
touch i v =
    let c = complex_at v i in
    if touches v c
    then remove (λ n _. fail_if (taken_side c n) (if fills_unit v c then Touched else NoUnit)) v
    else nothing v

-- Leg in --------------------------------------------------------------------------------------

-- "while best regular prices net ≤ N and in band": best prices a and b, while some quantity is open
unfoldable pub legs_in : Venue → Complex → (a b : ℕ) → Bool
legs_in v c a b =
    held c.quantity && held a && held b && le_z (net c a b) c.limit && in_band v c (net c a b)

-- k units at prices a and b, each leg's contracts by its ratio: "first leg's trades, second's, 66", and the removals
unfoldable pub leg_in : (i a b k : ℕ) → Venue → Effect
leg_in i a b k v =
    let c = complex_at v i in
    let m = c.ratio1 * k in
    let n = c.ratio2 * k in
    trade_at_price m c.id c.series1 c.side1 a m v
    ⟫ trade_at_price n c.id c.series2 c.side2 b n
    ⟫ pair_off i c.id (net c a b) k

-- "trade the least of open quantity and both sizes": as many units as they fill
unfoldable pub units_in : Venue → Complex → ℕ
units_in v c =
    min c.quantity (min
    (best_size v c.series1 (opposite c.side1) / c.ratio1)
    (best_size v c.series2 (opposite c.side2) / c.ratio2))

-- request (g): "a leg-in step that can't fill a unit trades nothing and ends"
unfoldable pub leg_in_turn : (i : ℕ) → Venue → Turn
leg_in_turn i v =
    let c = complex_at v i in
    let a = best_regular v c.series1 (opposite c.side1) in
    let b = best_regular v c.series2 (opposite c.side2) in
    let k = units_in v c in
    if legs_in v c a b && held k then turned (leg_in i a b k v) else ended

-- The messages --------------------------------------------------------------------------------

-- "First cross …; repeat. Then touch … Then leg in", "if neither series is closed", for the order at place i
unfoldable pub work : (i : ℕ) → Venue → Effect
work i v =
    let c = complex_at v i in
    if any_closed v c then nothing v
    else repeat c.quantity (cross_turn i) v ⟫ touch i ⟫ repeat c.quantity (leg_in_turn i)

-- The order is given a place and is worked there; "The rest rests; settle; generate for its first leg, then second."
unfoldable pub complex : (number : ℕ) → Complex → Venue → Effect
complex number c v =
    let i = free_complex v in
    work i (put_complex i c v) ⟫ settle ⟫ generate number i

-- Sweeps --------------------------------------------------------------------------------------

-- Of the complex orders cs, the first of which is at place n: the places of those that rest and pass the test f, "earliest first". They
-- come by place, and that is by id: the complex orders of a sound venue rest in rising id (Sound: `complexes_sound`), and every venue of
-- the calls is sound (demands: `AlwaysSound`).
unfoldable pub places_of : (f : Complex → Bool) → (n : ℕ) → (cs : List Complex) → List ℕ
places_of f n [] = []
places_of f n (c ∷ cs) = if held c.quantity && f c then n ∷ places_of f (suc n) cs else places_of f (suc n) cs

-- the places of all orders that rest in v, "earliest first"
unfoldable pub resting_places : Venue → List ℕ
resting_places v = places_of (λ _. true) 0 v.complex

-- f for the order at each of these places in turn. An order that is gone by its turn has left its place free; `work` and `generate` do
-- nothing at a free place.
unfoldable pub each_of : (f : ℕ → Venue → Effect) → (places : List ℕ) → Venue → Effect
each_of f [] v = nothing v
each_of f (i ∷ places) v = f i v ⟫ each_of f places

-- "Sweep: all this for each resting order, earliest first, but settle once and then generate."
unfoldable pub sweep : (number : ℕ) → Venue → Effect
sweep number v =
    let places = resting_places v in
    each_of work places v ⟫ settle ⟫ each_of (generate number) places

-- The limited sweep: 02 (m) -------------------------------------------------------------------

-- The places of all orders that rest in v, in the order in which a limited sweep comes to them, "starting after the last id that a kind
-- 11 looked at and going round by id": first the places of those with a higher id than the one reached, then the places of the others.
unfoldable pub going_round : Venue → List ℕ
going_round v =
    places_of (λ c. ltb v.reached c.id) 0 v.complex ++ places_of (λ c. not (ltb v.reached c.id)) 0 v.complex

-- "the number looked at, the lesser of n and the orders resting when it starts; one that is gone by its turn counts as looked at"
unfoldable pub examined : (n : ℕ) → Venue → ℕ
examined n v = min n (length (going_round v))

-- the id at the last of some places; where there is none, the one reached before
unfoldable pub id_reached : Venue → (places : List ℕ) → ℕ
id_reached v [] = v.reached
id_reached v (i ∷ []) = (complex_at v i).id
id_reached v (i ∷ j ∷ places) = id_reached v (j ∷ places)

-- "Kind 11 is a sweep limited to n resting orders …, generation too. It writes record 72 … right after its 64"
unfoldable pub limited_sweep : (number n : ℕ) → Venue → Effect
limited_sweep number n v =
    let places = take n (going_round v) in
    report (looked (examined n v)) (with_reached v (id_reached v places))
    ⟫ each_of work places ⟫ settle ⟫ each_of (generate number) places

-- "Cancel: 71, then removals (4)"; (C)(4)(iv)
unfoldable pub cancel_regular : (i : ℕ) → Venue → Effect
cancel_regular i v =
    let o = regular_at v i in
    report (cancelled o.id o.quantity) (fill_regular i o.quantity v)

unfoldable pub cancel_complex : (i : ℕ) → Venue → Effect
cancel_complex i v =
    let c = complex_at v i in
    report (cancelled c.id c.quantity) (fill_complex i c.quantity v) ⟫ remove_of c.id Withdrawn

-- the place of the resting order with an id, and that there is one
unfoldable pub regular_place : Venue → (id : ℕ) → ℕ
regular_place v id = place_where (is_regular_of id) v.regular

unfoldable pub complex_place : Venue → (id : ℕ) → ℕ
complex_place v id = place_where (is_complex_of id) v.complex

unfoldable pub rests_regular : Venue → (id : ℕ) → Bool
rests_regular v id = is_regular_of id (regular_at v (regular_place v id))

unfoldable pub rests_complex : Venue → (id : ℕ) → Bool
rests_complex v id = is_complex_of id (complex_at v (complex_place v id))

unfoldable pub cancel : (id : ℕ) → Venue → Effect
cancel id v =
    (if rests_regular v id
    then cancel_regular (regular_place v id) v
    else cancel_complex (complex_place v id) v)
    ⟫ settle
