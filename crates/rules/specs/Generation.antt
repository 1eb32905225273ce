-- Document 01, "Generation of a leg", and document 02 (m), "A ceiling on legging traffic".
use Rattle.std.specs.Prelude.{Bool, true, not, ◌&&◌, ◌||◌, List, [], ◌∷◌, ◌++◌, ℕ, suc, ◌+◌, min, leb, eqb, get_or, set, drop, ℤ, pos, negsuc, ◌-ℤ◌, if◌then◌else◌}
use Rattle.rules.specs.declared.Complex.{Complex}
use Rattle.rules.specs.declared.Legging.{Legging}
use Rattle.rules.specs.declared.Venue.{Venue}
use Rattle.rules.specs.declared.Cause.TheVariants.{Replaced}
use Rattle.rules.specs.Base.{held}
use Rattle.rules.specs.Words.{within, opposite, sign_times, customer, other_class, no_generations, one_to_one, with_legging}
use Rattle.rules.specs.Words.{with_generations}
use Rattle.rules.specs.Words.{place_of, complex_at, legging_at}
use Rattle.rules.specs.Settings.{increment}
use Rattle.rules.specs.Prices.{better, reaches, best_own, own_price, displayed_price, away, in_band}
use Rattle.rules.specs.Records.{generated}
use Rattle.rules.specs.Effects.{Effect, nothing, report, ◌⟫◌}
use Rattle.rules.specs.Removal.{remove, fail_if}
use Rattle.rules.specs.Standing.{other_leg, other_clear, other_size, parent_of, both_open, displayed_no_worse, verdict, stands}

-- The legging order of a leg ------------------------------------------------------------------

-- a price; none where the number is negative
unfoldable pub as_price : ℤ → ℕ
as_price (pos n) = n
as_price (negsuc n) = 0

-- "Price p = sign × (N - other leg's sign × other clear price)", for the leg of c at side d of series s; (C)(1)(ii)
unfoldable pub leg_price : Venue → Complex → (series side : ℕ) → ℕ
leg_price v c s d = as_price (sign_times d (c.limit -ℤ sign_times (other_leg c s).side (pos (other_clear v c s))))

-- "Quantity: the lesser of open and size at the clear price."
unfoldable pub new_legging : Venue → Complex → (series side : ℕ) → Legging
new_legging v c s d = record { parent = c.id; price = leg_price v c s d; quantity = min c.quantity (other_size v c s) }

-- the venue with a legging order at a place
unfoldable pub placed : (place : ℕ) → Legging → Venue → Venue
placed n l v = with_legging v (set v.legging n l)

-- The ceiling ---------------------------------------------------------------------------------

-- "each series' last 20 generations … oldest first", by the numbers of their messages; 0 where there were fewer
unfoldable pub generations_of : Venue → (series : ℕ) → List ℕ
generations_of v s = (get_or v.generations s no_generations).messages

-- "Per series at most 20 are generated in any 256 consecutive messages, the present one counted … Refused messages count among the 256":
-- the oldest of the 20 is none, or it was 256 messages before the present one or more
unfoldable pub under_ceiling : (number : ℕ) → (generations : List ℕ) → Bool
under_ceiling number gs =
    let oldest = get_or gs 0 0 in
    not (held oldest) || leb (oldest + 256) number

-- one more; the oldest is forgotten
unfoldable pub one_more : (number : ℕ) → (generations : List ℕ) → List ℕ
one_more number gs = drop 1 gs ++ (number ∷ [])

unfoldable pub counted : (number series : ℕ) → Venue → Venue
counted number s v = with_generations v (set v.generations s (record { messages = one_more number (generations_of v s) }))

-- When it is made -----------------------------------------------------------------------------

-- "p itself not reaching (equal is reaching) any own price opposite …, nor the away price opposite where there is one":
-- p at side d reaches q, where q is there
unfoldable pub reaches_any : (side p q : ℕ) → Bool
reaches_any d p q = held q && reaches d p q

-- "its place is empty, or held at a worse price, or at equal price by class 1 while this is class 0":
-- l gives way to c at price p; (C)(2)(iv) and (C)(4)(vii)
unfoldable pub gives_way : Venue → Complex → (side p : ℕ) → Legging → Bool
gives_way v c d p l =
    better d p (own_price l)
    || (eqb p (own_price l) && eqb c.class customer && eqb (parent_of v l).class other_class)

-- True where each legging order of the list passes its test upon w, the one at place m left aside: "no other standing order would then
-- fail its test". w is the venue with the new order at its place m; the list begins at place n.
-- (C)(2)(vi) is another rule: it bars a complex order that itself causes removals under (C)(4)(ix), and 01 lets that order generate.
unfoldable pub others_stand : (w : Venue) → (m n : ℕ) → List Legging → Bool
others_stand w m n [] = true
others_stand w m n (l ∷ ls) = (eqb n m || stands (verdict w n l)) && others_stand w m (suc n) ls

-- "Made when", for the leg of c at side d of series s, under the message of this number. So p is at most 100,000: a sell price is at most
-- its displayed price; a buy price, which may be above the displayed one, is below 100,000, since "N in band" asks for an offer, regular
-- or away, in its series and p reaches none.
unfoldable pub makes : (number : ℕ) → Venue → Complex → (series side : ℕ) → Bool
makes number v c s d =
    let p = leg_price v c s d in
    let n = place_of s d in
    let w = placed n (new_legging v c s d) v in
    -- request (g): orders of unequal ratios "never generate"
    one_to_one c
    -- "both series open"; (C)(1), (C)(2)(ii)
    && both_open v c
    -- "N in band"; (C)(2)(iii)
    && in_band v c c.limit
    -- "clear price present"; (C)(1)(ii)
    && held (other_clear v c s)
    -- "displayed price from the increment to 100,000"
    && within (increment v s) 100000 (displayed_price (increment v s) d p)
    -- "not worse than best regular of its side"; (C)(1)(i)
    && displayed_no_worse v s d p
    -- "p itself not reaching (equal is reaching) any own price opposite in its series": not the best of them
    && not (reaches_any d p (best_own v s (opposite d)))
    -- "nor the away price opposite where there is one"; (C)(2)(i)
    && not (reaches_any d p (away v s (opposite d)))
    -- its place
    && gives_way v c d p (legging_at v s d)
    -- the others
    && others_stand w n 0 w.legging
    -- 02 (m): the ceiling, "as one more condition of generation"
    && under_ceiling number (generations_of v s)

-- What is done --------------------------------------------------------------------------------

-- "(the holder goes, cause 7, before the 67)"
unfoldable pub make : (number : ℕ) → Complex → (series side : ℕ) → Venue → Effect
make number c s d v =
    let l = new_legging v c s d in
    remove (λ n _. fail_if (eqb n (place_of s d)) Replaced) v
    ⟫ (λ w.
    report (generated c.id s d l.price (displayed_price (increment v s) d l.price) l.quantity)
    (counted number s (placed (place_of s d) l w)))

unfoldable pub generate_leg : (number : ℕ) → Complex → (series side : ℕ) → Venue → Effect
generate_leg number c s d v = if held c.quantity && makes number v c s d then make number c s d v else nothing v

-- "generate for its first leg, then second", of the order at place i
unfoldable pub generate : (number i : ℕ) → Venue → Effect
generate number i v =
    let c = complex_at v i in
    generate_leg number c c.series1 c.side1 v ⟫ generate_leg number c c.series2 c.side2
