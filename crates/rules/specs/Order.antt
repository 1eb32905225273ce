-- Document 01, "Order (kind 1)", and kind 9 of request (e).
use Rattle.std.specs.Prelude.{Bool, not, ◌&&◌, ◌||◌, ℕ, min, eqb, if◌then◌else◌}
use Rattle.rules.specs.declared.Regular.{Regular}
use Rattle.rules.specs.declared.Legging.{Legging}
use Rattle.rules.specs.declared.Venue.{Venue}
use Rattle.rules.specs.Base.{held, place_where, Choice, nobody, picked, first}
use Rattle.rules.specs.Words.{opposite, regular_at, legging_at, is_complex_of, earlier}
use Rattle.rules.specs.Prices.{better, rests_at, reaches, shown_size, own_price}
use Rattle.rules.specs.Records.{trade}
use Rattle.rules.specs.Effects.{Effect, report, ◌⟫◌, Turn, ended, turned, repeat}
use Rattle.rules.specs.Standing.{other_leg, other_clear, leg_net, parent_of, settle}
use Rattle.rules.specs.Trading.{fill_regular, free_regular, put_regular, trade_with, trade_at_price, pair_off}

-- Who is met ----------------------------------------------------------------------------------

-- "It meets the other side while prices cross or are equal": an order of side d at price p in series s meets the regular order m, shown
-- size and reserve
unfoldable pub is_met : (series side price : ℕ) → Regular → Bool
is_met s d p m = rests_at s (opposite d) m && reaches d p m.price

-- True where a is met before b at one price. (e): "At one price all shown size trades by id, then, in trades of its own, all reserve by
-- id": where b shows something, a must show something too and be the earlier; where b shows nothing, it is enough that a shows something
-- or is the earlier.
unfoldable pub shown_then_id : (a b : Regular) → Bool
shown_then_id a b = if held (shown_size b) then held (shown_size a) && earlier a b else (held (shown_size a) || earlier a b)

-- "best own price first, then regular by id"; at one price as (e) has it
unfoldable pub price_then_id : Regular → Regular → Bool
price_then_id a b = better a.side a.price b.price || (eqb a.price b.price && shown_then_id a b)

-- what of m is traded at once: what it shows or, when that is gone, its reserve, "in trades of its own"
unfoldable pub at_once : Regular → ℕ
at_once m = if held (shown_size m) then shown_size m else m.quantity

-- the regular order that the order at place i meets first
unfoldable pub first_met : (i : ℕ) → Venue → Choice Regular
first_met i v =
    let o = regular_at v i in
    first (is_met o.series o.side o.price) price_then_id v.regular

-- "best own price first, … legging last at equal price": the order o meets the legging order l before a regular order at price p
-- (0: none) where l's own price is strictly better; (C)(3)
unfoldable pub legging_first : Regular → Legging → (p : ℕ) → Bool
legging_first o l p =
    held (own_price l) && reaches o.side o.price (own_price l) && better (opposite o.side) (own_price l) p

-- What is done --------------------------------------------------------------------------------

-- the order at place i trades k contracts with the regular order at place j
unfoldable pub meet : (i j k : ℕ) → Venue → Effect
meet i j k v = trade_with (regular_at v i).id (regular_at v i).side j k (fill_regular i k v)

-- "A legging order hit for k contracts: trade, then k contracts of the other leg at its clear price (trades by id, taker the complex
-- order), then 66, then removal of all its parent's legging orders (cause 3, by place)": l, by the order at place i; (C)(3)
unfoldable pub hit : (i : ℕ) → Legging → (k : ℕ) → Venue → Effect
hit i l k v =
    let o = regular_at v i in
    let c = parent_of v l in
    let leg = other_leg c o.series in
    let clear = other_clear v c o.series in
    let n = leg_net c o.series (opposite o.side) l.price clear in
    report (trade o.series o.side l.price k o.id c.id) (fill_regular i k v)
    ⟫ trade_at_price k c.id leg.series leg.side clear k
    ⟫ (λ w. pair_off (place_where (is_complex_of c.id) w.complex) c.id n k w)

-- "trades at the resting price, each time for the lesser of both quantities"; (e): of what the resting order shows, or of its reserve,
-- "then the legging order"
unfoldable pub meet_turn : (i : ℕ) → Venue → Turn
meet_turn i v =
    let o = regular_at v i in
    let l = legging_at v o.series (opposite o.side) in
    let hitting = hit i l (min o.quantity l.quantity) v in
    if not (held o.quantity) then ended
    else elim (first_met i v) [
      | nobody ↦ if legging_first o l 0 then turned hitting else ended
      | picked j m ↦
          if legging_first o l m.price then turned hitting
          else turned (meet i j (min o.quantity (at_once m)) v)
    ]

-- the order is given a place and meets the other side there; "the rest of it rests"
unfoldable pub enter_regular : Regular → Venue → Effect
enter_regular o v =
    let i = free_regular v in
    repeat o.quantity (meet_turn i) (put_regular i o v)

-- "Nothing is generated meanwhile."
unfoldable pub order : Regular → Venue → Effect
order o v = enter_regular o v ⟫ settle
