-- Filling, resting and trading: what Order and Complex have in common.
use Rattle.std.specs.Prelude.{true, false, not, ℕ, zero, suc, ◌-◌, min, set, ℤ}
use Rattle.rules.specs.declared.Regular.{Regular}
use Rattle.rules.specs.declared.Complex.{Complex}
use Rattle.rules.specs.declared.Venue.{Venue}
use Rattle.rules.specs.declared.Cause.TheVariants.{Executed}
use Rattle.rules.specs.Base.{held, place_where, nobody, picked, first}
use Rattle.rules.specs.Words.{opposite, regular_at, complex_at, with_regular, with_complex, earlier}
use Rattle.rules.specs.Prices.{shown_size, shows_for}
use Rattle.rules.specs.Records.{trade, pair}
use Rattle.rules.specs.Effects.{Effect, nothing, report, ◌⟫◌}
use Rattle.rules.specs.Removal.{remove_of}

-- Filling and resting -------------------------------------------------------------------------

-- The order o after k of its contracts have traded. They are taken from what it shows first: so its reserve stays as it is, until what is
-- left is less than the reserve; then all that is left is reserve. Its shown quantity is never more than what is left. "leaving frees the
-- place": where nothing is left, its quantity is 0.
unfoldable pub less_regular : (k : ℕ) → (o : Regular) → Regular
less_regular k o = record {
  id = o.id;
  series = o.series;
  side = o.side;
  price = o.price;
  quantity = o.quantity - k;
  display = min o.display (o.quantity - k);
  reserve = min o.reserve (o.quantity - k);
}

-- the complex order c after k of its units have traded
unfoldable pub less_complex : (k : ℕ) → (c : Complex) → Complex
less_complex k c = record {
  id = c.id;
  series1 = c.series1;
  side1 = c.side1;
  series2 = c.series2;
  side2 = c.side2;
  class = c.class;
  limit = c.limit;
  quantity = c.quantity - k;
  ratio1 = c.ratio1;
  ratio2 = c.ratio2;
}

-- the order at place i is filled for k contracts
unfoldable pub fill_regular : (i k : ℕ) → Venue → Venue
fill_regular i k v = with_regular v (set v.regular i (less_regular k (regular_at v i)))

unfoldable pub fill_complex : (i k : ℕ) → Venue → Venue
fill_complex i k v = with_complex v (set v.complex i (less_complex k (complex_at v i)))

-- the first free place; past the end if all are held
unfoldable pub free_regular : Venue → ℕ
free_regular v = place_where (λ o. not (held o.quantity)) v.regular

unfoldable pub free_complex : Venue → ℕ
free_complex v = place_where (λ c. not (held c.quantity)) v.complex

-- an order is given place i
unfoldable pub put_regular : (i : ℕ) → Regular → Venue → Venue
put_regular i o v = with_regular v (set v.regular i o)

unfoldable pub put_complex : (i : ℕ) → Complex → Venue → Venue
put_complex i c v = with_complex v (set v.complex i c)

-- Trading -------------------------------------------------------------------------------------

-- a taker of side d trades k contracts with the regular order at place i, "at the resting price"
unfoldable pub trade_with : (taker d i k : ℕ) → Venue → Effect
trade_with taker d i k v =
    let o = regular_at v i in
    report (trade o.series d o.price k taker o.id) (fill_regular i k v)

-- "k contracts … (trades by id, taker the complex order)": a taker of side d takes k contracts at price p in series s; the fuel is k.
-- (e): "A complex order takes shown size only."
unfoldable pub trade_at_price : (fuel taker s d p k : ℕ) → Venue → Effect
trade_at_price zero taker s d p k v = nothing v
trade_at_price (suc fuel) taker s d p k v =
    elim (held k) [
      | false ↦ nothing v
      | true ↦ elim (first (shows_for s (opposite d) p) earlier v.regular) [
        | nobody ↦ nothing v
        | picked i o ↦ trade_with taker d i (min k (shown_size o)) v ⟫ trade_at_price fuel taker s d p (k - min k (shown_size o))
      ]
    ]

-- k of the complex order of this id, at place i, are paired at net n: "66, then removal of all its parent's legging orders (cause 3)";
-- "Any cross or pair removes the legging orders of each party (3), right after its 70 or 66"; (C)(3) and (C)(4)(iii)
unfoldable pub pair_off : (i id : ℕ) (n : ℤ) (k : ℕ) → Venue → Effect
pair_off i id n k v = report (pair id n k) (fill_complex i k v) ⟫ remove_of id Executed
