-- Request (e), "Reserve size": what the trades of one message take from an order that rests, by what it showed when the message began,
-- and in which order.
use Rattle.std.specs.Prelude.{◌≡◌, not, true, ◌&&◌, List, [], ◌++◌, ◌∷◌, ◌≢◌, ◌≤◌, suc, ℕ, eqb, if◌then◌else◌}
use Rattle.rules.specs.declared.Message.{Message}
use Rattle.rules.specs.declared.Message.TheVariants.{Away, Cancel, Increment, LimitedSweep, Order, Percent, Status, Sweep, TwoLeg}
use Rattle.rules.specs.declared.Regular.{Regular}
use Rattle.rules.specs.declared.Venue.{Venue}
use Rattle.rules.specs.Base.{held}
use Rattle.rules.specs.Words.{legging_at, opposite, regular_at}
use Rattle.rules.specs.Messages.{message_of}
use Rattle.rules.specs.Records.{Report, answer, cancelled, crossed, generated, looked, pair, removed, trade}
use Rattle.rules.specs.Prices.{rests_at, shown_size}
use Rattle.rules.specs.Step.{step}
use Rattle.rules.specs.Sums.{total}
use Rattle.demands.specs.Soundness.{SoundVenue}

-- An order that arrives -----------------------------------------------------------------------

-- the quantity of a trade between a taker and a maker
unfoldable pub trade_of : (taker maker : ℕ) → Report → List ℕ
trade_of x y (answer n f m c) = []
trade_of x y (trade s d p q taker maker) = if eqb taker x && eqb maker y then q ∷ [] else []
trade_of x y (pair i n q) = []
trade_of x y (generated i s d p displayed q) = []
trade_of x y (removed i s d c) = []
trade_of x y (crossed taker maker n q) = []
trade_of x y (cancelled i q) = []
trade_of x y (looked n) = []

-- and of all of them, in order
unfoldable pub trades_of : (taker maker : ℕ) → List Report → List ℕ
trades_of x y [] = []
trades_of x y (r ∷ rs) = trade_of x y r ++ trades_of x y rs

-- at most two: of what the maker shows, and when all of that is gone of its reserve
pub data AtMostTwo (shown_size reserve : ℕ) : List ℕ → Type 0 where
  untraded : AtMostTwo shown_size reserve []
  of_shown : (k : ℕ) → k ≤ shown_size → AtMostTwo shown_size reserve (k ∷ [])
  of_both : (k : ℕ) → k ≤ reserve → AtMostTwo shown_size reserve (shown_size ∷ k ∷ [])

-- "in trades of its own": of any message that brings an order, upon a sound venue, with the order that rests at place i
abbrev pub TwoTrades : Type 0
TwoTrades = (v : Venue) → SoundVenue v → (number : ℕ) (message : List ℕ) (o : Regular) → message_of message ≡ Order o →
    (i : ℕ) → held (regular_at v i).quantity ≡ true →
    AtMostTwo (shown_size (regular_at v i)) (regular_at v i).reserve
    (trades_of o.id (regular_at v i).id (step v number message).effect.reports)

-- The order among makers ----------------------------------------------------------------------

-- a trade of an order that arrives: its maker and its quantity
pub record Fill : Type 0 where
  pub maker : ℕ
  pub quantity : ℕ

-- what a record tells of the trades of a taker at a price, and of all of them, in order
unfoldable pub fill_of : (taker price : ℕ) → Report → List Fill
fill_of x p (answer n f m c) = []
fill_of x p (trade s d price q taker maker) = if eqb taker x && eqb price p then record { maker = maker; quantity = q } ∷ [] else []
fill_of x p (pair i n q) = []
fill_of x p (generated i s d price displayed q) = []
fill_of x p (removed i s d c) = []
fill_of x p (crossed taker maker n q) = []
fill_of x p (cancelled i q) = []
fill_of x p (looked n) = []

unfoldable pub fills_of : (taker price : ℕ) → List Report → List Fill
fills_of x p [] = []
fills_of x p (r ∷ rs) = fill_of x p r ++ fills_of x p rs

-- of what is traded: shown size, reserve, the legging order
pub data SizeKind : Type 0 where
  at_shown : SizeKind
  at_reserve : SizeKind
  at_legging : SizeKind

-- "At one price all shown size trades by id, then, in trades of its own, all reserve by id, then the legging order": trades with makers
-- that stood on side e of series s at price p when the message began, from a kind of size on and there from an id on. That none is passed
-- over is said of each trade at its moment: replay Moments, `InTurn`.
pub data InOrder (v : Venue) (s e p : ℕ) : SizeKind → (low : ℕ) → List Fill → Type 0 where
  no_more : {kind : SizeKind} {low : ℕ} → InOrder v s e p kind low []
  -- of what a maker showed, the ids rising
  of_shown : {low : ℕ} {rest : List Fill} (i k : ℕ) → rests_at s e (regular_at v i) ≡ true → (regular_at v i).price ≡ p →
      low ≤ (regular_at v i).id → k ≤ shown_size (regular_at v i) → InOrder v s e p at_shown (suc (regular_at v i).id) rest →
      InOrder v s e p at_shown low (record { maker = (regular_at v i).id; quantity = k } ∷ rest)
  -- from here on no more of shown size
  then_reserve : {low : ℕ} {rest : List Fill} → InOrder v s e p at_reserve 0 rest → InOrder v s e p at_shown low rest
  -- of a maker's reserve, the ids rising from the first one on again
  of_reserve : {low : ℕ} {rest : List Fill} (i k : ℕ) → rests_at s e (regular_at v i) ≡ true → (regular_at v i).price ≡ p →
      low ≤ (regular_at v i).id → k ≤ (regular_at v i).reserve → InOrder v s e p at_reserve (suc (regular_at v i).id) rest →
      InOrder v s e p at_reserve low (record { maker = (regular_at v i).id; quantity = k } ∷ rest)
  -- from here on no more of regular orders
  then_legging : {low : ℕ} {rest : List Fill} → InOrder v s e p at_legging 0 rest → InOrder v s e p at_reserve low rest
  -- the legging order that stood there, once
  of_legging : {low : ℕ} (k : ℕ) → (legging_at v s e).price ≡ p → k ≤ (legging_at v s e).quantity →
      InOrder v s e p at_legging low (record { maker = (legging_at v s e).parent; quantity = k } ∷ [])

-- of any message that brings an order, upon a sound venue, at any price
abbrev pub MakersInOrder : Type 0
MakersInOrder = (v : Venue) → SoundVenue v → (number : ℕ) (message : List ℕ) (o : Regular) → message_of message ≡ Order o → (p : ℕ) →
    InOrder v o.series (opposite o.side) p at_shown 0 (fills_of o.id p (step v number message).effect.reports)

-- Complex orders ------------------------------------------------------------------------------

-- the regular order that a message brings; 0, which is no order's id, where it brings none
unfoldable pub arriving : Message → ℕ
arriving (Order o) = o.id
arriving (TwoLeg c) = 0
arriving (Cancel id) = 0
arriving (Away s bid offer) = 0
arriving (Status s x) = 0
arriving Sweep = 0
arriving (Increment s i e) = 0
arriving (Percent x e) = 0
arriving (LimitedSweep n) = 0

-- no message but one that brings a regular order has one that arrives
abbrev pub OthersBringNone : Type 0
OthersBringNone = (m : Message) → ((o : Regular) → m ≢ Order o) → arriving m ≡ 0

-- the contracts of a trade with a maker, whose taker is not the order x: only the regular order that arrives takes, and complex orders
unfoldable pub taken_from : (x maker : ℕ) → Report → ℕ
taken_from x y (answer n f m c) = 0
taken_from x y (trade s d p q taker maker) = if eqb maker y && not (eqb taker x) then q else 0
taken_from x y (pair i n q) = 0
taken_from x y (generated i s d p displayed q) = 0
taken_from x y (removed i s d c) = 0
taken_from x y (crossed taker maker n q) = 0
taken_from x y (cancelled i q) = 0
taken_from x y (looked n) = 0

-- "A complex order takes shown size only": of any message, upon a sound venue, all complex orders together from the order that rests at
-- place i
abbrev pub ShownOnly : Type 0
ShownOnly = (v : Venue) → SoundVenue v → (number : ℕ) (message : List ℕ) (i : ℕ) → held (regular_at v i).quantity ≡ true →
    total (taken_from (arriving (message_of message)) (regular_at v i).id) (step v number message).effect.reports
    ≤ shown_size (regular_at v i)
