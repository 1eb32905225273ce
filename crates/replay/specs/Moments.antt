-- Request (i): "For every list of messages from fresh: no trade record takes a side of a series while a strictly better shown or legging price stood on that
-- side at that moment; and when an incoming regular order hits a legging order, no regular contract, shown or reserve, stood at that price." And request (b),
-- of every cross at its moment. The moment of a record is just before it, all that was written before it done, by replay.
use Rattle.std.specs.Prelude.{◌≡◌, false, true, ◌≢◌, List, [], ◌∷◌, ◌≤◌, ℕ, ℤ, neg_ℤ}
use Rattle.rules.specs.declared.Venue.{Venue}
use Rattle.rules.specs.Base.{held}
use Rattle.rules.specs.Words.{complex_at, fresh_venue, is_complex_of, is_regular_of, legging_at, opposite, regular_at}
use Rattle.rules.specs.Records.{Report, answer, cancelled, crossed, generated, looked, pair, removed, trade}
use Rattle.rules.specs.Prices.{better, own_price, rests_at, shown_size, shows_at}
use Rattle.rules.specs.Step.{step}
use Rattle.demands.specs.Crosses.{Respects}
use Rattle.demands.specs.Demand.{Later, Opening, calls, opening}
use Rattle.demands.specs.Soundness.{SoundVenue}
use Rattle.replay.specs.Replay.{State, next, upon}

-- A trade -------------------------------------------------------------------------------------

-- The maker of a trade stands in the books at that moment, on side e of series s at price p, with k contracts or more: it is a regular order that rests there,
-- or the complex order of the legging order that stands there.
pub data MakerStands (v : Venue) (s e p k maker : ℕ) : Type 0 where
  resting : (i : ℕ) → rests_at s e (regular_at v i) ≡ true → (regular_at v i).id ≡ maker → (regular_at v i).price ≡ p → k ≤ (regular_at v i).quantity →
      MakerStands v s e p k maker
  legging : (j : ℕ) → is_complex_of maker (complex_at v j) ≡ true → held (legging_at v s e).quantity ≡ true → (legging_at v s e).parent ≡ maker →
      (legging_at v s e).price ≡ p → k ≤ (legging_at v s e).quantity → MakerStands v s e p k maker

-- (e): "At one price all shown size trades by id, then, in trades of its own, all reserve by id, then the legging order": of a trade of k contracts with the
-- order that rests at place i, on side e of series s at price p. "Then the legging order" is `hit` below.
pub record InTurn (v : Venue) (s e p k i : ℕ) : Type 0 where
  -- while it shows any, the trade is of what it shows, and of those at that price that show none is earlier
  pub own : held (shown_size (regular_at v i)) ≡ true → k ≤ shown_size (regular_at v i)
  pub shown_by_id : held (shown_size (regular_at v i)) ≡ true → (n : ℕ) → shows_at s e (regular_at v n) ≡ true → (regular_at v n).price ≡ p → (regular_at v i).id ≤ (regular_at v n).id
  -- its reserve is traded when none at that price shows any, and of those that rest there none is earlier
  pub all_shown : held (shown_size (regular_at v i)) ≡ false → (n : ℕ) → rests_at s e (regular_at v n) ≡ true → (regular_at v n).price ≡ p → held (shown_size (regular_at v n)) ≡ false
  pub reserve_by_id : held (shown_size (regular_at v i)) ≡ false → (n : ℕ) → rests_at s e (regular_at v n) ≡ true → (regular_at v n).price ≡ p → (regular_at v i).id ≤ (regular_at v n).id

-- a trade of k contracts at price p in series s by a taker of side d, upon the books v: it takes the side opposite to d
pub record NonePassedOver (v : Venue) (s d p k taker maker : ℕ) : Type 0 where
  -- the maker stands there: were it lost from the books, what is asked below would say nothing
  pub stands : MakerStands v s (opposite d) p k maker
  -- "no … strictly better shown … price stood on that side"
  pub shown : (i : ℕ) → shows_at s (opposite d) (regular_at v i) ≡ true → better (opposite d) (regular_at v i).price p ≡ false
  -- "… or legging price"
  pub legging : better (opposite d) (own_price (legging_at v s (opposite d))) p ≡ false
  -- beyond the request: an incoming regular order passes no better reserve over either
  pub reserve : (j : ℕ) → is_regular_of taker (regular_at v j) ≡ true →
      (i : ℕ) → rests_at s (opposite d) (regular_at v i) ≡ true → better (opposite d) (regular_at v i).price p ≡ false
  -- request (e), of an incoming regular order and the regular order that it meets
  pub turn : (j : ℕ) → is_regular_of taker (regular_at v j) ≡ true → (i : ℕ) → is_regular_of maker (regular_at v i) ≡ true → InTurn v s (opposite d) p k i
  -- "when an incoming regular order hits a legging order, no regular contract, shown or reserve, stood at that price": the maker is a complex order
  pub hit : (j : ℕ) → is_complex_of maker (complex_at v j) ≡ true →
      (i : ℕ) → rests_at s (opposite d) (regular_at v i) ≡ true → (regular_at v i).price ≢ p

-- A cross -------------------------------------------------------------------------------------

-- (b): "A cross is made only if neither party's net is above what best regular prices of both legs would give that party, where both legs have one":
-- the taker's net n, and the maker's, minus that
pub record BothRespected (v : Venue) (taker maker : ℕ) (n : ℤ) : Type 0 where
  pub taking : (i : ℕ) → is_complex_of taker (complex_at v i) ≡ true → Respects v (complex_at v i) n
  pub resting : (i : ℕ) → is_complex_of maker (complex_at v i) ≡ true → Respects v (complex_at v i) (neg_ℤ n)

-- Every record --------------------------------------------------------------------------------

-- what is asked of a record upon the books just before it
abbrev pub AtItsMoment : Venue → Report → Type 0
AtItsMoment v (answer number refusal mask count) = Unit {0}
AtItsMoment v (trade series side price quantity taker maker) = NonePassedOver v series side price quantity taker maker
AtItsMoment v (pair id n quantity) = Unit {0}
AtItsMoment v (generated id series side price displayed quantity) = Unit {0}
AtItsMoment v (removed id series side cause) = Unit {0}
AtItsMoment v (crossed taker maker n quantity) = BothRespected v taker maker n
AtItsMoment v (cancelled id quantity) = Unit {0}
AtItsMoment v (looked count) = Unit {0}

-- of each record in turn
abbrev pub AtEach : State → List Report → Type 0
AtEach x [] = Unit {0}
AtEach x (r ∷ rs) = AtItsMoment x.books r × AtEach (next r x) rs

-- The claim -----------------------------------------------------------------------------------

-- of one message upon a sound venue, and of every list of calls
pub record NoBetterPassedOver : Type 0 where
  pub message : (v : Venue) → SoundVenue v → (number : ℕ) (message : List ℕ) →
      AtEach (upon v (message ∷ [])) (step v number message).effect.reports
  pub list : (o : Opening) (cs : List Later) →
      let s = calls (opening o) cs in
      AtEach (upon fresh_venue s.messages) s.reports
