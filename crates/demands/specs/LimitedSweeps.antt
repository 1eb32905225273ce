-- Request (m), of kind 11: "a sweep limited to n resting orders …, starting after the last id that a kind 11 looked at and going round by
-- id", and its record 72. Of one message upon a sound venue; and of messages one after another through which two orders stay in rest:
-- limited sweeps look at them in turn, so every order that stays in rest is looked at once in a round.
use Rattle.std.specs.Prelude.{◌≡◌, not, ◌≢◌, ◌⊎◌, ℕ, suc, ◌+◌, ◌<◌, min, eqb, ltb, length, take, if◌then◌else◌}
use mathlib.Core.List.{List, Memᴰ, [], ◌++◌, ◌∷◌, map}
use Rattle.rules.specs.declared.Message.{Message}
use Rattle.rules.specs.declared.Message.TheVariants.{Away, Cancel, Increment, LimitedSweep, Order, Percent, Status, Sweep, TwoLeg}
use Rattle.rules.specs.declared.Venue.{Venue}
use Rattle.rules.specs.Base.{held, keep}
use Rattle.rules.specs.Words.{complex_at}
use Rattle.rules.specs.Messages.{message_of}
use Rattle.rules.specs.Records.{ForAll, Report, answer, cancelled, crossed, generated, looked, pair, removed, trade}
use Rattle.rules.specs.Complex.{going_round}
use Rattle.rules.specs.Refusals.{refusal}
use Rattle.rules.specs.Step.{step}
use Rattle.demands.specs.Soundness.{SoundAt, SoundVenue}
use Rattle.demands.specs.Truth.{answer_of, venue_after}

-- What a limited sweep looks at ---------------------------------------------------------------

-- the ids of the complex orders that rest, by their places
unfoldable pub resting : Venue → List ℕ
resting v = map (λ c. c.id) (keep (λ c. held c.quantity) v.complex)

-- each above the one before, the first above `low`
abbrev pub Rises : (low : ℕ) → List ℕ → Type 0
Rises low [] = Unit {0}
Rises low (i ∷ is) = (low < i) × Rises i is

-- "starting after the last id … and going round by id": of ids in rising order those above it, and then the others
unfoldable pub round : (after : ℕ) → List ℕ → List ℕ
round r is = keep (ltb r) is ++ keep (λ i. not (ltb r i)) is

-- "limited to n resting orders": the ids that it looks at, in this order
unfoldable pub looks : (n : ℕ) → Venue → List ℕ
looks n v = take n (round v.reached (resting v))

-- the last of some ids; where there is none, the one before
unfoldable pub last_of : (before : ℕ) → List ℕ → ℕ
last_of r [] = r
last_of r (i ∷ is) = last_of i is

-- One limited sweep ---------------------------------------------------------------------------

-- a record that is no 72
abbrev pub NoLook : Report → Type 0
NoLook (answer number refusal mask count) = Unit {0}
NoLook (trade series side price quantity taker maker) = Unit {0}
NoLook (pair id n quantity) = Unit {0}
NoLook (generated id series side price displayed quantity) = Unit {0}
NoLook (removed id series side cause) = Unit {0}
NoLook (crossed taker maker n quantity) = Unit {0}
NoLook (cancelled id quantity) = Unit {0}
NoLook (looked count) = ⊥

-- the taker of a 65 or a 70, the order of a 66 and the order of a 67 are among some ids
abbrev pub Among : (ids : List ℕ) → Report → Type 0
Among ids (answer number refusal mask count) = Unit {0}
Among ids (trade series side price quantity taker maker) = Memᴰ taker ids
Among ids (pair id n quantity) = Memᴰ id ids
Among ids (generated id series side price displayed quantity) = Memᴰ id ids
Among ids (removed id series side cause) = Unit {0}
Among ids (crossed taker maker n quantity) = Memᴰ taker ids
Among ids (cancelled id quantity) = Unit {0}
Among ids (looked count) = Unit {0}

-- the message of this number, a kind 11 limited to n, accepted upon v
pub record Limited (v : Venue) (number : ℕ) (message : List ℕ) (n : ℕ) : Type 0 where
  -- the ids that go round are in rising order
  pub rising : Rises 0 (resting v)
  -- "the lesser of n and the orders resting when it starts"
  pub lesser : length (looks n v) ≡ min n (length (resting v))
  -- the orders at whose places it works and then generates
  pub places : map (λ i. (complex_at v i).id) (take n (going_round v)) ≡ looks n v
  -- "It writes record 72, one u8, right after its 64: the number looked at"; and no other
  pub effects : List Report
  pub written : (step v number message).effect.reports ≡ answer_of v number message ∷ looked (length (looks n v)) ∷ effects
  pub once : ForAll NoLook effects
  -- "limited to n resting orders …, generation too": only orders that it looks at take, and only they generate
  pub only : ForAll (Among (looks n v)) effects
  -- the last id looked at, after which the next one starts; where nothing rests, the one before
  pub reached : (venue_after v number message).reached ≡ last_of v.reached (looks n v)

-- Messages one after another ------------------------------------------------------------------

-- the ids that a message looks at: only a limited sweep does
unfoldable pub looks_by : Message → Venue → List ℕ
looks_by (Order o) v = []
looks_by (TwoLeg c) v = []
looks_by (Cancel id) v = []
looks_by (Away s bid offer) v = []
looks_by (Status s x) v = []
looks_by Sweep v = []
looks_by (Increment s i e) v = []
looks_by (Percent x e) v = []
looks_by (LimitedSweep n) v = looks n v

-- the message at the front of bs, where it is accepted
unfoldable pub looks_in : Venue → (message : List ℕ) → List ℕ
looks_in v bs = if eqb (refusal v bs) 0 then looks_by (message_of bs) v else []

-- messages upon v one after another, n having gone before
unfoldable pub looks_all : Venue → (n : ℕ) → (messages : List (List ℕ)) → List ℕ
looks_all v n [] = []
looks_all v n (m ∷ ms) = looks_in v m ++ looks_all (venue_after v (suc n) m) (suc n) ms

-- a complex order with this id rests when each of the messages starts
abbrev pub Stays : (id : ℕ) → Venue → (n : ℕ) → (messages : List (List ℕ)) → Type 0
Stays x v n [] = Unit {0}
Stays x v n (m ∷ ms) = Memᴰ x (resting v) × Stays x (venue_after v (suc n) m) (suc n) ms

-- x and y by turns among some ids, x first
pub data InTurn : (x y : ℕ) → List ℕ → Type 0 where
  none : {x y : ℕ} → InTurn x y []
  other : {x y i : ℕ} {is : List ℕ} → i ≢ x → i ≢ y → InTurn x y is → InTurn x y (i ∷ is)
  turn : {x y : ℕ} {is : List ℕ} → InTurn y x is → InTurn x y (x ∷ is)

-- The promise ---------------------------------------------------------------------------------

pub record LimitedSweeps : Type 0 where
  pub looks_at : (v : Venue) → SoundVenue v → (number : ℕ) (message : List ℕ) (n : ℕ) →
      message_of message ≡ LimitedSweep n → refusal v message ≡ 0 → Limited v number message n
  -- "the last id that a kind 11 looked at": every other message leaves it, and writes no 72
  pub others : (v : Venue) (number : ℕ) (message : List ℕ) → ((n : ℕ) → message_of message ≡ LimitedSweep n → refusal v message ≢ 0) →
      ((venue_after v number message).reached ≡ v.reached) × ForAll NoLook (step v number message).effect.reports
  -- Any messages upon a sound venue, whatever else they do: of two orders that stay in rest neither is looked at twice before the other
  -- is. So between two looks at one of them every other one is looked at once.
  pub in_turn : (v : Venue) (before : ℕ) → SoundAt (suc before) v → (messages : List (List ℕ)) → before + length messages < 4294967296 →
      (x y : ℕ) → x ≢ y → Stays x v before messages → Stays y v before messages →
      InTurn x y (looks_all v before messages) ⊎ InTurn y x (looks_all v before messages)
