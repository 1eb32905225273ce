-- What the layer promises, over every list of calls.
use Rattle.std.specs.Prelude.{◌≡◌, ◌≢◌, ◌⊎◌, true, false, ◌&&◌, List, [], ◌∷◌, ◌++◌, ℕ, suc, ◌≤◌, ◌<◌, eqb, length, replicate, if◌then◌else◌}
use Rattle.rules.specs.Records.{Report, records}
use Rattle.rules.specs.Calls.{Call, one}
use Rattle.demands.specs.Demand.{Holds, Later, Opening, Seen, alone, by_message, calls, given_to, opening}
use Rattle.demands.specs.Soundness.{Shaped}
use Rattle.demands.specs.Most.{most_report_bytes}
use Rattle.demands.specs.Truth.{Truthful}
use Rattle.layer.specs.Layer.{Lane, Layer, Turned, Asked, arrival, turning, fresh_layer, lane_at, gets_nine, layer_sound}
use Rattle.layer.specs.Layer.{arrive, next, turn, serve, head, after, after_all}

-- Soundness -----------------------------------------------------------------------------------

-- "a venue that gets 9": what `gets_nine` asks of one call holds of every call upon the venue with its count
abbrev pub GetsNine : Type 0
GetsNine = (c : Lane) (room : ℕ) (m : List ℕ) → gets_nine c ≡ eqb (one c.venue c.done room m).returned.number 9

-- a layer of the declared type, of four venues, and sound
pub record SoundLayer (l : Layer) : Type 0 where
  pub four : length l.lanes ≡ 4
  pub shaped : (v : ℕ) → Shaped (lane_at l v).venue
  pub is : layer_sound l ≡ true

abbrev pub FreshSound : Type 0
FreshSound = SoundLayer fresh_layer

-- it stays so under every call
abbrev pub LayerStaysSound : Type 0
LayerStaysSound = (l : Layer) → SoundLayer l → (a : Asked) → SoundLayer (after l a)

-- so no call upon a layer that came from the calls answers 9
pub record NeverNine : Type 0 where
  pub arrives : (past : List Asked) (v : ℕ) (m : List ℕ) → (arrive (after_all fresh_layer past) v m).number ≢ 9
  pub turns : (past : List Asked) (room : ℕ) → (turn (after_all fresh_layer past) room).number ≢ 9

-- Lent as much as a message may write, a turn upon a sound layer is not ended by 9 or 10, while no venue has come to the end of its numbers.
abbrev pub RoomEnough : Type 0
RoomEnough = (l : Layer) → SoundLayer l → ((v : ℕ) → (lane_at l v).done < 4294967295) → (room : ℕ) → most_report_bytes ≤ room →
    ((turn l room).number ≢ 9) × ((turn l room).number ≢ 10)

-- Refused -------------------------------------------------------------------------------------

-- "17, the wait holds 8 or the message is over 32 bytes; 18, venue number above 3, checked before it; 9 … checked first": the number of an arrival, whatever else holds of it
pub record Answers (l : Layer) (v : ℕ) (m : List ℕ) : Type 0 where
  pub nine : layer_sound l ≡ false → (arrive l v m).number ≡ 9
  pub eighteen : layer_sound l ≡ true → 3 < v → (arrive l v m).number ≡ 18
  pub seventeen : layer_sound l ≡ true → v < 4 → (8 ≤ length (lane_at l v).wait) ⊎ (32 < length m) → (arrive l v m).number ≡ 17
  pub taken : layer_sound l ≡ true → v < 4 → length (lane_at l v).wait < 8 → length m ≤ 32 → (arrive l v m).number ≡ 0

abbrev pub Answered : Type 0
Answered = (l : Layer) (v : ℕ) (m : List ℕ) → Answers l v m

-- no venue has a message waiting
abbrev pub NoneWaiting : Layer → Type 0
NoneWaiting l = (v : ℕ) → v < 4 → (lane_at l v).wait ≡ []

-- "each leaving every wait and venue unchanged"; a turn "ended by 9 or 10, or with none waiting (number 0), returns 4 for it and changes no wait, venue or
-- last one served", and one that returns 4 was ended by 9 or 10 or had none waiting
pub record Unchanged : Type 0 where
  pub arrives : (l : Layer) (v : ℕ) (m : List ℕ) → (arrive l v m).number ≢ 0 → (arrive l v m).layer ≡ l
  pub turns : (l : Layer) (room : ℕ) → (turn l room).served ≡ 4 → (turn l room).layer ≡ l
  pub ended9 : (l : Layer) (room : ℕ) → (turn l room).number ≡ 9 → (turn l room).served ≡ 4
  pub ended10 : (l : Layer) (room : ℕ) → (turn l room).number ≡ 10 → (turn l room).served ≡ 4
  pub none : (l : Layer) (room : ℕ) → layer_sound l ≡ true → NoneWaiting l → ((turn l room).number ≡ 0) × ((turn l room).served ≡ 4)
  pub four : (l : Layer) (room : ℕ) → (turn l room).served ≡ 4 →
      ((turn l room).number ≡ 9) ⊎ (((turn l room).number ≡ 10) ⊎ (((turn l room).number ≡ 0) × NoneWaiting l))

-- What a turn returns -------------------------------------------------------------------------

-- a turn returns what a one-message call does, and leaves its report
pub record SameCall (t : Turned) (c : Call) : Type 0 where
  pub number : t.number ≡ c.returned.number
  pub done : t.done ≡ c.returned.done
  pub written : t.written ≡ c.returned.written
  pub report : t.report ≡ c.report

-- a turn that served venue v: it is the one-message call upon it with the message at the head of its wait
pub record ServedAt (l : Layer) (room v : ℕ) (t : Turned) : Type 0 where
  pub message : List ℕ
  pub others : List (List ℕ)
  pub wait : (lane_at l v).wait ≡ message ∷ others
  pub same : SameCall t (one (lane_at l v).venue (lane_at l v).done room message)

pub record Returns : Type 0 where
  -- "It also returns the venue served; a turn ended by 9 or 10, or with none waiting …, returns 4 for it"
  pub few : (l : Layer) (room : ℕ) → (turn l room).served ≤ 4
  pub served : (l : Layer) (room v : ℕ) → v < 4 → (turn l room).served ≡ v → ServedAt l room v (turn l room)
  -- "ended by 9 or 10, or with none waiting": no message, no byte, and zeros as long as the memory
  pub nobody : (l : Layer) (room : ℕ) → (turn l room).served ≡ 4 →
      ((turn l room).done ≡ 0) × ((turn l room).written ≡ 0) × ((turn l room).report ≡ replicate room 0)
  -- its number upon an unsound layer, and upon a sound one where a message waits: that of the call upon the venue next in turn
  pub nine : (l : Layer) (room : ℕ) → layer_sound l ≡ false → (turn l room).number ≡ 9
  pub number : (l : Layer) (room : ℕ) → layer_sound l ≡ true → next l < 4 →
      (turn l room).number ≡ (one (lane_at l (next l)).venue (lane_at l (next l)).done room (head (lane_at l (next l)))).returned.number

-- No venue waits long -------------------------------------------------------------------------

-- how many of some calls are turns
unfoldable pub turns : List Asked → ℕ
turns [] = 0
turns (arrival v m ∷ rest) = turns rest
turns (turning room ∷ rest) = suc (turns rest)

-- "If no turn is ended by 9 or 10"
abbrev pub NoneEnded : Layer → List Asked → Type 0
NoneEnded l [] = Unit {0}
NoneEnded l (arrival v m ∷ rest) = NoneEnded (after l (arrival v m)) rest
NoneEnded l (turning room ∷ rest) = ((turn l room).number ≢ 9) × ((turn l room).number ≢ 10) × NoneEnded (after l (turning room)) rest

-- A turn of the list, with so many at most before it, serves venue v: it is the one-message call with m upon the venue as it stood at first.
pub record DoneAfter (most_turns : ℕ) (l : Layer) (list : List Asked) (v : ℕ) (m : List ℕ) : Type 0 where
  pub before : List Asked
  pub room : ℕ
  pub rest : List Asked
  pub split : list ≡ before ++ (turning room ∷ rest)
  pub few : turns before ≤ most_turns
  pub does : turn (after_all l before) room ≡ serve (after_all l before) v (one (lane_at l v).venue (lane_at l v).done room m)

-- "the message at the head of a venue's wait is done by the fourth turn, no matter what arrives for the others": three at most go before
abbrev pub Fair : Type 0
Fair = (l : Layer) (list : List Asked) (v : ℕ) (m : List ℕ) (others : List (List ℕ)) → v < 4 → (lane_at l v).wait ≡ m ∷ others →
    NoneEnded l list → 4 ≤ turns list → DoneAfter 3 l list v m

-- Order ---------------------------------------------------------------------------------------

-- what a call brings for venue v
unfoldable pub brings : (v : ℕ) → Layer → Asked → List (List ℕ)
brings v l (arrival w m) = if eqb (arrive l w m).number 0 && eqb w v then m ∷ [] else []
brings v l (turning room) = []

unfoldable pub brought_by : (v : ℕ) → Layer → List Asked → List (List ℕ)
brought_by v l [] = []
brought_by v l (a ∷ rest) = brings v l a ++ brought_by v (after l a) rest

-- what a call takes from the wait of venue v, with the report memory that was lent for it
unfoldable pub takes : (v : ℕ) → Layer → Asked → List Later
takes v l (arrival w m) = []
takes v l (turning room) = if eqb (turn l room).served v then by_message (record { room = room; bytes = head (lane_at l v) }) ∷ [] else []

unfoldable pub taken_by : (v : ℕ) → Layer → List Asked → List Later
taken_by v l [] = []
taken_by v l (a ∷ rest) = takes v l a ++ taken_by v (after l a) rest

unfoldable pub messages_of : List Later → List (List ℕ)
messages_of [] = []
messages_of (c ∷ cs) = (given_to c).bytes ∷ messages_of cs

-- "a venue's own messages keep their order": those that waited and those that came are those that were taken and those that wait now
abbrev pub Ordered : Type 0
Ordered = (l : Layer) (list : List Asked) (v : ℕ) → length l.lanes ≡ 4 → v < 4 →
    (lane_at l v).wait ++ brought_by v l list ≡ messages_of (taken_by v l list) ++ (lane_at (after_all l list) v).wait

-- Each venue by itself --------------------------------------------------------------------------

-- the records of a call that served venue v
unfoldable pub tells : (v : ℕ) → Layer → Asked → List Report
tells v l (arrival w m) = []
tells v l (turning room) = if eqb (turn l room).served v then records (turn l room).report else []

unfoldable pub told_by : (v : ℕ) → Layer → List Asked → List Report
told_by v l [] = []
told_by v l (a ∷ rest) = tells v l a ++ told_by v (after l a) rest

-- what callers have seen of venue v: s before, and then by calls from a layer on
unfoldable pub seen_of : (v : ℕ) → Seen → Layer → List Asked → Seen
seen_of v s l list = record {
  venue = (lane_at (after_all l list) v).venue;
  done = (lane_at (after_all l list) v).done;
  messages = s.messages ++ messages_of (taken_by v l list);
  reports = s.reports ++ told_by v l list;
}

-- a lane has the venue that callers saw last, and as many messages done
pub record LeftBy (s : Seen) (c : Lane) : Type 0 where
  pub venue : c.venue ≡ s.venue
  pub done : c.done ≡ s.done

-- "Each venue's records then equal those of a venue served alone, by one-message calls, with the messages taken from its wait": from any layer of four venues
-- on, sound or not, whatever was seen of that venue before
abbrev pub Apart : Type 0
Apart = (s : Seen) (l : Layer) (list : List Asked) (v : ℕ) → length l.lanes ≡ 4 → v < 4 → LeftBy s (lane_at l v) →
    seen_of v s l list ≡ calls s (taken_by v l list)

-- so where a layer's venue was left by a list of calls from fresh, Demand 3 holds of that list and the layer's, and their sheet tells the truth
abbrev pub EachHolds : Type 0
EachHolds = (o : Opening) (cs : List Later) (l : Layer) (list : List Asked) (v : ℕ) → length l.lanes ≡ 4 → v < 4 → LeftBy (calls (opening o) cs) (lane_at l v) →
    let s = seen_of v (calls (opening o) cs) l list in
    Holds s × Truthful s

-- as every venue of the fresh layer was, by no call
abbrev pub FreshLeft : Type 0
FreshLeft = (v : ℕ) → LeftBy (calls (opening alone) []) (lane_at fresh_layer v)
