-- Document 02, (j) "Four venues behind one line": a layer above four venues, each with a wait of messages; a call brings a message, and a turn does one.
use Rattle.std.specs.Prelude.{Bool, not, ◌&&◌, ◌||◌, List, [], ◌∷◌, ◌++◌, ℕ, zero, suc, ◌+◌, ◌%◌, eqb, ltb, leb, length, get_or, set, drop, replicate, if◌then◌else◌}
use Rattle.rules.specs.declared.Venue.{Venue}
use Rattle.rules.specs.Base.{all}
use Rattle.rules.specs.Words.{fresh_venue}
use Rattle.rules.specs.Records.{sheet}
use Rattle.rules.specs.Calls.{Call, one}

-- The layer -----------------------------------------------------------------------------------

-- a venue, how many messages it has done, and those that wait for it, in the order in which they came
pub record Lane : Type 0 where
  pub venue : Venue
  pub done : ℕ
  pub wait : List (List ℕ)

-- "One process is to run four venues": the lane of each, and the venue served last
pub record Layer : Type 0 where
  pub lanes : List Lane
  pub last : ℕ

unfoldable pub fresh_lane : Lane
fresh_lane = record { venue = fresh_venue; done = 0; wait = [] }

-- "the last one served (at first 3)"
unfoldable pub fresh_layer : Layer
fresh_layer = record { lanes = replicate 4 fresh_lane; last = 3 }

unfoldable pub lane_at : Layer → (venue : ℕ) → Lane
lane_at l v = get_or l.lanes v fresh_lane

unfoldable pub with_lane : Layer → (venue : ℕ) → Lane → Layer
with_lane l v c = record { lanes = set l.lanes v c; last = l.last }

-- 9: "the layer given holds a figure out of range or a venue that gets 9" -------------------------

-- a one-message call upon it gets 9, whatever the message and the report memory: `GetsNine` of Promises. It is unsound, or the number of its next
-- message is not above every kept edition's (d) and every generation's (m).
unfoldable pub gets_nine : Lane → Bool
gets_nine c = eqb (one c.venue c.done 0 []).returned.number 9

-- "up to 8 waiting messages of at most 32 bytes for each"
unfoldable pub wait_sound : List (List ℕ) → Bool
wait_sound w = leb (length w) 8 && all (λ (m : List ℕ). leb (length m) 32) w

unfoldable pub lane_sound : Lane → Bool
lane_sound c = wait_sound c.wait && not (gets_nine c)

unfoldable pub layer_sound : Layer → Bool
layer_sound l = leb l.last 3 && all lane_sound l.lanes

-- A message arrives ---------------------------------------------------------------------------

pub record Arrived : Type 0 where
  pub number : ℕ
  pub layer : Layer

-- "17, the wait holds 8 or the message is over 32 bytes; 18, venue number above 3, checked before it; 9 … checked first"
unfoldable pub refusal_of : Layer → (venue : ℕ) → (message : List ℕ) → ℕ
refusal_of l v m =
    if not (layer_sound l) then 9
    else if ltb 3 v then 18
    else if leb 8 (length (lane_at l v).wait) || ltb 32 (length m) then 17
    else 0

-- the message waits, behind those that came before it
unfoldable pub joins : List ℕ → Lane → Lane
joins m c = record { venue = c.venue; done = c.done; wait = c.wait ++ (m ∷ []) }

-- "Answers, each leaving every wait and venue unchanged"
unfoldable pub arrive : Layer → (venue : ℕ) → (message : List ℕ) → Arrived
arrive l v m =
    let x = refusal_of l v m in
    record { number = x; layer = if eqb x 0 then with_lane l v (joins m (lane_at l v)) else l }

-- A turn --------------------------------------------------------------------------------------

-- what a one-message call returns and leaves, with the layer in the place of the venue; "It also returns the venue served"
pub record Turned : Type 0 where
  pub number : ℕ
  pub done : ℕ
  pub written : ℕ
  pub served : ℕ
  pub layer : Layer
  pub report : List ℕ

unfoldable pub waiting : Lane → Bool
waiting c = not (eqb (length c.wait) 0)

-- of so many venues from one on, going round, the first that has a message waiting; 4 if none has
unfoldable pub first_waiting : Layer → (tries from : ℕ) → ℕ
first_waiting l zero v = 4
first_waiting l (suc tries) v = if waiting (lane_at l v) then v else first_waiting l tries ((v + 1) % 4)

-- "the next venue after the last one served (at first 3), going round, that has a message waiting"
unfoldable pub next : Layer → ℕ
next l = first_waiting l 4 ((l.last + 1) % 4)

-- the message at the head of a wait
unfoldable pub head : Lane → List ℕ
head c = get_or c.wait 0 []

-- the one-message call with it
unfoldable pub head_call : Lane → (room : ℕ) → Call
head_call c room = one c.venue c.done room (head c)

-- "ended by 9 or 10"
unfoldable pub ended : Call → Bool
ended r = eqb r.returned.number 9 || eqb r.returned.number 10

-- "a turn ended by 9 or 10, or with none waiting (number 0), returns 4 for it and changes no wait, venue or last one served"
unfoldable pub idle : Layer → (room number : ℕ) → Turned
idle l room number = record { number = number; done = 0; written = 0; served = 4; layer = l; report = sheet room [] }

-- a lane after its message was done by a call: taken from its wait, and counted
unfoldable pub advanced : Lane → Call → Lane
advanced c r = record { venue = r.returned.venue; done = c.done + r.returned.done; wait = drop 1 c.wait }

unfoldable pub serve : Layer → (venue : ℕ) → Call → Turned
serve l v r = record {
  number = r.returned.number;
  done = r.returned.done;
  written = r.returned.written;
  served = v;
  layer = record { lanes = set l.lanes v (advanced (lane_at l v) r); last = v };
  report = r.report;
}

unfoldable pub turn : Layer → (room : ℕ) → Turned
turn l room =
    let v = next l in
    let r = head_call (lane_at l v) room in
    if not (layer_sound l) then idle l room 9
    else if eqb v 4 then idle l room 0
    else if ended r then idle l room r.returned.number
    else serve l v r

-- Calls one after another ---------------------------------------------------------------------

pub data Asked : Type 0 where
  arrival : (venue : ℕ) (message : List ℕ) → Asked
  turning : (room : ℕ) → Asked

unfoldable pub after : Layer → Asked → Layer
after l (arrival v m) = (arrive l v m).layer
after l (turning room) = (turn l room).layer

unfoldable pub after_all : Layer → List Asked → Layer
after_all l [] = l
after_all l (a ∷ rest) = after_all (after l a) rest
