-- The calls agree: what a run does, calls with a message or a list each do, one after another, given the same messages.
use Rattle.std.specs.Prelude.{◌≡◌, ◌≢◌, Bool, false, true, List, [], ◌∷◌, ◌++◌, ℕ, zero, suc, ◌+◌, ◌-◌, ◌*◌, ◌≤◌, eqb, length, take, drop, if◌then◌else◌}
use Rattle.rules.specs.declared.Venue.{Venue}
use Rattle.rules.specs.Words.{fresh_venue}
use Rattle.rules.specs.Bytes.{length_field}
use Rattle.rules.specs.Calls.{Call, one, run, run_upon}
use Rattle.demands.specs.Demand.{Later, call_upon, given_to}
use Rattle.demands.specs.Soundness.{Shaped, SoundAt}
use Rattle.demands.specs.Most.{most_report_bytes}

-- A call reads one message --------------------------------------------------------------------

-- "The second reads one message and nothing after it": given any bytes, it does what it does given as many of them as their length says,
-- below 4 or not.
unfoldable pub read : (messages : List ℕ) → List ℕ
read bs = take (length_field bs) bs

abbrev pub ReadsOne : Type 0
ReadsOne = (v : Venue) (before room : ℕ) (messages : List ℕ) → one v before room messages ≡ one v before room (read messages)

-- A run from fresh ----------------------------------------------------------------------------

-- a run is the run upon the fresh venue, no message having gone before
abbrev pub FromFresh : Type 0
FromFresh = (room : ℕ) (messages : List ℕ) → run room messages ≡ run_upon fresh_venue 0 room messages

-- Calls one after another ---------------------------------------------------------------------

-- the bytes that a call wrote
unfoldable pub wrote : Call → List ℕ
wrote c = take c.returned.written c.report

-- how far calls one after another have come with a list of messages
pub record Progress : Type 0 where
  -- whether the last message done was torn: the call that did it returned 1
  pub torn : Bool
  pub done : ℕ
  pub venue : Venue
  -- all bytes written, in order
  pub bytes : List ℕ
  -- what is left of the list
  pub left : List ℕ

-- at first, upon a venue, so many messages having gone before
unfoldable pub fresh_progress : Venue → (before : ℕ) → (messages : List ℕ) → Progress
fresh_progress v n bs = record { torn = false; done = n; venue = v; bytes = []; left = bs }

-- what some messages in front leave of a list
unfoldable pub left_after : (done : ℕ) → List ℕ → List ℕ
left_after zero bs = bs
left_after (suc done) bs = left_after done (drop (length_field bs) bs)

-- one call more, which took the messages that it did from the front
unfoldable pub onward : Progress → Call → Progress
onward p c = record {
  torn = if eqb c.returned.done 0 then p.torn else eqb c.returned.number 1;
  done = p.done + c.returned.done;
  venue = c.returned.venue;
  bytes = p.bytes ++ wrote c;
  left = left_after c.returned.done p.left;
}

-- "each later one upon the venue that the last one returned, with the messages done so far … gone before"
unfoldable pub by_calls : List Later → Progress → Progress
by_calls [] p = p
by_calls (c ∷ cs) p = by_calls cs (onward p (call_upon c p.venue p.done))

-- What a call is given stands in front of what is left of the list, and no message is split: where the call returns 1, it is given all
-- that is left.
pub record InFront (c : Later) (p : Progress) : Type 0 where
  pub rest : List ℕ
  pub is : p.left ≡ (given_to c).bytes ++ rest
  pub whole : (call_upon c p.venue p.done).returned.number ≡ 1 → rest ≡ []

-- each call is given what is left then, or a part of it from its first byte on
abbrev pub OfList : List Later → Progress → Type 0
OfList [] p = Unit {0}
OfList (c ∷ cs) p = InFront c p × OfList cs (onward p (call_upon c p.venue p.done))

-- The claim -----------------------------------------------------------------------------------

-- Whatever the lengths of the report memories: calls that together do as many messages as a run of the list come to where the run comes.
-- They leave the same venue and the same rest of the list, and wrote the same bytes. That holds upon every venue, sound or not.
abbrev pub Agree : Type 0
Agree = (p : Progress) (room : ℕ) (cs : List Later) → OfList cs p →
    let r = onward p (run_upon p.venue p.done room p.left) in
    (by_calls cs p).done ≡ r.done → by_calls cs p ≡ r

-- "A run's number is 1 or 10 if that ended it, else 0", and 9 where it did not begin: by where the calls stand that did the same messages,
-- and by what a one-message call would then return that is lent what is left of the run's memory
pub data Ended (room : ℕ) (p : Progress) : (number : ℕ) → Type 0 where
  at_end : p.torn ≡ false → p.left ≡ [] → Ended room p 0
  at_torn : p.torn ≡ true → Ended room p 1
  at_unsound : (one p.venue p.done (room - length p.bytes) p.left).returned.number ≡ 9 → Ended room p 9
  at_full : p.torn ≡ false → (one p.venue p.done (room - length p.bytes) p.left).returned.number ≡ 10 → Ended room p 10

abbrev pub RunEnds : Type 0
RunEnds = (v : Venue) (before room : ℕ) (messages : List ℕ) → Shaped v →
    let r = run_upon v before room messages in
    Ended room (onward (fresh_progress v before messages) r) r.returned.number

-- "a run whose report memory never fills": lent so many bytes for each byte of the list, a run upon a sound venue is not ended by 10
abbrev pub NeverFills : Type 0
NeverFills = (v : Venue) (before room : ℕ) (messages : List ℕ) → SoundAt (suc before) v → before + length messages ≤ 4294967295 →
    most_report_bytes * length messages ≤ room → (run_upon v before room messages).returned.number ≢ 10
