-- Document 01, "Refusals": "Two calls: a run from fresh over a message list, and one message upon a venue held by value, the caller giving
-- how many messages went before it, a u32; its number is one more." Refusals 9 and 10. Beyond the documents, a run upon a venue that a host
-- holds. And document 02 (d)'s call, which tells the settings.
use Rattle.std.specs.Prelude.{Bool, true, false, not, ◌&&◌, ◌||◌, List, [], ◌∷◌, ◌++◌, map, ℕ, zero, suc, ◌-◌, ltb, eqb, length, drop, replicate, if◌then◌else◌}
use Rattle.rules.specs.declared.Venue.{Venue}
use Rattle.rules.specs.declared.Returned.{Returned}
use Rattle.rules.specs.declared.Settings.{Settings}
use Rattle.rules.specs.Words.{fresh_venue}
use Rattle.rules.specs.Settings.{percentage, in_force}
use Rattle.rules.specs.Bytes.{length_field}
use Rattle.rules.specs.Records.{Report, encode_all, sheet}
use Rattle.rules.specs.Effects.{Effect}
use Rattle.rules.specs.Step.{step}
use Rattle.rules.specs.Sound.{sound, follows}

-- how a call goes: its number, the messages done, the venue, and the records of these messages
pub record Outcome : Type 0 where
  pub number : ℕ
  pub done : ℕ
  pub venue : Venue
  pub reports : List Report

-- what a caller sees of it: what the call returns, and the report memory
pub record Call : Type 0 where
  pub returned : Returned
  pub report : List ℕ

-- "Both return a number, messages done (refused ones counted), bytes written and the venue"; a report memory of this length holds
-- the records' bytes and then zeros
unfoldable pub called : (room : ℕ) → Outcome → Call
called room o = record {
  returned = record { number = o.number; done = o.done; written = length (encode_all o.reports); venue = o.venue };
  report = sheet room o.reports;
}

-- 10: "the next message's records, its 64 included, exceed the report bytes left, or its number would pass 4,294,967,295"; "where even a
-- refusal's 64 doesn't fit, the answer is 10"
unfoldable pub exceeds : (number room : ℕ) → List Report → Bool
exceeds number room rs = ltb 4294967295 number || ltb room (length (encode_all rs))

-- the call ends with a number before any further message
unfoldable pub ends : (number : ℕ) → Venue → Outcome
ends number v = record { number = number; done = 0; venue = v; reports = [] }

-- one message done, and then how the rest of the call goes
unfoldable pub after : Effect → Outcome → Outcome
after e r = record { number = r.number; done = suc r.done; venue = r.venue; reports = e.reports ++ r.reports }

-- The four ends of a call that takes messages, each with the venue that it leaves. "A run's number is 1 or 10 if that ended it, else 0".
-- 0: no message is left
abbrev pub end_of_list : Venue → Outcome
end_of_list = ends 0

-- 1: the last message was torn, and was answered
abbrev pub after_torn : Venue → Outcome
after_torn = ends 1

-- 9: the venue is unsound, or the number of the first message is not above every kept one
abbrev pub not_taken : Venue → Outcome
not_taken = ends 9

-- 10: the next message exceeds, and is not done
abbrev pub before_exceeding : Venue → Outcome
before_exceeding = ends 10

-- How a run goes on over the bytes bs upon v, after n messages, with `room` report bytes left. Where no end is reached, the message is done
-- and the run goes on after it. The fuel is the length of bs: a message that does not end the run has at least 4 bytes.
unfoldable pub run_from : (fuel : ℕ) → Venue → (n room : ℕ) → (bs : List ℕ) → Outcome
run_from zero v n room bs = end_of_list v
run_from (suc fuel) v n room bs =
    let a = step v (suc n) bs in
    elim (eqb (length bs) 0) [
      | true ↦ end_of_list v
      | false ↦ elim (exceeds (suc n) room a.effect.reports) [
        | true ↦ before_exceeding v
        | false ↦ after a.effect (elim (eqb a.refused 1) [
          | true ↦ after_torn a.effect.venue
          | false ↦ run_from fuel a.effect.venue (suc n) (room - length (encode_all a.effect.reports)) (drop (length_field bs) bs)
        ])
      ]
    ]

-- "a run from fresh over a message list"
unfoldable pub run : (room : ℕ) → List ℕ → Call
run room bs = called room (run_from (length bs) fresh_venue 0 room bs)

-- a call upon v, n messages having gone before, does not get 9: v is sound, and the number n + 1 is above every kept one.
-- 9: "one-message call given an unsound venue": "number 9; the venue as given, all report bytes 0".
-- 02 (d): "A one-message call whose number is not above every kept edition's gets 9." (m): "must be above every generation's, else 9"
abbrev pub is_taken : Venue → (n : ℕ) → Bool
is_taken v n = sound v && follows (suc n) v

-- A run upon a venue, n messages having gone before: "9 before all", as in the one-message call, and then the messages one by one, as a run
-- does them. An empty list gets 9 where the venue is not taken, and else 0. Where n is 4,294,967,295 there is no first number:
-- every kept number is below n + 1, so only an unsound venue gets 9. As 10 comes before a message only, an empty list gets 0 there too.
-- A run from fresh is the case of the fresh venue and n = 0 (demands Agree: `FromFresh`).
unfoldable pub run_upon_from : Venue → (n room : ℕ) → List ℕ → Outcome
run_upon_from v n room bs = if not (is_taken v n) then not_taken v else run_from (length bs) v n room bs

unfoldable pub run_upon : Venue → (n room : ℕ) → List ℕ → Call
run_upon v n room bs = called room (run_upon_from v n room bs)

-- "one message upon a venue", n messages having gone before: "9 before all"; "a one-message call's is 9, 10 or its message's own"
unfoldable pub one_from : Venue → (n room : ℕ) → List ℕ → Outcome
one_from v n room bs =
    let a = step v (suc n) bs in
    if not (is_taken v n) then not_taken v
    else if exceeds (suc n) room a.effect.reports then before_exceeding v
    else after a.effect (ends a.refused a.effect.venue)

unfoldable pub one : Venue → (n room : ℕ) → List ℕ → Call
one v n room bs = called room (one_from v n room bs)

-- Document 02 (d): "tells the eight increments and the percent in force at any message number"; "asked of an unsound venue, the settings
-- are told as 9 and zeros"
unfoldable pub settings : Venue → (number : ℕ) → Settings
settings v n =
    if sound v
    then record { number = 0; increments = map (in_force v n) (0 ∷ 1 ∷ 2 ∷ 3 ∷ 4 ∷ 5 ∷ 6 ∷ 7 ∷ []); percent = in_force v n percentage }
    else record { number = 9; increments = replicate 8 0; percent = 0 }
