-- The most bytes that one message writes, for whoever lends the memory of a one-message call.
use Rattle.std.specs.Prelude.{◌≡◌, List, ℕ, suc, ◌+◌, ◌*◌, ◌≤◌, ◌<◌, length}
use Rattle.rules.specs.declared.Venue.{Venue}
use Rattle.rules.specs.Records.{Report, encode, encode_all}
use Rattle.rules.specs.Lengths.{per_legging, per_regular, per_unequal, record_length}
use Rattle.rules.specs.Step.{step}
use Rattle.rules.specs.Calls.{one}
use Rattle.demands.specs.Soundness.{SoundAt, SoundVenue}

-- Each record's bytes are as many as document 01's column "Length" says.
abbrev pub Lengths : Type 0
Lengths = (r : Report) → length (encode r) ≡ record_length r

abbrev pub most_report_bytes : ℕ
most_report_bytes = 10433

-- the answer, a limited sweep's 72, and all orders that can rest, each complex one of unequal ratios
abbrev pub Parts : Type 0
Parts = ◌≡◌ {A = ℕ} most_report_bytes (12 + 5 + (per_regular * 128 + per_unequal * 32 + per_legging * 16))

-- No message upon a sound venue writes more.
abbrev pub WritesAtMost : Type 0
WritesAtMost = (v : Venue) → SoundVenue v → (number : ℕ) (message : List ℕ) →
    length (encode_all (step v number message).effect.reports) ≤ most_report_bytes

-- So a one-message call upon a sound venue that is lent as many is not ended by refusal 10, its number permitting: its message is done.
abbrev pub RoomEnough : Type 0
RoomEnough = (v : Venue) (before : ℕ) → SoundAt (suc before) v → (room : ℕ) (message : List ℕ) →
    before < 4294967295 → most_report_bytes ≤ room →
    (one v before room message).returned.done ≡ 1
