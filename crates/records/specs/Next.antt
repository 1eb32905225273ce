-- A report memory read record by record.
use Rattle.std.specs.Prelude.{List, [], ◌∷◌, ℕ, zero, suc, ◌+◌, min, eqb, length, drop, if◌then◌else◌, Option, Some, None}
use Rattle.rules.specs.Bytes.{u16_at}
use Rattle.rules.specs.Records.{Report, record_of}
use Rattle.records.specs.declared.Found.{Found}

-- What stands at a position: "the sheet ends at the first zero length or at the end of the report memory". A record is told by its kind and
-- the position after it, which is no further than the end.
unfoldable pub next_record : (memory : List ℕ) (at : ℕ) → Option Found
next_record memory at =
    let n = u16_at memory at in
    if eqb n 0 then None else Some (record { kind = u16_at memory (at + 2); end = min (at + n) (length memory) })

-- the records that a reader meets who goes from each one to the position after it; the fuel is the length of the memory
unfoldable pub records_at : (fuel : ℕ) → (memory : List ℕ) → (at : ℕ) → List Report
records_at zero memory at = []
records_at (suc fuel) memory at = elim (next_record memory at) [ Some r ↦ record_of (drop at memory) ∷ records_at fuel memory r.end | None ↦ [] ]
