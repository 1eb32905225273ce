-- Request (a), "Which orders go is unaffected": the rank of causes that it brings, beside the rank of document 01.
use Rattle.std.specs.Prelude.{◌≡◌, Bool, not, ◌&&◌, map, ℕ, ◌/◌, ◌%◌, eqb, if◌then◌else◌}
use Rattle.rules.specs.declared.Cause.{Cause}
use Rattle.rules.specs.declared.Cause.TheVariants.{NotOpen, OutOfBand, Unpaired, Worse}
use Rattle.rules.specs.declared.Complex.{Complex}
use Rattle.rules.specs.declared.Legging.{Legging}
use Rattle.rules.specs.declared.Venue.{Venue}
use Rattle.rules.specs.declared.Verdict.{Verdict}
use Rattle.rules.specs.declared.Verdict.TheVariants.{Fails, Stands}
use Rattle.rules.specs.Base.{held}
use Rattle.rules.specs.Records.{Report, cause_number, answer, cancelled, crossed, generated, looked, pair, removed, trade}
use Rattle.rules.specs.Effects.{Effect}
use Rattle.rules.specs.Prices.{in_band}
use Rattle.rules.specs.Removal.{remove}
use Rattle.rules.specs.Standing.{both_open, find_complex, pairs, parent_of, settle, show_again, displayed_no_worse, stands, verdict}

-- The former rank -----------------------------------------------------------------------------

-- the standing test by 01's rank, "with the lowest cause that applies": 1, 2, 5, 6
unfoldable pub former_verdict_of : Venue → Complex → (series side : ℕ) → Legging → Verdict
former_verdict_of v c s d l =
    if not (displayed_no_worse v s d l.price) then Fails Worse
    else if not (pairs v c s d l.price l.quantity) then Fails Unpaired
    else if not (in_band v c c.limit) then Fails OutOfBand
    else if not (both_open v c) then Fails NotOpen
    else Stands

-- of what stands at place n
unfoldable pub former_verdict : Venue → (place : ℕ) → Legging → Verdict
former_verdict v n l = if held l.quantity then former_verdict_of v (parent_of v l) (n / 2) (n % 2) l else Stands

-- settling by it, each order having shown again (request (e))
unfoldable pub former_settle : Venue → Effect
former_settle v =
    let w = show_again v in
    remove (former_verdict w) w

-- What changes --------------------------------------------------------------------------------

-- 5 holds too: the limit of the complex order with an id is out of band in v
unfoldable pub left_band : Venue → (id : ℕ) → Bool
left_band v id = let c = find_complex id v.complex in not (in_band v c c.limit)

-- a cause told of an order of the complex order with an id: "each 68 record that said 2 where 5 held too" says 5, every other what it said
unfoldable pub recaused : Venue → (id : ℕ) → Cause → Cause
recaused v id cause = if eqb (cause_number cause) 2 && left_band v id then OutOfBand else cause

-- a record of a settling of v: of a 68 the cause may change, and nothing else does
unfoldable pub retold : Venue → Report → Report
retold v (removed id series side cause) = removed id series side (recaused v id cause)
retold v (answer number refusal mask count) = answer number refusal mask count
retold v (trade series side price quantity taker maker) = trade series side price quantity taker maker
retold v (pair id n quantity) = pair id n quantity
retold v (generated id series side price displayed quantity) = generated id series side price displayed quantity
retold v (crossed taker maker n quantity) = crossed taker maker n quantity
retold v (cancelled id quantity) = cancelled id quantity
retold v (looked count) = looked count

-- The promise ---------------------------------------------------------------------------------

-- of every venue, sound or not
pub record Unaffected : Type 0 where
  -- whether an order passes its test, which is all that generation and soundness ask of it, does not turn on the rank
  pub passes : (v : Venue) (place : ℕ) (l : Legging) → stands (verdict v place l) ≡ stands (former_verdict v place l)
  -- "Which orders go is unaffected": the same legging orders stay, and the venue left is the same
  pub venue : (v : Venue) → (settle v).venue ≡ (former_settle v).venue
  -- "Old answers that change": the same records in the same order, each 68 that said 2 where 5 held too now with 5
  pub reports : (v : Venue) → (settle v).reports ≡ map (retold (show_again v)) (former_settle v).reports
