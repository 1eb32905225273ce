-- What a message leaves of the venue's numbers and of the report memory.
use Rattle.std.specs.Prelude.{◌≡◌, Bool, not, List, [], ◌∷◌, ℕ, eqb, if◌then◌else◌}
use Rattle.rules.specs.declared.Venue.{Venue}
use Rattle.rules.specs.declared.Message.{Message}
use Rattle.rules.specs.Records.{answer}
use Rattle.rules.specs.Effects.{nothing}
use Rattle.rules.specs.Places.{close_gaps}
use Rattle.rules.specs.Refusals.{refusal_of}
use Rattle.rules.specs.Step.{StepOutcome, answered, accept, mask, filled}
use Rattle.records.specs.Seen.{seen, ◌writes◌}
use Rattle.records.specs.Stage.{stage, ◌does◌}
use Rattle.places.specs.Layout.{venue_of, Dense}
use Rattle.answers.specs.declared.Stepped.{Stepped}

-- the answer to a message whose fields are in range
unfoldable pub answered_by : Venue → (number : ℕ) → Message → StepOutcome
answered_by v number m =
    let x = refusal_of v m in
    answered number x (if eqb x 0 then accept number m v else nothing v)

-- the answer to a message of a known kind and of its length: `ranged` where its fields are in range, `equal` where it is of kind 10 with equal ratios
unfoldable pub ranged_by : Venue → (number : ℕ) → (ranged equal : Bool) → Message → StepOutcome
ranged_by v number ranged equal m =
    if not ranged then answered number 4 (nothing v)
    else if equal then answered number 14 (nothing v)
    else answered_by v number m

-- an accepted message's effects are done: the gaps are closed, and the answer is set at the start
pub record Finishes (number : ℕ) (b₀ out₀ : List ℕ) (end : ℕ) (r : Stepped) (b out : List ℕ) : Type 0 where
  pub refused : r.refused ≡ 0
  pub written : r.written ≡ end
  pub venue : venue_of b ≡ close_gaps (venue_of b₀)
  pub set : out ≡ (seen out₀ 0 writes (answer number 0 (mask (venue_of b).legging) (filled (venue_of b).legging) ∷ [])).memory
  pub dense : Dense b

-- the answered message, done: its venue, its records from the start of the memory, and no gaps left
pub record Steps (a : StepOutcome) (out₀ : List ℕ) (r : Stepped) (b out : List ℕ) : Type 0 where
  pub refused : r.refused ≡ a.refused
  pub staged : stage (venue_of b) out r.written ≡ seen out₀ 0 does a.effect
  pub dense : Dense b
