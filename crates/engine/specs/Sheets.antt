-- Request (f): "a run's whole sheet now follows from the messages and the report memory's length".
use Rattle.std.specs.Prelude.{◌≡◌, List, ℕ, length}
use Rattle.rules.specs.declared.Returned.{Returned}
use Rattle.rules.specs.Calls.{run}
use Rattle.engine.specs.Runs.{call_of}

-- What the contracts of `run` and of `legging_run` say (src/lib.rt), of the messages, what the report memory held, what was returned, and what the memory
-- holds then.
abbrev pub Ran : (messages held : List ℕ) → Returned → (left : List ℕ) → Type 0
Ran messages held r left = call_of r left ≡ run (length held) messages

abbrev pub RanHosted : (messages held : List ℕ) → (number : ℕ) → (left : List ℕ) → Type 0
RanHosted messages held n left = (n ≡ (run (length held) messages).returned.number) × (left ≡ (run (length held) messages).report)

-- Two runs given the same messages and as many report bytes return the same and leave the same bytes, whatever the memories held before.
pub record SheetFollows : Type 0 where
  pub by_run : (messages held₁ held₂ : List ℕ) → length held₁ ≡ length held₂ → (r₁ r₂ : Returned) (left₁ left₂ : List ℕ) →
      Ran messages held₁ r₁ left₁ → Ran messages held₂ r₂ left₂ → (r₁ ≡ r₂) × (left₁ ≡ left₂)
  pub by_host : (messages held₁ held₂ : List ℕ) → length held₁ ≡ length held₂ → (n₁ n₂ : ℕ) (left₁ left₂ : List ℕ) →
      RanHosted messages held₁ n₁ left₁ → RanHosted messages held₂ n₂ left₂ → (n₁ ≡ n₂) × (left₁ ≡ left₂)
