-- Request (f): a run's whole sheet follows from the messages and the report memory's length.
use mathlib.Core.Path.{◌≡◌, sym, ap, ◌∙◌}
use mathlib.Core.List.{List}
use Prim.Native.Nat.{ℕ}
use lib.ListN.{length}
use Rattle.rules.specs.declared.Returned.{Returned}
use Rattle.rules.specs.Calls.{Call, run}
use Rattle.engine.specs.Runs.{call_of}
use Rattle.engine.specs.Sheets.{Ran, RanHosted, SheetFollows}

module _ (messages held₁ held₂ : List ℕ) (e : length held₁ ≡ length held₂) where
  same-call : run (length held₁) messages ≡ run (length held₂) messages
  same-call = ap (λ (n : ℕ). run n messages) e

  by-run : (r₁ r₂ : Returned) (left₁ left₂ : List ℕ) → Ran messages held₁ r₁ left₁ → Ran messages held₂ r₂ left₂ → (r₁ ≡ r₂) × (left₁ ≡ left₂)
  by-run r₁ r₂ left₁ left₂ p q =
      let z : call_of r₁ left₁ ≡ call_of r₂ left₂ = p ∙ same-call ∙ sym q in
      (ap (λ (c : Call). c.returned) z, ap (λ (c : Call). c.report) z)

  by-host : (n₁ n₂ : ℕ) (left₁ left₂ : List ℕ) → RanHosted messages held₁ n₁ left₁ → RanHosted messages held₂ n₂ left₂ → (n₁ ≡ n₂) × (left₁ ≡ left₂)
  by-host n₁ n₂ left₁ left₂ p q =
      (p.0 ∙ ap (λ (c : Call). c.returned.number) same-call ∙ sym q.0, p.1 ∙ ap (λ (c : Call). c.report) same-call ∙ sym q.1)

pub sheet-follows : SheetFollows
sheet-follows = record { by_run = by-run; by_host = by-host }
