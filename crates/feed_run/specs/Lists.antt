-- Request (k), over the equations of the contracts of `feed` and of `run` (src/lib.rt).
use Rattle.std.specs.Prelude.{◌≡◌, List, ℕ, ◌≤◌, eqb, length, if◌then◌else◌}
use Rattle.rules.specs.declared.Returned.{Returned}
use Rattle.feed.specs.Feed.{handed, joined, feed}
use Rattle.feed.specs.Sent.{Sent, AllWhole, NoneLost, main_line, spare_line, messages}
use Rattle.engine.specs.Runs.{call_of}
use Rattle.engine.specs.Sheets.{Ran}

-- what the contract of `feed` says, of the lines, what the report memory held, what was returned, and what the memory holds then
abbrev pub WasFed : (main spare held : List ℕ) → Returned → (left : List ℕ) → Type 0
WasFed main spare held r left = call_of r left ≡ feed (length held) main spare

-- "The call returns what a run of the list handed out returns, but 19 to 21 as its number where one stopped it": as many report bytes being given to both
abbrev pub ReturnsAsRun : Type 0
ReturnsAsRun = (main spare held₁ held₂ : List ℕ) → length held₁ ≡ length held₂ → (r₁ r₂ : Returned) (left₁ left₂ : List ℕ) →
    WasFed main spare held₁ r₁ left₁ → Ran (joined (handed main spare).messages) held₂ r₂ left₂ →
    (r₁.number ≡ (if eqb r₂.number 0 then (handed main spare).number else r₂.number)) × (r₁.done ≡ r₂.done) × (r₁.written ≡ r₂.written)
    × (r₁.venue ≡ r₂.venue) × (left₁ ≡ left₂)

-- "If both lines came from one list of whole messages numbered without gaps and no message was lost from both, exactly that list is handed out, up to a 10":
-- the call returns what a run of that list returns, its number too
abbrev pub ReturnsAsList : Type 0
ReturnsAsList = (sent : List Sent) → length sent ≤ 4294967295 → AllWhole sent → NoneLost sent →
    (held₁ held₂ : List ℕ) → length held₁ ≡ length held₂ → (r₁ r₂ : Returned) (left₁ left₂ : List ℕ) →
    WasFed (main_line sent) (spare_line sent) held₁ r₁ left₁ → Ran (joined (messages sent)) held₂ r₂ left₂ → (r₁ ≡ r₂) × (left₁ ≡ left₂)
