-- Document 02, (k): "If both lines came from one list of whole messages numbered without gaps and no message was lost from both, exactly that
-- list is handed out, up to a 10."
use Rattle.std.specs.Prelude.{◌≡◌, Bool, true, ◌||◌, List, [], ◌∷◌, ◌++◌, map, ℕ, suc, ◌≤◌, length, if◌then◌else◌}
use Rattle.rules.specs.Bytes.{u32, length_field}
use Rattle.rules.specs.Calls.{run}
use Rattle.feed.specs.Feed.{handed, joined, feed}

-- a message that was sent, and over which lines it came
pub record Sent : Type 0 where
  pub message : List ℕ
  pub on_main : Bool
  pub on_spare : Bool

-- "whole messages": the length that each begins with is its own
abbrev pub WholeMessage : List ℕ → Type 0
WholeMessage m = (4 ≤ length m) × (length_field m ≡ length m)

abbrev pub AllWhole : List Sent → Type 0
AllWhole [] = Unit {0}
AllWhole (x ∷ xs) = WholeMessage x.message × AllWhole xs

-- "no message was lost from both"
abbrev pub NoneLost : List Sent → Type 0
NoneLost [] = Unit {0}
NoneLost (x ∷ xs) = ((x.on_main || x.on_spare) ≡ true) × NoneLost xs

-- "numbered without gaps": a line of those that came over it, n having been sent before
unfoldable pub line_from : (on : Sent → Bool) → (n : ℕ) → List Sent → List ℕ
line_from on n [] = []
line_from on n (x ∷ xs) = (if on x then u32 (suc n) ++ x.message else []) ++ line_from on (suc n) xs

abbrev pub main_line : List Sent → List ℕ
main_line = line_from (λ x. x.on_main) 0

abbrev pub spare_line : List Sent → List ℕ
spare_line = line_from (λ x. x.on_spare) 0

abbrev pub messages : List Sent → List (List ℕ)
messages = map (λ x. x.message)

-- exactly that list is handed out; its numbers are u32s
abbrev pub ListHanded : Type 0
ListHanded = (sent : List Sent) → length sent ≤ 4294967295 → AllWhole sent → NoneLost sent →
    handed (main_line sent) (spare_line sent) ≡ record { messages = messages sent; number = 0 }

-- so the call returns what a run of the list returns, which ends at a 10
abbrev pub ListRun : Type 0
ListRun = (room : ℕ) (sent : List Sent) → length sent ≤ 4294967295 → AllWhole sent → NoneLost sent →
    feed room (main_line sent) (spare_line sent) ≡ run room (joined (messages sent))
