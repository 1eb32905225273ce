-- Document 02 (n): "every session of 0 to 3 messages, shorter first, then by the messages' places in the list, repeats allowed: each once and none left out".
-- "A session is its list of places." The places in a list of k messages are 0 to k - 1 here; they are printed 1 to k.
use Rattle.std.specs.Prelude.{◌≡◌, true, false, ◌&&◌, ◌⊎◌, ◌≢◌, ℕ, zero, suc, ◌+◌, ◌*◌, ◌≤◌, ◌<◌, ltb, length, replicate}
use mathlib.Core.List.{List, Memᴰ, [], ◌∷◌, ◌++◌, map}
use Rattle.std.proofs.Math.Option.{Option, none, some}

-- The sessions --------------------------------------------------------------------------------

-- the sessions that begin at one of `count` places from p on and go on as those of l do
unfoldable pub beginning_at : (p count : ℕ) → List (List ℕ) → List (List ℕ)
beginning_at p zero l = []
beginning_at p (suc count) l = map (λ (s : List ℕ). p ∷ s) l ++ beginning_at (suc p) count l

-- the sessions of n messages, by their places
unfoldable pub of_length : (k n : ℕ) → List (List ℕ)
of_length k zero = [] ∷ []
of_length k (suc n) = beginning_at 0 k (of_length k n)

-- "every session of 0 to 3 messages, shorter first"
unfoldable pub sessions : (k : ℕ) → List (List ℕ)
sessions k = of_length k 0 ++ (of_length k 1 ++ (of_length k 2 ++ of_length k 3))

-- What is asked of them -----------------------------------------------------------------------

-- a session from a list of k messages
unfoldable pub Within : (k : ℕ) → List ℕ → Type 0
Within k [] = Unit {0}
Within k (p ∷ s) = (p < k) × Within k s

-- "none left out"
abbrev pub NoneLeftOut : Type 0
NoneLeftOut = (k : ℕ) (s : List ℕ) → length s ≤ 3 → Within k s → Memᴰ s (sessions k)

-- and no other list of places is there
abbrev pub NoOther : Type 0
NoOther = (k : ℕ) (s : List ℕ) → Memᴰ s (sessions k) → (length s ≤ 3) × Within k s

-- "by the messages' places in the list": the first that differs decides
unfoldable pub Lower : (s t : List ℕ) → Type 0
Lower [] t = ⊥
Lower (p ∷ s) [] = ⊥
Lower (p ∷ s) (q ∷ t) = (p < q) ⊎ ((p ≡ q) × Lower s t)

-- "shorter first, then by the messages' places"
unfoldable pub Before : (s t : List ℕ) → Type 0
Before s t = (length s < length t) ⊎ ((length s ≡ length t) × Lower s t)

-- each stands so to all that come later
unfoldable pub Pairwise : (R : (s t : List ℕ) → Type 0) → List (List ℕ) → Type 0
Pairwise R [] = Unit {0}
Pairwise R (s ∷ l) = ((t : List ℕ) → Memᴰ t l → R s t) × Pairwise R l

abbrev pub InOrder : Type 0
InOrder = (k : ℕ) → Pairwise Before (sessions k)

-- "each once"
abbrev pub EachOnce : Type 0
EachOnce = (k : ℕ) (a b c : List (List ℕ)) (s t : List ℕ) → sessions k ≡ a ++ s ∷ b ++ t ∷ c → s ≢ t

-- "1,885 sessions" of 12 messages
abbrev pub Number : Type 0
Number = (k : ℕ) → length (sessions k) ≡ 1 + k + k * k + k * k * k

-- One after another ---------------------------------------------------------------------------

-- the next of the same length: the last place that is not the last of the list goes up by one, and those after it are the first again
unfoldable pub raised : (k : ℕ) → List ℕ → Option (List ℕ)
raised k [] = none
raised k (p ∷ s) = elim (raised k s) [
  | some t ↦ some (p ∷ t)
  | none ↦ elim (ltb (suc p) k) [
    | true ↦ some (suc p ∷ replicate (length s) 0)
    | false ↦ none
  ]
]

-- the next: where there is none of the same length, the first of one message more
unfoldable pub following : (k : ℕ) → List ℕ → Option (List ℕ)
following k s = elim (raised k s) [
  | some t ↦ some t
  | none ↦ elim (ltb (length s) 3 && ltb 0 k) [
    | true ↦ some (replicate (suc (length s)) 0)
    | false ↦ none
  ]
]

-- from s on, l are those that follow one another, to the last
unfoldable pub Follow : (k : ℕ) → List ℕ → List (List ℕ) → Type 0
Follow k s [] = following k s ≡ none
Follow k s (t ∷ l) = (following k s ≡ some t) × Follow k t l

-- from the empty session on, they are all the sessions
pub record Followed (k : ℕ) : Type 0 where
  pub rest : List (List ℕ)
  pub all : sessions k ≡ [] ∷ rest
  pub follow : Follow k [] rest

abbrev pub OneAfterAnother : Type 0
OneAfterAnother = (k : ℕ) → Followed k
