-- A session in lent memory: four bytes, how many messages it has, their places, and zeros.
use Rattle.std.specs.Prelude.{◌≡◌, Bool, true, false, ◌&&◌, List, [], ◌∷◌, ◌++◌, ℕ, ◌-◌, ◌≤◌, eqb, ltb, drop, get_or, length, replicate, take}
use Rattle.std.proofs.Math.Option.{Option, none, some}
use Rattle.short_sessions.specs.Sessions.{Within, following}

unfoldable pub held : (s : List ℕ) → List ℕ
held s = length s ∷ s ++ replicate (3 - length s) 0

-- whether each place is one of k
unfoldable pub is_within : (k : ℕ) → List ℕ → Bool
is_within k [] = true
is_within k (p ∷ s) = ltb p k && is_within k s

-- the session from a list of k messages that a memory holds: the bytes after its places are not looked at
unfoldable pub held_in : (k : ℕ) (memory : List ℕ) → Option (List ℕ)
held_in k m = elim (eqb (length m) 4 && ltb (get_or m 0 0) 4 && is_within k (take (get_or m 0 0) (drop 1 m))) [
  | true ↦ some (take (get_or m 0 0) (drop 1 m))
  | false ↦ none
]

-- a memory holds the session that was put there
abbrev pub HoldsOwn : Type 0
HoldsOwn = (k : ℕ) (s : List ℕ) → length s ≤ 3 → Within k s → held_in k (held s) ≡ some s

-- the session that a move came to, and the memory that it left
pub record Moved : Type 0 where
  pub to : Option (List ℕ)
  pub memory : List ℕ

unfoldable pub moved : Option (List ℕ) → (memory : List ℕ) → Moved
moved o m = record { to = o; memory = m }

-- to the session after the one that the memory holds; where there is none, or it holds none, it is as it was
unfoldable pub advanced : (k : ℕ) (memory : List ℕ) → Moved
advanced k m = elim (held_in k m) [
  | none ↦ moved none m
  | some s ↦ elim (following k s) [
    | none ↦ moved none m
    | some t ↦ moved (some t) (held t)
  ]
]
