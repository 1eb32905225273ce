-- Memory that holds a session of a list of two messages, and memory that holds none; by computation.
use Rattle.std.specs.Prelude.{◌≡◌, refl, [], ◌∷◌, map}
use Rattle.std.proofs.Math.Option.{none, some}
use Rattle.short_sessions.specs.Held.{held_in, is_within}

-- the bytes after the places are any
pub sessions-held : map (held_in 2) ((0 ∷ 9 ∷ 9 ∷ 9 ∷ []) ∷ (1 ∷ 1 ∷ 9 ∷ 9 ∷ []) ∷ (3 ∷ 1 ∷ 0 ∷ 1 ∷ []) ∷ []) ≡ some [] ∷ some (1 ∷ []) ∷ some (1 ∷ 0 ∷ 1 ∷ []) ∷ []
unfolding held_in is_within
sessions-held = refl

-- three bytes, five bytes, four messages, and a place that the list has not
pub none-held : map (held_in 2) ((1 ∷ 0 ∷ 0 ∷ []) ∷ (1 ∷ 0 ∷ 0 ∷ 0 ∷ 0 ∷ []) ∷ (4 ∷ 0 ∷ 0 ∷ 0 ∷ []) ∷ (2 ∷ 0 ∷ 2 ∷ 0 ∷ []) ∷ []) ≡ none ∷ none ∷ none ∷ none ∷ []
unfolding held_in is_within
none-held = refl
