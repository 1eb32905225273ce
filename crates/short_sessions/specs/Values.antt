-- The values that the code holds.
use Rattle.std.specs.Prelude.{List, [], ◌∷◌, ℕ, None, Some}
use Rattle.std.specs.declared.option.Option.{Option}
use Rattle.std.proofs.Math.Option as maybe
use Rattle.std.proofs.Math.Option.{none, some}
use Rattle.short_sessions.specs.declared.Session.{Session}
use Rattle.short_sessions.specs.declared.Session.TheVariants.{Empty, One, Two, Three}

-- the places of a session
abbrev pub places_of : Session → List ℕ
places_of Empty = []
places_of (One a) = a ∷ []
places_of (Two a b) = a ∷ b ∷ []
places_of (Three a b c) = a ∷ b ∷ c ∷ []

-- the session that was found
abbrev pub found : Option Session → maybe.Option (List ℕ)
found (Some s) = some (places_of s)
found None = none
