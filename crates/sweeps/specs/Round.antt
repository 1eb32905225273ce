-- The places that a limited sweep looks at.
use Rattle.std.specs.Prelude.{List, [], ◌∷◌, ◌++◌, ℕ, zero, suc}
use Rattle.sweeps.specs.declared.Round.{Round}

-- n places from place k on
unfoldable pub places_from : (k n : ℕ) → List ℕ
places_from k zero = []
places_from k (suc n) = k ∷ places_from (suc k) n

unfoldable pub round_places : Round → List ℕ
round_places r = places_from r.first r.above ++ places_from 0 r.others
