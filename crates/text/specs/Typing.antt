-- Text typed into a lent slice, byte by byte.
use Rattle.std.specs.Prelude.{List, [], ◌∷◌, ℕ}
use Rattle.records.specs.Seen.{Seen, ◌plus◌}

-- Each byte is written where it fits. Once one did not, the position is past the end, for good, and no further byte is written.
infixl 6 ◌types◌
unfoldable pub ◌types◌ : Seen → List ℕ → Seen
w types [] = w
w types (b ∷ bs) = (w plus (b ∷ [])) types bs
