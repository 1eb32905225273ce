-- A lent slice and the position up to which it is written; what writing bytes and records there leaves of both.
use Rattle.std.specs.Prelude.{List, [], ◌∷◌, ◌++◌, ℕ, suc, ◌+◌, leb, length, take, drop, if◌then◌else◌}
use Rattle.rules.specs.Bytes.{u32}
use Rattle.rules.specs.Records.{Report, encode}

-- every byte of the slice, and the position; a position past the end says that something did not fit
pub record Seen : Type 0 where
  pub memory : List ℕ
  pub at : ℕ

unfoldable pub seen : List ℕ → ℕ → Seen
seen l at = record { memory = l; at = at }

-- l with bs in the place of the bytes from `at` on
unfoldable pub pasted : List ℕ → ℕ → List ℕ → List ℕ
pasted l at bs = take at l ++ bs ++ drop (at + length bs) l

-- the bytes of each of some u32s
unfoldable pub word_bytes : List ℕ → List ℕ
word_bytes [] = []
word_bytes (x ∷ xs) = u32 x ++ word_bytes xs

-- bs, written at the position where they fit; where not, no byte is written and the position is past the end, for good
infixl 6 ◌plus◌
unfoldable pub ◌plus◌ : Seen → List ℕ → Seen
w plus bs =
    if leb (w.at + length bs) (length w.memory)
    then record { memory = pasted w.memory w.at bs; at = w.at + length bs }
    else record { memory = w.memory; at = suc (length w.memory) }

-- records, one after another
infixl 6 ◌writes◌
unfoldable pub ◌writes◌ : Seen → List Report → Seen
w writes [] = w
w writes (r ∷ rs) = (w plus encode r) writes rs
