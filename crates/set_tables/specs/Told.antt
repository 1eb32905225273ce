-- What a memory that holds a set tells: its records, and the venue of them.
use Rattle.std.specs.Prelude.{◌≡◌, Bool, true, List, [], ◌++◌, ℕ, length, drop, map}
use Rattle.rules.specs.declared.Legging.{Legging}
use Rattle.rules.specs.declared.Listed.{Listed}
use Rattle.rules.specs.Base.{all, keep}
use Rattle.rules.specs.Bytes.{u8_at, u32_at}
use Rattle.sets.specs.Set.{broken, row, held_in, is_set, has_place}

-- the records that a memory holds; none if one is torn or of a kind or length not the set's
unfoldable pub row_in : (memory : List ℕ) → List (List ℕ)
row_in memory = elim (held_in memory) [ broken ↦ [] | row rs ↦ rs ]

-- the legging order that a record tells
unfoldable pub legging_of : List ℕ → Legging
legging_of r = record { parent = u32_at r 4; price = u32_at r 10; quantity = u32_at r 14 }

-- what the two records of a series tell
unfoldable pub listed_of : (status away : List ℕ) → Listed
listed_of status away = record { status = u8_at status 5; bid = u32_at away 5; offer = u32_at away 9 }

-- what each row of one kind tells
abbrev pub told_by : {A : Type 0} → (List ℕ → Bool) → (List ℕ → A) → List (List ℕ) → List A
told_by tells told rs = map told (keep tells rs)

-- a table whose first places were taken
abbrev pub begun : {A : Type 0} → (first table : List A) → List A
begun xs l = xs ++ drop (length xs) l

-- a memory that neither 16 nor a record without a place refuses
pub record ReadableSet (memory : List ℕ) : Type 0 where
  pub framed : held_in memory ≡ row (row_in memory)
  pub ordered : is_set (row_in memory) ≡ true
  pub placed : all has_place (row_in memory) ≡ true
