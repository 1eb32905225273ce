-- What a reader gave and a writer took, where their bytes are known.
use Rattle.std.specs.Prelude.{ℕ, ◌<◌, List, ◌++◌, codes, length, take, None, Some}
use Rattle.std.specs.declared.option.Option.{Option}
use Rattle.std.specs.Io.KnownBytes.{Appends, Consumes, IsAtEnd}
use Rattle.sheet.specs.Sheet.{most_input, sheet_text}

-- the n bytes read were the reader's first ones, and it had no more where the memory was not filled
abbrev pub ReadFrom : (old new : Option (List ℕ)) (memory : List ℕ) → (n : ℕ) → Type 0
ReadFrom old new memory n = Consumes old new (take n memory) × (n < length memory → IsAtEnd new)

-- the line that names a file
abbrev pub name_line : (name : List ℕ) → List ℕ
name_line name = codes "# " ++ name ++ codes "\n"

-- a heading was written, and the sheet of the reader's first bytes
abbrev pub PrintsInput : (heading : List ℕ) → (unread old new : Option (List ℕ)) → Type 0
PrintsInput heading None old new = Unit {0}
PrintsInput heading (Some bytes) old new = Appends old new (heading ++ sheet_text (take most_input bytes))
