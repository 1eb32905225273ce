-- How long the text of records is.
use Rattle.std.specs.Prelude.{List, ◌*◌, ◌≤◌, length}
use Rattle.rules.specs.Records.{ForAll, Fits, Report, encode_all}
use Rattle.text.specs.Lines.{text_of}

-- The lines of records whose fields fit their widths are at most two and a half times as long as the records' bytes.
abbrev pub TextAtMost : Type 0
TextAtMost = (rs : List Report) → ForAll Fits rs → 2 * length (text_of rs) ≤ 5 * length (encode_all rs)
