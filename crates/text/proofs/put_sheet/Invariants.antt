use Prim.Native.Nat.{◌-◌}
use mathlib.Core.Path.{◌≡◌}
use lib.ListN.{length}
use Rattle.rules.specs.Records.{records}
use Rattle.records.specs.Seen.{seen}
use Rattle.text.specs.Lines.{text_of}
use Rattle.text.specs.Typing.{◌types◌}
use Rattle.text.proofs.Sheets.{Left}
use Rattle.text.proofs.put_sheet.Given as goal

abbrev pub invariant-loop-found : goal.invariant-loop-found
invariant-loop-found l = (length l.out ≡ length l.initial.out) × (Left (seen l.initial.out l.at types text_of (records l.report)) l.report (seen l.out l.pos) l.from)

abbrev pub decreases-loop-found : goal.decreases-loop-found
decreases-loop-found l = length l.report - l.from
