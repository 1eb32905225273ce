use mathlib.Core.Path.{◌≡◌}
use lib.ListN.{take}
use Rattle.rules.specs.Bytes.{u32}
use Rattle.records.specs.Seen.{seen, ◌plus◌}
use Rattle.venue_bytes.specs.Held.{rows, messages_of}
use Rattle.venue_writer.proofs.AllGenerationsTable.put.Given as goal

abbrev pub invariant-loop-number : goal.invariant-loop-number
invariant-loop-number l = seen l.out l.end ≡ seen l.initial.out l.at plus rows u32 (take l.number-index (messages_of l.fn.g))
