use mathlib.Core.Path.{◌≡◌}
use lib.ListN.{length, drop}
use Rattle.records.specs.Seen.{seen}
use Rattle.text.specs.Lines.{words}
use Rattle.text.specs.Typing.{◌types◌}
use Rattle.text.proofs.put_words.Given as goal

abbrev pub invariant-loop-x : goal.invariant-loop-x
invariant-loop-x l = (length l.out ≡ length l.initial.out) × (seen l.out l.pos types words (drop l.x-index l.fields) ≡ seen l.initial.out l.at types words l.fields)
