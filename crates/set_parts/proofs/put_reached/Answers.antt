-- `set_parts::put_reached` meets its contract.
use mathlib.Core.Path.{refl}
use borrow.Author.Tests.{ne_eqb}
use Rattle.rules.specs.Bytes.{framed, bytes}
use Rattle.records.specs.Seen.{word_bytes}
use Rattle.sets.specs.Set.{reached_records}
use Rattle.set_parts.proofs.SetMemoryLaws.{absent, present, wrote}
use Rattle.set_parts.proofs.PartsLaws.{one-joined}
use Rattle.set_parts.proofs.put_reached.Goals as goal

pub returns-then-id-eq0 : goal.returns-then-id-eq0
unfolding reached_records
returns-then-id-eq0 c = rw one-joined (absent _ _ _ _ (rw c.if-id-eq0.true))

pub returns : goal.returns
unfolding reached_records framed bytes word_bytes
returns c = rw one-joined (present _ _ _ _ (rw (ne_eqb c.args.id 0 c.if-id-eq0.false))
    (wrote _ _ _ _ _ _ c.put_words.ensures refl))
