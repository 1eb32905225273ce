-- `set_parts::put_first` meets its contract.
use mathlib.Core.Path.{refl}
use Rattle.rules.specs.Bytes.{framed, bytes}
use Rattle.records.specs.Seen.{word_bytes}
use Rattle.sets.specs.Set.{first_record}
use Rattle.set_parts.proofs.SetMemoryLaws.{wrote}
use Rattle.set_parts.proofs.put_first.Goals as goal

pub returns : goal.returns
unfolding first_record framed bytes word_bytes
returns c = wrote _ _ _ _ _ _ c.put_words.ensures refl
