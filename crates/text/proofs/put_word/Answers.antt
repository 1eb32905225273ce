use Rattle.text.specs.Lines.{word}
use Rattle.text.proofs.TypingLaws.{typed, ◌then◌}
use Rattle.text.proofs.put_word.Goals as goal

pub returns : goal.returns
unfolding word
returns c = (typed _ _ _ c.put_byte-pos.ensures then typed _ _ _ c.put_number.ensures).is
