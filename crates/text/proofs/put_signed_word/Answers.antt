use Rattle.text.specs.Lines.{signed_word}
use Rattle.text.proofs.TypingLaws.{typed, ◌then◌}
use Rattle.text.proofs.put_signed_word.Goals as goal

pub returns : goal.returns
unfolding signed_word
returns c = (typed _ _ _ c.put_byte-pos.ensures then typed _ _ _ c.put_signed.ensures).is
