use Rattle.text.specs.Lines.{line}
use Rattle.text.proofs.TypingLaws.{typed, ◌then◌}
use Rattle.text.proofs.put_fields.Goals as goal

pub returns : goal.returns
unfolding line
returns c = (typed _ _ _ c.put_number-pos.ensures then typed _ _ _
    c.put_words-pos.ensures then typed _ _ _ c.put_byte.ensures).is
