use Rattle.text.specs.Lines.{line_of}
use Rattle.text.proofs.TypingLaws.{typed, ◌then◌}
use Rattle.text.proofs.put_crossed.Goals as goal

pub returns : goal.returns
unfolding line_of
returns c = rw (
  c.u32_at.ensures,
  c.u32_at-2.ensures,
  c.u32_at-3.ensures,
  c.u32_at-4.ensures,
) at
    (typed _ _ _ c.put_number-pos.ensures
    then typed _ _ _ c.put_word-pos.ensures
    then typed _ _ _ c.put_word-pos-2.ensures
    then typed _ _ _ c.put_signed_word-pos.ensures
    then typed _ _ _ c.put_word-pos-3.ensures
    then typed _ _ _ c.put_byte.ensures).is
