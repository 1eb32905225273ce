use mathlib.Core.Path.{refl, ◌∙◌}
use native.Mathlib.Omega.{arith}
use Rattle.text.proofs.TypingLaws.{words_more, words-end}
use Rattle.text.proofs.put_words.Goals as goal

pub loop-x-init : goal.loop-x-init
loop-x-init c = (refl, refl)

pub loop-x-preserved : goal.loop-x-preserved
loop-x-preserved c = (
  c.put_word-pos.auto.out ∙ c.loop-x.invariant.0,
  words_more _ _ _ c.args.fields.now
      c.loop-x.x-index (omega arith) c.loop-x.invariant.1
      c.put_word-pos.ensures,
)

pub shape_of-out : goal.shape_of-out
shape_of-out c = c.loop-x.invariant.0

pub returns : goal.returns
returns c = words-end _ _ c.args.fields.now c.loop-x.x-index (omega arith) c.loop-x.invariant.1
