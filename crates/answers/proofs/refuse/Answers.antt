-- `answers::refuse` meets its contract.
use Rattle.rules.specs.Step.{answered}
use mathlib.Core.Path.{refl}
use Rattle.places.specs.Layout.{venue_of}
use Rattle.answers.proofs.Answering.{refuse-law}
use Rattle.answers.proofs.refuse.Goals as goal

pub mask_of-mask-requires : goal.mask_of-mask-requires
mask_of-mask-requires c = c.requires.right

pub returns : goal.returns
unfolding answered
returns c = record {
  refused = refl;
  staged = refuse-law (venue_of c.args.numbers.now) _ _ _ _ _ _ _
      c.mask_of-mask.ensures c.count_of-count.ensures
      c.emit_answer-written.ensures;
  dense = c.requires;
}
