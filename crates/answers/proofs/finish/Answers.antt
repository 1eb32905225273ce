-- `answers::finish` meets its contract.
use mathlib.Core.Path.{refl}
use Rattle.answers.proofs.Answering.{answer-set}
use Rattle.answers.proofs.finish.Goals as goal

pub returns : goal.returns
returns c =
    let w = c.close_gaps.ensures in
    record {
      refused = refl;
      written = refl;
      venue = w.venue;
      set = answer-set _ _ _ _ _ _ c.mask_of-mask.ensures
          c.count_of-count.ensures c.set_answer.ensures;
      dense = w.dense;
    }
