-- `feed_run::feed` meets its contract.
use mathlib.Core.Path.{sym, ◌∙◌}
use Rattle.feed_run.proofs.FeedsLaws.{main-faulty, spare-faulty}
use Rattle.feed_run.proofs.feed.Goals as goal

pub returns-then-not-is_faultless : goal.returns-then-not-is_faultless
returns-then-not-is_faultless c = c.end_call.ensures
    ∙ main-faulty _ c.args.main.now c.args.spare.now _ c.fresh.ensures
    (sym c.is_faultless.ensures ∙ c.if-not-is_faultless.true)

pub returns-then-not-is_faultless-2 : goal.returns-then-not-is_faultless-2
returns-then-not-is_faultless-2 c = c.end_call-then-not-is_faultless-2.ensures ∙ spare-faulty _ c.args.main.now c.args.spare.now _
    c.fresh-then-not-is_faultless-2.ensures
    (sym c.is_faultless-2.ensures ∙ c.if-not-is_faultless-2.true)

pub feed_lines-requires : goal.feed_lines-requires
feed_lines-requires c = record {
  main = sym c.is_faultless.ensures ∙ c.if-not-is_faultless.false;
  spare = sym c.is_faultless-2.ensures ∙ c.if-not-is_faultless-2.false;
}
