-- `feed_run::feed_lines` meets its contract.
use mathlib.Core.Path.{sym, ap, ◌∙◌}
use native.Mathlib.Omega.{arith}
use lib.ListN.{length}
use Rattle.feed.proofs.Ahead.{ahead-ready}
use Rattle.feed_run.proofs.FeedsLaws.{FeedEnded, feeding-start, feeding-again, feeding-end, feeding-stop, not-ends, fed}
use borrow.Author.Rules.{rules}
use Rattle.feed_run.proofs.feed_lines.Goals as goal
use Rattle.feed_run.proofs.feed_lines.Goals.{else-loop-t-test, then-loop-t-test+then-t-ne0}

pub loop-t-init : goal.loop-t-init
loop-t-init c = feeding-start _ _ _ _ (search rules) (search rules) c.requires.main c.requires.spare

pub hand_out-t-requires : goal.hand_out-t-requires
hand_out-t-requires c =
    let g = c.loop-t.invariant in
    let ahead = not-ends _ _ _ _ g.main-in g.spare-in (sym c.at_ends.ensures ∙ c.loop-t-test.true) in
    let w = g.sofar.within in let e = g.sofar.len in record {
      dense = g.dense;
      sound = g.sound;
      within = omega arith;
      lines = record { main = ahead-ready _ _ _ g.on-main; spare = ahead-ready _ _ _ g.on-spare; in_main = g.main-in; in_spare = g.spare-in; left = ahead };
    }

pub loop-t-smaller : goal.loop-t-smaller
loop-t-smaller c =
    let g = c.loop-t.invariant in
    let ahead = not-ends _ _ _ _ g.main-in g.spare-in (sym c.at_ends.ensures ∙ c.loop-t-test.true) in
    let v = c.hand_out-t.ensures.moved c.if-t-ne0.false in let p = v.3 in
    let m = ap length g.main-is in let s = ap length g.spare-is in
    omega arith

pub loop-t-preserved : goal.loop-t-preserved
loop-t-preserved c =
    let g = c.loop-t.invariant in
    let ahead = not-ends _ _ _ _ g.main-in g.spare-in (sym c.at_ends.ensures ∙ c.loop-t-test.true) in
    feeding-again _ _ _ _ _ _ c.loop-t.invariant
    ahead c.hand_out-t.result c.hand_out-t.new.numbers c.hand_out-t.new.report (omega arith)
    c.hand_out-t.auto.report c.hand_out-t.ensures c.if-t-ne0.false

pub returns : goal.returns
returns c =
    let ended : FeedEnded c.args.main.now c.args.spare.now c.args.report.now c.loop-t-test.numbers c.loop-t-test.report c.loop-t-test.t =
    elim c.loop-t-test.branch [
      | else-loop-t-test w ↦ rw (w.report-is, w.numbers-is, w.t-is)
          (feeding-end _ _ _ _ _ _ c.loop-t.invariant (sym c.at_ends.ensures ∙ w.loop-t-test.false))
      | then-loop-t-test+then-t-ne0 w ↦ rw (w.report-is, w.numbers-is, w.t-is)
          (feeding-stop _ _ _ _ _ _ c.loop-t.invariant
          (not-ends _ _ _ _ c.loop-t.invariant.main-in c.loop-t.invariant.spare-in (sym c.at_ends.ensures ∙ w.loop-t-test.true))
          w.hand_out-t.result w.hand_out-t.new.numbers w.hand_out-t.new.report
          (omega arith) w.hand_out-t.auto.report w.hand_out-t.ensures w.if-t-ne0.true)
    ] in
    fed c.args.main.now c.args.spare.now c.args.report.now
    c.loop-t-test.numbers c.loop-t-test.report c.zero_from.new.out c.loop-t-test.t c.venue_of-venue.result c.requires.main
    c.requires.spare ended c.zero_from.ensures c.venue_of-venue.ensures
