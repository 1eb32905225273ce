-- `engine::run` meets its contract.
use borrow.Author.Rules.{rules}
use native.Mathlib.Omega.{arith}
use Rattle.engine.proofs.RunsLaws.{RunEnded, running-start, running-again, running-end, running-stop, ran}
use Rattle.engine.proofs.run.Goals as goal
use Rattle.engine.proofs.run.Goals.{else-loop-t-test, then-loop-t-test+then-t-ne0}

pub fresh_numbers-numbers-requires : goal.fresh_numbers-numbers-requires
fresh_numbers-numbers-requires c = tt

pub loop-t-init : goal.loop-t-init
loop-t-init c = running-start _ _ _ (search rules) (search rules)

pub message_head-head-requires : goal.message_head-head-requires
message_head-head-requires c = tt

pub advance-t-requires : goal.advance-t-requires
advance-t-requires c =
    let g = c.loop-t.invariant in let w = g.sofar.within in let e = g.sofar.len in
    record { dense = g.dense; sound = g.sound; ahead = c.loop-t-test.true; within = omega arith; headed = c.message_head-head.ensures }

pub loop-t-smaller : goal.loop-t-smaller
loop-t-smaller c = let v = c.advance-t.ensures.moved c.if-t-ne0.false in let p = v.0 in let q = v.1 in omega arith

pub loop-t-preserved : goal.loop-t-preserved
loop-t-preserved c =
    running-again _ _ _ _ _ c.loop-t.invariant c.advance-t.result c.advance-t.new.numbers c.advance-t.new.report
    c.loop-t-test.true
    (omega arith) c.advance-t.auto.report c.advance-t.ensures c.if-t-ne0.false

pub zero_from-requires : goal.zero_from-requires
zero_from-requires c = tt

pub returns : goal.returns
returns c =
    let ended : RunEnded c.args.messages.now c.args.report.now c.loop-t-test.numbers c.loop-t-test.report c.loop-t-test.t =
    elim c.loop-t-test.branch [
      | else-loop-t-test w ↦ rw (w.report-is, w.numbers-is, w.t-is)
          (running-end _ _ _ _ _ c.loop-t.invariant w.loop-t-test.false)
      | then-loop-t-test+then-t-ne0 w ↦ rw (w.report-is, w.numbers-is, w.t-is)
          (running-stop _ _ _ _ _ c.loop-t.invariant w.advance-t.result w.advance-t.new.numbers w.advance-t.new.report
          w.loop-t-test.true
          (omega arith) w.advance-t.auto.report w.advance-t.ensures w.if-t-ne0.true)
    ] in
    ran c.args.messages.now c.args.report.now c.loop-t-test.numbers c.loop-t-test.report
    c.zero_from.new.out c.loop-t-test.t c.venue_of-venue.result ended
    c.zero_from.ensures c.venue_of-venue.ensures
