-- `feed_run::hand_out` meets its contract.
use mathlib.Core.Path.{refl, sym, ◌∙◌}
use native.Mathlib.Omega.{arith}
use Prim.Native.Nat.{◌+◌, ◌-◌, ◌^◌, ◌≤◌, ◌<◌}
use lib.ListN.{length}
use Rattle.feed_run.proofs.FeedsLaws.{asked, asked-one, stop-some, turn_stopped, turn-full, turn-handed}
use Rattle.feed_run.proofs.hand_out.Goals as goal

pub returns-in-Err : goal.returns-in-Err
returns-in-Err c =
    let told = rw c.in-Err.is at c.up_next.ensures.comes in
    rw c.stop_at.ensures (turn_stopped c.args.t c.args.numbers.now c.args.report.now _
    (c.stop_number.ensures ∙ told) (λ z. stop-some c.in-Err.stop (sym c.stop_number.ensures ∙ z)) c.requires.within c.requires.dense c.requires.sound)

pub next_part-part-requires : goal.next_part-part-requires
next_part-part-requires c = asked _ _ _ _ _ (rw c.in-Ok.is at c.up_next.ensures.comes).0 c.requires.lines (sym (rw c.in-Ok.is at c.up_next.ensures.comes).1) refl

pub try_step-r-requires : goal.try_step-r-requires
try_step-r-requires c = record { dense = c.requires.dense; sound = c.requires.sound.venue }

pub returns-then-report-from : goal.returns-then-report-from
returns-then-report-from c = rw c.stop_at-then-report-from.ensures (turn-full c.args.t c.args.numbers.now c.try_step-r.new.numbers c.args.report.now
    c.try_step-r.new.out _ _ c.try_step-r.result
    (rw c.in-Ok.is at c.up_next.ensures.comes).1 (rw c.in-Ok.is at c.up_next.ensures.comes).0
    (let few = c.up_next.ensures.few in omega arith) c.next_part-part.ensures c.requires.within c.requires.sound c.try_step-r.ensures (omega arith))

pub moved-next-requires : goal.moved-next-requires
moved-next-requires c = asked-one _ _ _ (rw c.in-Ok.is at c.up_next.ensures.comes).0 c.requires.lines.main

pub moved-after-requires : goal.moved-after-requires
moved-after-requires c = asked-one _ _ _
    (rw c.in-Ok.is at c.up_next.ensures.comes).0 c.requires.lines.spare

pub overflow_add-result : goal.overflow_add-result
overflow_add-result c =
    let short : length c.args.report.now < 2 ^ 64 = omega arith in
    let roomy : c.try_step-r.result.written ≤ length
    c.args.report.now -
    c.args.t.written = omega arith in
    let sums : c.args.t.written + c.try_step-r.result.written < 2 ^ 64 = let z = short in let r = roomy in
    let w = c.requires.within in
    omega arith in
    record { fits = sums }

pub returns : goal.returns
returns c =
    let roomy : c.try_step-r.result.written ≤ length
    c.args.report.now -
    c.args.t.written = omega arith in
    turn-handed c.args.t
    c.args.numbers.now c.try_step-r.new.numbers c.args.report.now c.try_step-r.new.out _ _ c.try_step-r.result
    (rw c.in-Ok.is at c.up_next.ensures.comes).1 (rw c.in-Ok.is at c.up_next.ensures.comes).0
    (let few = c.up_next.ensures.few in omega arith) c.next_part-part.ensures c.requires.within c.requires.sound c.try_step-r.ensures roomy _ _
    c.moved-next.ensures c.moved-after.ensures
