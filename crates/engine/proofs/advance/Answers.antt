-- `engine::advance` meets its contract.
use mathlib.Core.Path.{◌∙◌}
use native.Mathlib.Omega.{arith}
use Rattle.engine.proofs.RunsLaws.{turn-no-number, turn-no-room, turn-done}
use Rattle.engine.proofs.advance.Goals as goal

pub returns-then-t-eq4294967295 : goal.returns-then-t-eq4294967295
returns-then-t-eq4294967295 c = turn-no-number c.args.t c.args.messages.now c.args.numbers.now c.args.report.now
    c.requires.ahead c.requires.within c.requires.dense c.requires.sound c.if-t-eq4294967295.true

pub try_step-r-requires : goal.try_step-r-requires
try_step-r-requires c = record { dense = c.requires.dense; sound = c.requires.sound.venue }

pub returns-then-report-t : goal.returns-then-report-t
returns-then-report-t c = turn-no-room c.args.t c.args.messages.now c.args.numbers.now c.try_step-r.new.numbers
    c.args.report.now c.try_step-r.new.out c.try_step-r.result c.requires.ahead c.requires.within c.requires.sound (omega arith) c.try_step-r.ensures (omega arith)

pub returns : goal.returns
returns c = turn-done c.args.t c.args.messages.now c.args.numbers.now
    c.try_step-r.new.numbers c.args.report.now c.try_step-r.new.out c.try_step-r.result c.requires.ahead c.requires.within c.requires.sound (omega arith) c.try_step-r.ensures (omega arith)
    c.args.head c.requires.headed c.head_number.result c.from.result c.head_number.ensures (c.from.ensures ∙ c.head_length.ensures)
