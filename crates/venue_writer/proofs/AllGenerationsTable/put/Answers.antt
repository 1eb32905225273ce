-- `venue_writer::AllGenerationsTable::put` meets its contract.
use mathlib.Core.Path.{sym, ap}
use native.Mathlib.Omega.{arith}
use lib.ListN.{get_or, take}
use lib.Seq.{take_all}
use Rattle.rules.specs.Bytes.{u32}
use Rattle.venue_bytes.specs.Held.{rows, messages_of, generations_bytes}
use Rattle.venue_bytes.proofs.Widths.{messages-many, message-at}
use Rattle.venue_writer.proofs.Whole.{plus-none, plus_is, plus-plus, taken-next, rows-next, rows-room}
use Rattle.venue_writer.proofs.AllGenerationsTable.put.Goals as goal

pub loop-number-init : goal.loop-number-init
unfolding rows
loop-number-init c = plus-none c.args.out.now c.args.at (omega (arith, c.requires))

pub loop-number-preserved : goal.loop-number-preserved
unfolding generations_bytes
loop-number-preserved c =
    let g = c.args.g in
    let i = c.loop-number.number-index in
    let x = get_or g.messages i 0 in
    let is = taken-next (messages_of g) x 0 i (omega (arith, messages-many g, c.loop-number-test.true)) (sym (message-at g i c.loop-number-test.true)) in
    plus_is _ _ _ _
    (plus-plus c.args.out.now (rows u32 (take i (messages_of g))) _ c.args.at _ c.loop-number.invariant (u32 x)
    (omega (arith, c.requires, rows-room u32 (messages_of g) x i is)) _ _ (plus_is _ _ _ _ c.put-end.ensures c.bytes4.ensures))
    (rows-next u32 (messages_of g) x i is)

pub returns : goal.returns
unfolding generations_bytes
returns c =
    let g = c.args.g in
    plus_is _ _ _ _ c.loop-number.invariant
    (ap (rows u32) (take_all c.loop-number.number-index (messages_of g) (omega (arith, messages-many g, c.loop-number-test.false))))
