-- `venue_writer::put_rows` meets its contract.
use mathlib.Core.Path.{ap}
use native.Mathlib.Omega.{arith}
use lib.ListN.{take}
use lib.Seq.{take_all}
use Rattle.venue_bytes.specs.Held.{rows}
use Rattle.venue_writer.proofs.Whole.{plus-none, plus_is, plus-plus, room-after, taken-next, rows-next, rows-room}
use Rattle.venue_writer.proofs.put_rows.Goals as goal

pub loop-row-init : goal.loop-row-init
unfolding rows
loop-row-init g c = plus-none c.args.out.now c.args.at (omega (arith, c.requires))

pub put-end-requires : goal.put-end-requires
put-end-requires g c =
    let row = g.T.Table.row_bytes in
    let x = c.row-item.result in
    let is = taken-next c.args.table.now x x c.loop-row.row-index c.loop-row-test.true c.row-item.is in
    room-after c.args.out.now (rows row (take c.loop-row.row-index c.args.table.now)) _ c.args.at _ c.loop-row.invariant (row x)
    (omega (arith, c.requires, rows-room row c.args.table.now x c.loop-row.row-index is))

pub loop-row-preserved : goal.loop-row-preserved
loop-row-preserved g c =
    let row = g.T.Table.row_bytes in
    let x = c.row-item.result in
    let is = taken-next c.args.table.now x x c.loop-row.row-index c.loop-row-test.true c.row-item.is in
    plus_is _ _ _ _
    (plus-plus c.args.out.now (rows row (take c.loop-row.row-index c.args.table.now)) _ c.args.at _ c.loop-row.invariant (row x)
    (omega (arith, c.requires, rows-room row c.args.table.now x c.loop-row.row-index is)) _ _ c.put-end.ensures)
    (rows-next row c.args.table.now x c.loop-row.row-index is)

pub returns : goal.returns
returns g c =
    plus_is _ _ _ _ c.loop-row.invariant
    (ap (rows g.T.Table.row_bytes) (take_all c.loop-row.row-index c.args.table.now c.loop-row-test.false))
