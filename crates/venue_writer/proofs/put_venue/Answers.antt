-- `venue_writer::put_venue` meets its contract.
use native.Mathlib.Omega.{arith}
use Rattle.venue_bytes.specs.Held.{Sized}
use Rattle.venue_writer.proofs.Whole.{plus_is, regular-part, complex-room, legging-room, series-room, editions-room, reserves-room, ratios-room, generations-room, complex-put, legging-put, series-put, last-put, editions-put, reserves-put, ratios-put, generations-put, reached-put, venue-put}
use Rattle.venue_writer.proofs.put_venue.Goals as goal

pub put_rows-at-requires : goal.put_rows-at-requires
put_rows-at-requires c =
    let v = c.args.v in
    let l = c.args.out.now in
    let sized : Sized v = record {
      regular = c.well_formed.1.0.1.1.0.1.0.1;
      complex = c.well_formed.1.0.1.1.1.0.1.0.1;
      legging = c.well_formed.1.0.1.1.1.1.0.1.0.1;
      series = c.well_formed.1.0.1.1.1.1.1.0.1.0.1;
      editions = c.well_formed.1.0.1.1.1.1.1.1.0.1.0.1;
      generations = c.well_formed.1.0.1.1.1.1.1.1.1.0.1.0.1;
    } in
    omega (arith, c.requires, regular-part v sized)

pub put_rows-at-requires-2 : goal.put_rows-at-requires-2
put_rows-at-requires-2 c =
    let v = c.args.v in
    let l = c.args.out.now in
    let sized : Sized v = record {
      regular = c.well_formed.1.0.1.1.0.1.0.1;
      complex = c.well_formed.1.0.1.1.1.0.1.0.1;
      legging = c.well_formed.1.0.1.1.1.1.0.1.0.1;
      series = c.well_formed.1.0.1.1.1.1.1.0.1.0.1;
      editions = c.well_formed.1.0.1.1.1.1.1.1.0.1.0.1;
      generations = c.well_formed.1.0.1.1.1.1.1.1.1.0.1.0.1;
    } in
    complex-room v sized l c.requires _ _ c.put_rows-at.ensures

pub put_rows-at-requires-3 : goal.put_rows-at-requires-3
put_rows-at-requires-3 c =
    let v = c.args.v in
    let l = c.args.out.now in
    let sized : Sized v = record {
      regular = c.well_formed.1.0.1.1.0.1.0.1;
      complex = c.well_formed.1.0.1.1.1.0.1.0.1;
      legging = c.well_formed.1.0.1.1.1.1.0.1.0.1;
      series = c.well_formed.1.0.1.1.1.1.1.0.1.0.1;
      editions = c.well_formed.1.0.1.1.1.1.1.1.0.1.0.1;
      generations = c.well_formed.1.0.1.1.1.1.1.1.1.0.1.0.1;
    } in
    let p1 = complex-put v sized l c.requires _ _ c.put_rows-at.ensures _ _ c.put_rows-at-2.ensures in
    legging-room v sized l c.requires _ _ p1

pub put_rows-at-requires-4 : goal.put_rows-at-requires-4
put_rows-at-requires-4 c =
    let v = c.args.v in
    let l = c.args.out.now in
    let sized : Sized v = record {
      regular = c.well_formed.1.0.1.1.0.1.0.1;
      complex = c.well_formed.1.0.1.1.1.0.1.0.1;
      legging = c.well_formed.1.0.1.1.1.1.0.1.0.1;
      series = c.well_formed.1.0.1.1.1.1.1.0.1.0.1;
      editions = c.well_formed.1.0.1.1.1.1.1.1.0.1.0.1;
      generations = c.well_formed.1.0.1.1.1.1.1.1.1.0.1.0.1;
    } in
    let p1 = complex-put v sized l c.requires _ _ c.put_rows-at.ensures _ _ c.put_rows-at-2.ensures in
    let p2 = legging-put v sized l c.requires _ _ p1 _ _ c.put_rows-at-3.ensures in
    series-room v sized l c.requires _ _ p2

pub put_rows-at-requires-5 : goal.put_rows-at-requires-5
put_rows-at-requires-5 c =
    let v = c.args.v in
    let l = c.args.out.now in
    let sized : Sized v = record {
      regular = c.well_formed.1.0.1.1.0.1.0.1;
      complex = c.well_formed.1.0.1.1.1.0.1.0.1;
      legging = c.well_formed.1.0.1.1.1.1.0.1.0.1;
      series = c.well_formed.1.0.1.1.1.1.1.0.1.0.1;
      editions = c.well_formed.1.0.1.1.1.1.1.1.0.1.0.1;
      generations = c.well_formed.1.0.1.1.1.1.1.1.1.0.1.0.1;
    } in
    let p1 = complex-put v sized l c.requires _ _ c.put_rows-at.ensures _ _ c.put_rows-at-2.ensures in
    let p2 = legging-put v sized l c.requires _ _ p1 _ _ c.put_rows-at-3.ensures in
    let p3 = series-put v sized l c.requires _ _ p2 _ _ c.put_rows-at-4.ensures in
    let p4 = last-put v sized l c.requires _ _ p3 _ _ (plus_is _ _ _ _ c.put-at.ensures c.bytes4.ensures) in
    editions-room v sized l c.requires _ _ p4

pub put_rows-at-requires-6 : goal.put_rows-at-requires-6
put_rows-at-requires-6 c =
    let v = c.args.v in
    let l = c.args.out.now in
    let sized : Sized v = record {
      regular = c.well_formed.1.0.1.1.0.1.0.1;
      complex = c.well_formed.1.0.1.1.1.0.1.0.1;
      legging = c.well_formed.1.0.1.1.1.1.0.1.0.1;
      series = c.well_formed.1.0.1.1.1.1.1.0.1.0.1;
      editions = c.well_formed.1.0.1.1.1.1.1.1.0.1.0.1;
      generations = c.well_formed.1.0.1.1.1.1.1.1.1.0.1.0.1;
    } in
    let p1 = complex-put v sized l c.requires _ _ c.put_rows-at.ensures _ _ c.put_rows-at-2.ensures in
    let p2 = legging-put v sized l c.requires _ _ p1 _ _ c.put_rows-at-3.ensures in
    let p3 = series-put v sized l c.requires _ _ p2 _ _ c.put_rows-at-4.ensures in
    let p4 = last-put v sized l c.requires _ _ p3 _ _ (plus_is _ _ _ _ c.put-at.ensures c.bytes4.ensures) in
    let p5 = editions-put v sized l c.requires _ _ p4 _ _ c.put_rows-at-5.ensures in
    reserves-room v sized l c.requires _ _ p5

pub put_rows-at-requires-7 : goal.put_rows-at-requires-7
put_rows-at-requires-7 c =
    let v = c.args.v in
    let l = c.args.out.now in
    let sized : Sized v = record {
      regular = c.well_formed.1.0.1.1.0.1.0.1;
      complex = c.well_formed.1.0.1.1.1.0.1.0.1;
      legging = c.well_formed.1.0.1.1.1.1.0.1.0.1;
      series = c.well_formed.1.0.1.1.1.1.1.0.1.0.1;
      editions = c.well_formed.1.0.1.1.1.1.1.1.0.1.0.1;
      generations = c.well_formed.1.0.1.1.1.1.1.1.1.0.1.0.1;
    } in
    let p1 = complex-put v sized l c.requires _ _ c.put_rows-at.ensures _ _ c.put_rows-at-2.ensures in
    let p2 = legging-put v sized l c.requires _ _ p1 _ _ c.put_rows-at-3.ensures in
    let p3 = series-put v sized l c.requires _ _ p2 _ _ c.put_rows-at-4.ensures in
    let p4 = last-put v sized l c.requires _ _ p3 _ _ (plus_is _ _ _ _ c.put-at.ensures c.bytes4.ensures) in
    let p5 = editions-put v sized l c.requires _ _ p4 _ _ c.put_rows-at-5.ensures in
    let p6 = reserves-put v sized l c.requires _ _ p5 _ _ c.put_rows-at-6.ensures in
    ratios-room v sized l c.requires _ _ p6

pub put_rows-at-requires-8 : goal.put_rows-at-requires-8
put_rows-at-requires-8 c =
    let v = c.args.v in
    let l = c.args.out.now in
    let sized : Sized v = record {
      regular = c.well_formed.1.0.1.1.0.1.0.1;
      complex = c.well_formed.1.0.1.1.1.0.1.0.1;
      legging = c.well_formed.1.0.1.1.1.1.0.1.0.1;
      series = c.well_formed.1.0.1.1.1.1.1.0.1.0.1;
      editions = c.well_formed.1.0.1.1.1.1.1.1.0.1.0.1;
      generations = c.well_formed.1.0.1.1.1.1.1.1.1.0.1.0.1;
    } in
    let p1 = complex-put v sized l c.requires _ _ c.put_rows-at.ensures _ _ c.put_rows-at-2.ensures in
    let p2 = legging-put v sized l c.requires _ _ p1 _ _ c.put_rows-at-3.ensures in
    let p3 = series-put v sized l c.requires _ _ p2 _ _ c.put_rows-at-4.ensures in
    let p4 = last-put v sized l c.requires _ _ p3 _ _ (plus_is _ _ _ _ c.put-at.ensures c.bytes4.ensures) in
    let p5 = editions-put v sized l c.requires _ _ p4 _ _ c.put_rows-at-5.ensures in
    let p6 = reserves-put v sized l c.requires _ _ p5 _ _ c.put_rows-at-6.ensures in
    let p7 = ratios-put v sized l c.requires _ _ p6 _ _ c.put_rows-at-7.ensures in
    generations-room v sized l c.requires _ _ p7

pub returns : goal.returns
returns c =
    let v = c.args.v in
    let l = c.args.out.now in
    let sized : Sized v = record {
      regular = c.well_formed.1.0.1.1.0.1.0.1;
      complex = c.well_formed.1.0.1.1.1.0.1.0.1;
      legging = c.well_formed.1.0.1.1.1.1.0.1.0.1;
      series = c.well_formed.1.0.1.1.1.1.1.0.1.0.1;
      editions = c.well_formed.1.0.1.1.1.1.1.1.0.1.0.1;
      generations = c.well_formed.1.0.1.1.1.1.1.1.1.0.1.0.1;
    } in
    let p1 = complex-put v sized l c.requires _ _ c.put_rows-at.ensures _ _ c.put_rows-at-2.ensures in
    let p2 = legging-put v sized l c.requires _ _ p1 _ _ c.put_rows-at-3.ensures in
    let p3 = series-put v sized l c.requires _ _ p2 _ _ c.put_rows-at-4.ensures in
    let p4 = last-put v sized l c.requires _ _ p3 _ _ (plus_is _ _ _ _ c.put-at.ensures c.bytes4.ensures) in
    let p5 = editions-put v sized l c.requires _ _ p4 _ _ c.put_rows-at-5.ensures in
    let p6 = reserves-put v sized l c.requires _ _ p5 _ _ c.put_rows-at-6.ensures in
    let p7 = ratios-put v sized l c.requires _ _ p6 _ _ c.put_rows-at-7.ensures in
    let p8 = generations-put v sized l c.requires _ _ p7 _ _ c.put_rows-at-8.ensures in
    let p9 = reached-put v sized l c.requires _ _ p8 _ _ (plus_is _ _ _ _ c.put.ensures c.bytes4-2.ensures) in
    venue-put v sized l c.requires _ _ p9
