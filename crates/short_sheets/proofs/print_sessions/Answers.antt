use Rattle.std.proofs.Common.{refl, rules, arith}
use Rattle.short_sheets.proofs.ShortLaws.{in_list}
use Rattle.short_sheets.proofs.Printing.{and_then, at_end, at_first, at_session, fewer}
use Rattle.short_sheets.proofs.print_sessions.Goals as goal

pub loop-next-init : goal.loop-next-init
loop-next-init g c = at_first _ _ _ _ c.empty.ensures refl refl

pub put_session-written-requires : goal.put_session-written-requires
put_session-written-requires g c =
    let x = (at_session _ _ _ _ _ _ _ c.in-Some.is c.loop-next.invariant).0 in
    record { places = in_list _ _ x.so_far; report = x.report-length; text = omega (arith, x.text-length) }

pub loop-next-smaller : goal.loop-next-smaller
loop-next-smaller g c = fewer _ _ _ _ _ _ _ c.in-Some.is c.loop-next.invariant _ _ c.advance-next.ensures

pub loop-next-preserved : goal.loop-next-preserved
loop-next-preserved g c = and_then _ _ _ _ _ _ _ c.in-Some.is c.loop-next.invariant _ _ _ _ _ _ c.advance-next.ensures c.put_session-written.ensures
    (search rules) (search rules) (search rules) c.in_ok-write_all.ensures.bytes

pub returns : goal.returns
returns g c = at_end _ _ _ _ _ _ c.in_default.is c.loop-next.invariant
