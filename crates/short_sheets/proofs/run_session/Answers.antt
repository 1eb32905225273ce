use mathlib.Core.Path.{sym}
use lib.Seq.{length-take-le}
use Rattle.short_sheets.proofs.SessionRuns.{report-is}
use Rattle.short_sheets.proofs.run_session.Goals as goal

pub slice_bounds-run-end : goal.slice_bounds-run-end
slice_bounds-run-end c = sym (length-take-le _ _ c.put_messages-n.ensures.fits)

pub returns : goal.returns
returns c = report-is _ _ _ _ _ c.run.ensures c.put_messages-n.ensures.is
