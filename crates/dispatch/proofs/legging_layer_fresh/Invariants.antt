use Rattle.venue_bytes.proofs.Rows.{Written}
use Rattle.dispatch.proofs.FreshLayer.{fresh_row, four}
use Rattle.dispatch.proofs.legging_layer_fresh.Given as goal

abbrev pub invariant-loop-i : goal.invariant-loop-i
invariant-loop-i l = Written fresh_row 0 four l.initial.layer l.layer l.i
