-- `venue_bytes::read_table` meets its contract.
use mathlib.Core.Path.{◌≡◌, refl, sym, ap, ◌∙◌}
use native.Mathlib.Omega.{arith}
use lib.Seq.{take_all}
use Rattle.places.specs.Layout.{upto}
use Rattle.venue_bytes.proofs.Rows.{filled_next}
use Rattle.venue_bytes.proofs.read_table.Goals as goal

pub loop-i-init : goal.loop-i-init
unfolding upto
loop-i-init g c = refl

pub loop-i-preserved : goal.loop-i-preserved
loop-i-preserved g c = filled_next _ _ _ _ (omega arith) c.loop-i.invariant c.read.ensures

pub returns : goal.returns
returns g c =
    let many : c.loop-i.i ≡ g.T.Row.many = omega (arith, c.requires.all) in
    sym (take_all c.loop-i.i c.loop-i.table (omega arith)) ∙ c.loop-i.invariant ∙ ap (upto (g.T.Row.row_of c.args.bytes.now) 0) many
