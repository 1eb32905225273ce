-- `places::read_table` meets its contract.
use mathlib.Core.Path.{◌≡◌, ap, ◌∙◌}
use Prim.Native.Nat.{ℕ, ◌-◌}
use native.Mathlib.Omega.{arith}
use lib.ListN.{length, replicate}
use Rattle.places.specs.Layout.{upto, in_use}
use Rattle.places.proofs.Tables.{used-length, used-next, used-done}
use Rattle.places.proofs.read_table.Goals as goal

pub loop-i-init : goal.loop-i-init
unfolding in_use upto
loop-i-init g c = let e : g.T.Row.many ≡ g.T.Row.many - 0 = omega arith in c.requires.free ∙ ap (λ (k : ℕ). replicate k g.T.Row.free) e

pub read-requires : goal.read-requires
read-requires g c = omega (arith, c.requires.some)

pub bounds-table-i : goal.bounds-table-i
bounds-table-i g c =
    omega
    (arith, c.requires.some, ap length c.loop-i.invariant ∙ used-length _ _ c.loop-i.i g.T.Row.many (omega (arith, c.requires.some)))

pub loop-i-preserved : goal.loop-i-preserved
loop-i-preserved g c = used-next _ _ _ g.T.Row.many _ _ (omega (arith, c.requires.some)) c.loop-i.invariant c.read.ensures

pub returns : goal.returns
returns g c = used-done _ _ _ _ g.T.Row.many _ (omega (arith, c.requires.some)) c.loop-i.invariant
