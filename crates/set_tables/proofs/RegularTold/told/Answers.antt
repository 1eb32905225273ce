-- `told` of a regular order meets its contract.
use mathlib.Core.Path.{ap, ◌∙◌}
use Prim.Native.Nat.{ℕ}
use Rattle.rules.specs.Messages.{order_at}
use Rattle.set_check.proofs.Fronts.{regular-long}
use Rattle.sets.specs.Set.{regular_told}
use Rattle.set_tables.proofs.RegularTold.told.Goals as goal

pub order_at-requires : goal.order_at-requires
order_at-requires c = regular-long _ c.requires.whole c.requires.tells

pub returns : goal.returns
unfolding regular_told order_at
returns c = c.order_at.ensures ∙ ap (λ (x : ℕ). order_at x c.args.r.now) c.display_told.ensures
