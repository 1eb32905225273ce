-- `dispatch::legging_turn` meets its contract.
use mathlib.Core.Path.{ap, ap₂, ◌∙◌}
use Prim.Native.Nat.{ℕ, ◌+◌, ◌*◌}
use Rattle.dispatch.specs.Hosts.{host_turn, told_of}
use Rattle.dispatch.proofs.legging_turn.Goals as goal

pub returns : goal.returns
unfolding host_turn
returns c = ap₂ (λ (x y : ℕ). told_of (x + 256 * y) c.turn-r.new.layer c.turn-r.new.report) c.from.ensures c.from-2.ensures
    ∙ ap host_turn c.turn-r.ensures
