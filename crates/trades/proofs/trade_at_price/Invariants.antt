use Rattle.trades.proofs.Trades.{Taking}
use Rattle.trades.proofs.trade_at_price.Given as goal

abbrev pub invariant-loop-left : goal.invariant-loop-left
invariant-loop-left l = Taking l.taker l.series l.side l.price l.quantity l.initial.numbers l.initial.out l.at l.numbers l.out l.pos l.left

abbrev pub decreases-loop-left : goal.decreases-loop-left
decreases-loop-left l = l.left
