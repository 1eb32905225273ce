-- `sound_places::listed_in_range` meets its contract.
use native.Mathlib.Omega.{arith}
use Rattle.rules.specs.Words.{is_status, is_away}
use Rattle.rules.specs.Sound.{listed_in_range}
use Rattle.rules.proofs.Tests.{and-false}
use Rattle.rules.proofs.Ranges.{above, inside, within-top}
use Rattle.sound_places.proofs.listed_in_range.Goals as goal

pub returns-then-x-gt2 : goal.returns-then-x-gt2
unfolding listed_in_range is_status
returns-then-x-gt2 c = let x = c.args.x in rw (above 0 2 x.status c.if-x-gt2.true)

pub returns-then-x-gt100000 : goal.returns-then-x-gt100000
unfolding listed_in_range is_away
returns-then-x-gt100000 c = let x = c.args.x in simp (above 0 100000 x.bid c.if-x-gt100000.true, and-false)

pub returns : goal.returns
unfolding listed_in_range is_status is_away
returns c = let x = c.args.x in
    rw (inside 0 2 x.status (omega arith) c.if-x-gt2.false, inside 0 100000 x.bid (omega arith) c.if-x-gt100000.false)
    (within-top 0 100000 x.offer (omega arith))
