use mathlib.Core.Path.{ap}
use native.Mathlib.Omega.{arith}
use Rattle.short_sessions.specs.Values.{places_of}
use Rattle.short_sessions.proofs.Following.{by_last, first_one, none_left}
use Rattle.short_sessions.proofs.next.Goals as goal

pub returns-in_err-last : goal.returns-in_err-last
returns-in_err-last c = rw c.from_residual.ensures (none_left _ _ c.in_err-last.ensures)

pub returns-in-Empty : goal.returns-in-Empty
returns-in-Empty c = first_one _ _ (omega (arith, c.in_ok-last.ensures)) (ap places_of c.in-Empty.is)

pub returns-in-One : goal.returns-in-One
returns-in-One c = by_last _ _ _ _ _ c.in_ok-last.ensures (ap places_of c.in-One.is) c.after_one.ensures

pub returns-in-Two : goal.returns-in-Two
returns-in-Two c = by_last _ _ _ _ _ c.in_ok-last.ensures (ap places_of c.in-Two.is) c.after_two.ensures

pub returns-in-Three : goal.returns-in-Three
returns-in-Three c = by_last _ _ _ _ _ c.in_ok-last.ensures (ap places_of c.in-Three.is) c.after_three.ensures
