-- `places::free_edition` meets its contract.
use mathlib.Core.Path.{ap}
use mathlib.Core.Bool.{not}
use mathlib.Core.Logic.{inl, inr}
use native.Mathlib.Omega.{arith}
use borrow.Author.Tests.{eq-eqb, ne_eqb}
use Rattle.rules.specs.Places.{holds_edition}
use Rattle.places.specs.Layout.{edition_in}
use Rattle.places.proofs.Free.{filled_more}
use Rattle.places.proofs.Free.{free-edition-is}
use Rattle.places.proofs.free_edition.Goals as goal

pub loop-i-init : goal.loop-i-init
loop-i-init c = λ k w. absurd (omega arith)

pub returns-then-numbers-i-eq0 : goal.returns-then-numbers-i-eq0
unfolding edition_in
returns-then-numbers-i-eq0 c = free-edition-is c.args.numbers.now _ (omega arith) c.loop-i.invariant (inr (ap not (eq-eqb _ _ c.if-numbers-i-eq0.true)))

pub loop-i-preserved : goal.loop-i-preserved
unfolding edition_in
loop-i-preserved c = filled_more holds_edition (edition_in c.args.numbers.now) c.loop-i.i c.loop-i.invariant (ap not (ne_eqb _ _ c.if-numbers-i-eq0.false))

pub returns : goal.returns
returns c = free-edition-is c.args.numbers.now 32 (omega arith) (λ k w. c.loop-i.invariant k (omega arith)) (inl (omega arith))
