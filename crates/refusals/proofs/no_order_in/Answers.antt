-- `refusals::no_order_in` meets its contract.
use mathlib.Core.Path.{◌≡◌, refl, sym, ap, ◌∙◌}
use mathlib.Core.Bool.{Bool, true, not, ◌&&◌}
use Prim.Native.Nat.{ℕ}
use native.Mathlib.Omega.{arith}
use lib.Dec.{eqb}
use borrow.Author.Count.{below_more}
use borrow.Author.Rules.{rules}
use Rattle.rules.specs.declared.Regular.{Regular}
use Rattle.rules.specs.Base.{held}
use Rattle.rules.specs.Words.{no_regular}
use Rattle.places.specs.Layout.{regulars_used, regular_in, venue_of}
use Rattle.places.proofs.Parts.{regulars-few}
use Rattle.refusals.proofs.EditionsLaws.{all_pass, one-fails}
use Rattle.refusals.proofs.no_order_in.Goals as goal

abbrev elsewhere : ℕ → Regular → Bool
elsewhere s x = not (held x.quantity && eqb x.series s)

pub loop-i-init : goal.loop-i-init
loop-i-init c = (λ j q. absurd (omega arith))

pub regular_at-o-requires : goal.regular_at-o-requires
regular_at-o-requires c = let w = regulars-few c.args.numbers.now in search rules

pub returns-then-rests_in : goal.returns-then-rests_in
unfolding venue_of
returns-then-rests_in c = let b = c.args.numbers.now in
    let s = c.args.s in one-fails (elsewhere s) no_regular (regular_in b) (regulars_used b) 128
    (regulars-few b) c.loop-i.i (omega arith)
    (ap (elsewhere s) (sym c.regular_at-o.ensures) ∙ ap not (sym c.rests_in.ensures ∙ c.if-rests_in.true))

pub loop-i-preserved : goal.loop-i-preserved
loop-i-preserved c = let b = c.args.numbers.now in
    let s = c.args.s in
    below_more (λ j. elsewhere s (regular_in b j) ≡ true) c.loop-i.i
    c.loop-i.invariant
    (ap (elsewhere s) (sym c.regular_at-o.ensures) ∙ ap not (sym c.rests_in.ensures ∙ c.if-rests_in.false))

pub returns : goal.returns
unfolding venue_of
returns c = let b = c.args.numbers.now in let s = c.args.s in
    all_pass (elsewhere s) no_regular (regular_in b) (regulars_used b) 128 (regulars-few b) (λ _. refl) (λ j q. c.loop-i.invariant j (omega arith))
