-- `book::regular_place` meets its contract.
use mathlib.Core.Path.{sym, ◌∙◌}
use native.Mathlib.Omega.{arith}
use native.Mathlib.Decide.{dec_lt}
use Rattle.places.proofs.Parts.{regulars-few}
use Rattle.book.proofs.Earliest.{lower-before, higher-after, id-found, id-none}
use borrow.Author.Rules.{rules}
-- the ids below `low` are lower, and those from `high` on are higher
use Rattle.book.proofs.regular_place.Goals as goal

pub loop-low-init : goal.loop-low-init
loop-low-init c = (search rules, λ j q. absurd (omega arith), λ j p q. absurd (omega arith))

pub overflow_add-i : goal.overflow_add-i
overflow_add-i c = let w = regulars-few c.args.numbers.now in search rules

pub regular_id-here-requires : goal.regular_id-here-requires
regular_id-here-requires c = let w = regulars-few c.args.numbers.now in search rules

pub returns-then-here-id : goal.returns-then-here-id
returns-then-here-id c =
    id-found c.args.numbers.now c.requires c.args.id _ (omega arith) (sym c.regular_id-here.ensures ∙ c.if-here-id.true)

pub overflow_add-low : goal.overflow_add-low
overflow_add-low c = let w = regulars-few c.args.numbers.now in search rules

pub loop-low-preserved-then-here-id-2 : goal.loop-low-preserved-then-here-id-2
loop-low-preserved-then-here-id-2 c =
    (omega arith, lower-before c.args.numbers.now c.requires c.args.id _ (omega arith) (omega arith), c.loop-low.invariant.2)

pub loop-low-preserved : goal.loop-low-preserved
loop-low-preserved c =
    (omega arith, c.loop-low.invariant.1, higher-after c.args.numbers.now c.requires c.args.id _ (omega arith))

pub returns : goal.returns
returns c =
    id-none c.args.numbers.now c.requires c.args.id
    (λ j q e. elim (dec_lt j c.loop-low.low) [
      | yes r ↦ (let z = c.loop-low.invariant.1 j r in omega arith)
      | no r ↦ (let z = c.loop-low.invariant.2 j (omega arith) q in omega arith)
    ])
