-- `refusals::is_above` meets its contract.
use mathlib.Core.Path.{◌≡◌, sym, ap, ◌∙◌}
use mathlib.Core.Bool.{Bool, true}
use Prim.Native.Nat.{ℕ}
use native.Mathlib.Omega.{arith}
use lib.Dec.{ltb}
use borrow.Author.Count.{below_more}
use borrow.Author.Tests.{lt-ltb, le-ltb}
use Rattle.rules.specs.declared.Edition.{Edition}
use Rattle.rules.specs.Base.{all}
use Rattle.rules.specs.Words.{no_edition}
use Rattle.places.specs.Layout.{edition_in}
use Rattle.refusals.proofs.EditionsLaws.{all_pass, one-fails, editions-used}
use Rattle.refusals.proofs.is_above.Goals as goal

abbrev below : ℕ → Edition → Bool
below e k = ltb k.edition e

pub loop-i-init : goal.loop-i-init
loop-i-init c = (λ j q. absurd (omega arith))

pub returns-then-edition-k : goal.returns-then-edition-k
returns-then-edition-k c = let b = c.args.numbers.now in
    let e = c.args.edition in one-fails (below e) no_edition (edition_in b) 32 32 (omega arith)
    c.loop-i.i (omega arith)
    (ap (below e) (sym c.edition_at-k.ensures) ∙ le-ltb _ _ c.if-edition-k.true) ∙ ap (all (below e)) (editions-used b)

pub loop-i-preserved : goal.loop-i-preserved
loop-i-preserved c = let b = c.args.numbers.now in
    let e = c.args.edition in
    below_more (λ j. below e (edition_in b j) ≡ true) c.loop-i.i
    c.loop-i.invariant (ap (below e) (sym c.edition_at-k.ensures) ∙ lt-ltb _ _ c.if-edition-k.false)

pub returns : goal.returns
returns c = let b = c.args.numbers.now in let e = c.args.edition in
    all_pass (below e) no_edition (edition_in b) 32 32 (omega arith) (λ h. absurd (omega arith)) (λ j q. c.loop-i.invariant j (omega arith))
    ∙ ap (all (below e)) (editions-used b)
