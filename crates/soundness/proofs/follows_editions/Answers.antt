-- `soundness::follows_editions` meets its contract.
use mathlib.Core.Path.{sym, ap, ◌∙◌}
use mathlib.Core.Bool.{Bool}
use Prim.Native.Nat.{ℕ}
use native.Mathlib.Omega.{arith}
use lib.Dec.{ltb}
use borrow.Author.Tests.{lt-ltb, le-ltb}
use Rattle.rules.specs.declared.Edition.{Edition}
use Rattle.places.specs.Layout.{edition_in}
use Rattle.soundness.proofs.Beside.{scan-past, scan-stop, scan-none, editions-scan}
use Rattle.soundness.proofs.follows_editions.Goals as goal

abbrev earlier : (number : ℕ) → Edition → Bool
earlier number e = ltb e.message number

pub loop-i-init : goal.loop-i-init
loop-i-init c = (editions-scan c.args.numbers.now (earlier c.args.number))

pub returns-then-number-e : goal.returns-then-number-e
returns-then-number-e c =
    scan-stop (earlier c.args.number) (edition_in c.args.numbers.now) c.loop-i.i 32 c.loop-i-test.true
    (ap (earlier c.args.number) (sym c.edition_at-e.ensures) ∙ le-ltb c.edition_at-e.result.message c.args.number (omega arith))
    ∙ c.loop-i.invariant

pub loop-i-preserved : goal.loop-i-preserved
loop-i-preserved c =
    scan-past (earlier c.args.number) (edition_in c.args.numbers.now) c.loop-i.i 32 c.loop-i-test.true
    (ap (earlier c.args.number) (sym c.edition_at-e.ensures) ∙ lt-ltb c.edition_at-e.result.message c.args.number (omega arith))
    ∙ c.loop-i.invariant

pub returns : goal.returns
returns c =
    scan-none (earlier c.args.number) (edition_in c.args.numbers.now) c.loop-i.i 32 c.loop-i-test.false ∙ c.loop-i.invariant
