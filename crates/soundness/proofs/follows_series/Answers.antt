-- `soundness::follows_series` meets its contract.
use mathlib.Core.Path.{refl, sym, ap, ◌∙◌}
use mathlib.Core.Bool.{Bool}
use Prim.Native.Nat.{ℕ}
use native.Mathlib.Omega.{arith}
use lib.Dec.{ltb}
use borrow.Author.Tests.{lt-ltb, le-ltb}
use Rattle.rules.specs.Generation.{generations_of}
use Rattle.places.specs.Layout.{venue_of}
use Rattle.places.proofs.Generations.{generations-twenty}
use Rattle.sound_places.proofs.Passes.{rest-past, rest-stop, rest-none}
use Rattle.soundness.proofs.follows_series.Goals as goal

abbrev earlier : (number : ℕ) → ℕ → Bool
earlier number n = ltb n number

pub loop-k-init : goal.loop-k-init
loop-k-init c = refl

pub returns-then-number-generation_at : goal.returns-then-number-generation_at
returns-then-number-generation_at c =
    let l = generations_of (venue_of c.args.numbers.now) c.args.s in
    let n = generations-twenty c.args.numbers.now c.args.s in
    let k = c.loop-k.k in
    rest-stop (earlier c.args.number) 0 l k (omega arith)
    (ap (earlier c.args.number) (sym c.generation_at.ensures) ∙ le-ltb c.generation_at.result c.args.number
    c.if-number-generation_at.true)
    ∙ c.loop-k.invariant

pub loop-k-preserved : goal.loop-k-preserved
loop-k-preserved c =
    let l = generations_of (venue_of c.args.numbers.now) c.args.s in
    let n = generations-twenty c.args.numbers.now c.args.s in
    let k = c.loop-k.k in
    rest-past (earlier c.args.number) 0 l k (omega arith)
    (ap (earlier c.args.number) (sym c.generation_at.ensures) ∙ lt-ltb c.generation_at.result c.args.number
    c.if-number-generation_at.false)
    ∙ c.loop-k.invariant

pub returns : goal.returns
returns c =
    let n = generations-twenty c.args.numbers.now c.args.s in
    rest-none (earlier c.args.number) 0 (generations_of (venue_of c.args.numbers.now) c.args.s) c.loop-k.k (omega arith) ∙ c.loop-k.invariant
