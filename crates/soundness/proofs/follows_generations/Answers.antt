-- `soundness::follows_generations` meets its contract.
use mathlib.Core.Path.{refl, sym, ◌∙◌}
use mathlib.Core.Bool.{Bool}
use Prim.Native.Nat.{ℕ}
use native.Mathlib.Omega.{arith}
use lib.Dec.{ltb}
use Rattle.rules.specs.declared.Generations.{Generations}
use Rattle.rules.specs.Base.{all}
use Rattle.rules.specs.Words.{no_generations}
use Rattle.rules.specs.Generation.{generations_of}
use Rattle.places.specs.Layout.{venue_of}
use Rattle.places.proofs.Generations.{generations-many}
use Rattle.sound_places.proofs.Passes.{rest-past, rest-stop, rest-none}
use Rattle.soundness.proofs.follows_generations.Goals as goal

abbrev earlier : (number : ℕ) → Generations → Bool
earlier number g = all (λ n. ltb n number) g.messages

pub loop-s-init : goal.loop-s-init
loop-s-init c = refl

pub returns-then-not-follows_series : goal.returns-then-not-follows_series
returns-then-not-follows_series c =
    let n = generations-many c.args.numbers.now in
    rest-stop (earlier c.args.number) no_generations (venue_of c.args.numbers.now).generations c.loop-s.s (omega arith)
    (unfold generations_of in (sym c.follows_series.ensures ∙ c.if-not-follows_series.true))
    ∙ c.loop-s.invariant

pub loop-s-preserved : goal.loop-s-preserved
loop-s-preserved c =
    let n = generations-many c.args.numbers.now in
    rest-past (earlier c.args.number) no_generations (venue_of c.args.numbers.now).generations c.loop-s.s (omega arith)
    (unfold generations_of in (sym c.follows_series.ensures ∙ c.if-not-follows_series.false))
    ∙ c.loop-s.invariant

pub returns : goal.returns
returns c =
    let n = generations-many c.args.numbers.now in
    rest-none (earlier c.args.number) no_generations (venue_of c.args.numbers.now).generations c.loop-s.s (omega arith) ∙ c.loop-s.invariant
