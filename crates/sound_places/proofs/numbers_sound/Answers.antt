-- `sound_places::numbers_sound` meets its contract.
use mathlib.Core.Path.{◌≡◌, refl, sym, ◌∙◌}
use native.Mathlib.Omega.{arith}
use lib.ListN.{length}
use borrow.Author.Rules.{rules}
use Rattle.sound_places.proofs.Passes.{numbers-none, numbers-fall, numbers-past}
use Rattle.sound_places.proofs.numbers_sound.Goals as goal

pub loop-n-init : goal.loop-n-init
loop-n-init c = refl

pub returns-then-not-is_unfallen : goal.returns-then-not-is_unfallen
returns-then-not-is_unfallen c = let n : length c.args.l.now ≡ 20 = search rules in
    numbers-fall c.args.l.now c.loop-n.low c.loop-n.n-index
    (omega arith) (sym c.is_unfallen.ensures ∙ c.if-not-is_unfallen.true)
    ∙ c.loop-n.invariant

pub loop-n-preserved : goal.loop-n-preserved
loop-n-preserved c = let n : length c.args.l.now ≡ 20 = search rules in
    numbers-past c.args.l.now c.loop-n.low c.loop-n.n-index
    (omega arith) (sym c.is_unfallen.ensures ∙ c.if-not-is_unfallen.false)
    ∙ c.loop-n.invariant

pub returns : goal.returns
returns c = let n : length c.args.l.now ≡ 20 = search rules in
    numbers-none c.args.l.now c.loop-n.low c.loop-n.n-index (omega arith) ∙ c.loop-n.invariant
