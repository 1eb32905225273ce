-- `generation::may_stand` meets its contract.
use Rattle.settling.proofs.PartsLaws.{off, on}
use Rattle.generation.specs.Parts.{may_stand}
use Rattle.levels.proofs.Sides.{own_is, facing-is}
use Rattle.places.specs.Layout.{venue_of}
use mathlib.Core.Path.{refl}
use Rattle.generation.proofs.may_stand.Goals as goal

pub price_may_stand-requires : goal.price_may_stand-requires
price_may_stand-requires c =
    let p = c.requires in
    let a = c.args in
    let v = venue_of a.numbers.now in
    record { own = own_is v a.sides a.c _ _ p.sides; facing = facing-is v a.sides a.c _ _ p.sides _ refl; series = p.series; figures = p.figures }

pub returns-then-not-price_may_stand : goal.returns-then-not-price_may_stand
unfolding may_stand
returns-then-not-price_may_stand c = simp (c.requires.may, off _ _ c.price_may_stand.ensures c.if-not-price_may_stand.true-raw)

pub returns : goal.returns
unfolding may_stand
returns c =
    simp (c.requires.may, on _ _ c.price_may_stand.ensures c.if-not-price_may_stand.false-raw) c.gives_way.ensures
