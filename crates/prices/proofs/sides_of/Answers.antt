-- `prices::sides_of` meets its contract.
use Rattle.rules.specs.Words.{opposite}
use mathlib.Core.Path.{refl}
use borrow.Author.Rules.{rules}
use Rattle.prices.proofs.sides_of.Goals as goal

pub bounds-g-d1 : goal.bounds-g-d1
unfolding opposite
bounds-g-d1 c = search rules

pub bounds-g-d2 : goal.bounds-g-d2
unfolding opposite
bounds-g-d2 c = search rules

pub bounds-g-k : goal.bounds-g-k
unfolding opposite
bounds-g-k c = search rules

pub returns : goal.returns
returns c = rw (
  c.from-s1.ensures,
  c.from-s2.ensures,
  c.from-i.ensures,
  c.from-d1.ensures,
  c.from-d2.ensures,
  c.from-j.ensures,
  c.from-k.ensures,
  c.opposite_of.ensures,
  c.opposite_of-2.ensures,
  c.opposite_of-3.ensures,
) refl
