-- `venue_numbers::fresh_numbers` meets its contract.
use mathlib.Core.Path.{ap, ◌∙◌}
use native.Mathlib.Omega.{arith}
use lib.ListN.{length}
use borrow.Author.Rules.{rules}
use Rattle.venue_numbers.proofs.FreshNumbers.{open-length, open-first, open_next, fresh-loaded}
use Rattle.venue_numbers.proofs.fresh_numbers.Goals as goal

pub loop-s-init : goal.loop-s-init
loop-s-init c = open-first

pub bounds-numbers-s : goal.bounds-numbers-s
bounds-numbers-s c = let e = ap length c.loop-s.invariant ∙ open-length _ in omega arith

pub loop-s-preserved : goal.loop-s-preserved
loop-s-preserved c = open_next _ _ c.loop-s.invariant

pub base_figures-requires : goal.base_figures-requires
base_figures-requires c = let e = ap length c.loop-s.invariant ∙ open-length _ in search rules

pub returns : goal.returns
returns c = fresh-loaded _ _ _ c.loop-s.invariant (omega arith) c.base_figures.ensures
