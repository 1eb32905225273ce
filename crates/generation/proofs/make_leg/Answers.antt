-- `generation::make_leg` meets its contract.
use Rattle.generation.proofs.PartsLaws.{made-law}
use Rattle.rules.specs.Words.{place_of}
use mathlib.Core.Path.{ap, ◌∙◌}
use Prim.Native.Nat.{ℕ}
use Rattle.rules.specs.Generation.{counted}
use Rattle.places.specs.Layout.{venue_of}
use borrow.Author.Rules.{rules}
use Rattle.generation.proofs.make_leg.Goals as goal

pub remove_one-pos-requires : goal.remove_one-pos-requires
unfolding place_of
remove_one-pos-requires c = search rules

pub put_legging-requires : goal.put_legging-requires
unfolding place_of
put_legging-requires c = search rules

pub returns-clause-result_after : goal.returns-clause-result_after
returns-clause-result_after c =
    made-law _ _ _ _ _ _ c.args.l _ _ _ _ _ _ _ _ _ _
    c.place_of-place.ensures
    c.displayed_in_series-displayed.ensures c.remove_one-pos.ensures.result_after c.put_legging.ensures.numbers_after (c.count_generation.ensures.numbers_after ∙ ap (λ (s : ℕ). counted c.args.number s (venue_of c.put_legging.new.numbers)) c.from.ensures) c.emit_generated.ensures
