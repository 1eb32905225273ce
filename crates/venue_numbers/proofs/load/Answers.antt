-- `venue_numbers::load` meets its contract.
use mathlib.Core.Path.{ap, ◌∙◌}
use Rattle.rules.specs.declared.Venue.{Venue}
use Rattle.rules.specs.Words.{with_reached}
use Rattle.venue_numbers.proofs.Loaded.{loaded, regulars-last, complexes-last}
use borrow.Author.Rules.{rules}
use Rattle.place_writes.proofs.Closed.{regular-rows, complex-rows}
use Rattle.venue_numbers.proofs.load.Goals as goal

pub returns : goal.returns
returns c =
    loaded c.args.v _ _ _ _ _ _ _ _ _
    (c.put_reached.ensures.numbers_after ∙ ap (λ (v : Venue). with_reached v c.args.v.reached) c.load_part.ensures.numbers_after)
    (regulars-last _ _ _ _ (search rules) c.load_book-regulars.ensures) (complexes-last _ _ _ _ (search rules) c.load_book-complexes.ensures)
    c.load_part-2.ensures.numbers_after c.load_part-2.ensures.used c.load_part-3.ensures.numbers_after c.load_part-3.ensures.used
    c.load_part-4.ensures.numbers_after c.load_part-4.ensures.used
    c.put_last.ensures.numbers_after c.put_last.ensures.counts c.count_beside.ensures c.requires.increments c.requires.shows

pub load_book-regulars-requires-clause-rows : goal.load_book-regulars-requires-clause-rows
load_book-regulars-requires-clause-rows c = regular-rows

pub load_book-complexes-requires-clause-rows : goal.load_book-complexes-requires-clause-rows
load_book-complexes-requires-clause-rows c = complex-rows
