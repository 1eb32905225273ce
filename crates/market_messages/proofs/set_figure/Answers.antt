-- `market_messages::set_figure` meets its contract.
use mathlib.Core.Path.{ap, ◌∙◌}
use native.Mathlib.Omega.{arith}
use Rattle.rules.specs.declared.Venue.{Venue}
use Rattle.rules.specs.Standing.{settle}
use Rattle.records.specs.Seen.{seen}
use Rattle.records.specs.Stage.{◌does◌}
use Rattle.places.specs.Layout.{venue_of}
use Rattle.places.proofs.Beside.{counts-on}
use Rattle.market_messages.proofs.Entering.{place-free, figure-set}
use Rattle.market_messages.proofs.set_figure.Goals as goal

pub put_edition-requires : goal.put_edition-requires
put_edition-requires c = let h = c.requires.free in
    record { place = omega arith; free = place-free c.args.numbers.now _ c.free_edition-i.ensures h; value = c.requires.value }

pub settle_all-requires : goal.settle_all-requires
settle_all-requires c =
    c.put_edition.ensures.counts.right c.requires.right

pub returns : goal.returns
returns c =
    record {
      result_after = c.settle_all.ensures.result_after
          ∙ ap (λ (w : Venue). seen c.args.out.now c.args.at does settle w)
          (figure-set (venue_of c.args.numbers.now) _ c.args.number c.args.f c.args.x c.args.edition _
          c.free_edition-i.ensures c.put_edition.ensures.numbers_after);
      counts = counts-on _ _ _ c.put_edition.ensures.counts c.settle_all.ensures.counts;
    }
