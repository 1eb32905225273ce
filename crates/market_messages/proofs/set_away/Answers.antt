-- `market_messages::set_away` meets its contract.
use mathlib.Core.Path.{ap, ◌∙◌}
use Rattle.rules.specs.declared.Venue.{Venue}
use Rattle.rules.specs.Standing.{settle}
use Rattle.records.specs.Seen.{seen}
use Rattle.records.specs.Stage.{◌does◌}
use Rattle.places.specs.Layout.{venue_of}
use Rattle.places.proofs.Beside.{counts-on}
use Rattle.market_messages.proofs.Setting.{away-set}
use Rattle.market_messages.proofs.set_away.Goals as goal

pub settle_all-requires : goal.settle_all-requires
settle_all-requires c =
    c.put_listed.ensures.counts.right c.requires.right

pub returns : goal.returns
returns c = record {
  result_after = c.settle_all.ensures.result_after ∙ ap (λ (w : Venue). seen c.args.out.now c.args.at does settle w)
      (away-set (venue_of c.args.numbers.now) _ c.args.s _ _ _
      c.status_of-status.ensures (rw c.from.ensures at c.put_listed.ensures.numbers_after));
  counts = counts-on _ _ _ c.put_listed.ensures.counts c.settle_all.ensures.counts;
}
