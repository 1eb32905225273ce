-- `matching::enter_regular` meets its contract.
use mathlib.Core.Path.{sym, ap, ◌∙◌}
use Prim.Native.Nat.{ℕ}
use native.Mathlib.Omega.{arith}
use Rattle.rules.specs.Effects.{Effect}
use Rattle.rules.specs.Trading.{put_regular}
use Rattle.records.specs.Seen.{seen}
use Rattle.records.specs.Stage.{◌does◌}
use Rattle.places.specs.Layout.{venue_of}
use Rattle.matching.proofs.TurnsLaws.{enter-law}
use Rattle.place_writes.proofs.Closed.{dense-regular}
use Rattle.matching.proofs.enter_regular.Goals as goal

pub add_order-requires : goal.add_order-requires
add_order-requires c =
    record {
      right = c.requires.dense.right;
      room = c.requires.room;
      series = c.requires.series;
      side = c.requires.side;
      price = c.requires.price;
      newest = c.requires.newest;
      shows = c.requires.shows;
      display = c.requires.display;
      fully = c.requires.fully;
    }

pub meet_all-requires : goal.meet_all-requires
meet_all-requires c =
    let a = c.add_order.ensures.counts in
    record { in_use = omega (arith, a.regulars, c.regulars_used-i.ensures.0); right = a.right c.requires.dense.right }

pub returns-clause-result_after : goal.returns-clause-result_after
returns-clause-result_after c =
    let a = c.add_order.ensures in
    let m = c.meet_all.ensures in
    let u = c.regulars_used-i.ensures.0 in
    let v = venue_of c.args.numbers.now in
    m.result_after
    ∙ ap (λ (e : Effect). seen c.args.out.now c.args.at does e)
    (enter-law c.args.o v _ _ (u ∙ sym (dense-regular c.args.numbers.now c.requires.dense)) (a.numbers_after ∙ ap (λ (k : ℕ). put_regular k c.args.o v) (sym u)))
