-- `venue_numbers::RegularOrder::write` meets its contract.
use mathlib.Core.Path.{ap, ◌∙◌}
use mathlib.Core.List.{List}
use Prim.Native.Nat.{ℕ}
use Rattle.places.specs.Layout.{regular_in}
use Rattle.place_writes.proofs.Stores.{regular-back}
use Rattle.venue_numbers.proofs.RegularOrder.write.Goals as goal

pub returns-clause-back : goal.returns-clause-back
returns-clause-back c =
    λ q. ap (λ (b : List ℕ). regular_in b c.args.i) c.write_regular.ensures
    ∙ regular-back c.args.numbers.now c.args.i c.args.self c.told-numbers c.requires q.0.series q.0.side q.1
