-- `venue_numbers::ComplexOrder::write` meets its contract.
use mathlib.Core.Path.{ap, ◌∙◌}
use mathlib.Core.List.{List}
use Prim.Native.Nat.{ℕ}
use Rattle.places.specs.Layout.{complex_in}
use Rattle.place_writes.proofs.Stores.{complex-back}
use Rattle.venue_numbers.proofs.ComplexOrder.write.Goals as goal

pub returns-clause-back : goal.returns-clause-back
returns-clause-back c =
    λ q. ap (λ (b : List ℕ). complex_in b c.args.i) c.write_complex.ensures.0
    ∙ complex-back c.args.numbers.now c.args.i c.args.self c.told-numbers c.requires q.0.series q.0.side q.1.series q.1.side c.write_complex.ensures.1
