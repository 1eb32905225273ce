-- `work::leg_in` meets its contract.
use mathlib.Core.Path.{sym, ◌∙◌}
use native.Mathlib.Omega.{arith}
use Rattle.rules.proofs.Machine.{back}
use Rattle.places.proofs.Parts.{complexes-few, complex-at}
use Rattle.work.proofs.LegInLaws.{leg-in-law}
use Rattle.work.proofs.leg_in.Goals as goal

pub complex_at-c-requires : goal.complex_at-c-requires
complex_at-c-requires c = let z = complexes-few c.args.numbers.now in
    omega (arith, c.requires.in_use)

pub returns-clause-result_after : goal.returns-clause-result_after
returns-clause-result_after c =
    let a = c.args in
    leg-in-law a.i a.a a.p a.k _ _ _ _ _ _ _ _ _ _ _ _ _ _ _ _ (c.complex_at-c.ensures ∙ sym (complex-at a.numbers.now a.i c.requires.in_use))
    (back {z = c.net_of-net.result} (record { sfits = c.net_of-net.type_inv }) ∙ c.net_of-net.ensures.0) c.contracts-one.ensures c.contracts-two.ensures c.trade_at_price-first.ensures.result_after
    c.trade_at_price-second.ensures.result_after c.pair_off.ensures.result_after
