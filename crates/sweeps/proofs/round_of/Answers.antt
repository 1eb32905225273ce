-- `sweeps::round_of` meets its contract.
use mathlib.Core.Path.{ap, ◌∙◌}
use mathlib.Core.List.{◌++◌}
use Prim.Native.Nat.{ℕ, ◌-◌}
use native.Mathlib.Omega.{arith}
use lib.ListN.{take}
use Rattle.sweeps.specs.Round.{places_from, round_places}
use Rattle.sweeps.proofs.RoundLaws.{round-within, round-on, round_whole}
use Rattle.sweeps.proofs.round_of.Goals as goal

pub returns-then-most-above-clause-result_value : goal.returns-then-most-above-clause-result_value
unfolding round_places
returns-then-most-above-clause-result_value c =
    let t = c.if-most-above.true in
    rw c.from-most.ensures (round-within c.args.n _ _ _ (omega (arith, t, c.complexes_used-used.ensures.0)) ∙ ap (take c.args.n) c.round_start-first.ensures.result_value)

pub returns-then-most-above-2-clause-result_value : goal.returns-then-most-above-2-clause-result_value
unfolding round_places
returns-then-most-above-2-clause-result_value c =
    let n = c.args.n in
    round-on n _ _ _ c.round_start-first.result (omega (arith, c.if-most-above.false)) c.if-most-above-2.true
    ∙ ap (λ (x : ℕ). take n (places_from c.round_start-first.result (x - c.round_start-first.result) ++ places_from 0 c.round_start-first.result)) c.complexes_used-used.ensures.0 ∙ ap (take n) c.round_start-first.ensures.result_value

pub returns-clause-result_value : goal.returns-clause-result_value
unfolding round_places
returns-clause-result_value c =
    let n = c.args.n in
    round_whole n (n - (c.complexes_used-used.result - c.round_start-first.result)) _ _ _ (omega (arith, c.if-most-above.false)) (omega (arith, c.if-most-above-2.false))
    ∙ ap (λ (x : ℕ). take n (places_from c.round_start-first.result (x - c.round_start-first.result) ++ places_from 0 c.round_start-first.result)) c.complexes_used-used.ensures.0 ∙ ap (take n) c.round_start-first.ensures.result_value
