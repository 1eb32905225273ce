-- The call message by message, as the code goes. That it is the run of the list handed out is a law (proofs/Turning: fed-run).
use Rattle.std.specs.Prelude.{true, false, List, ℕ, zero, suc, ◌-◌, length}
use Rattle.rules.specs.declared.Venue.{Venue}
use Rattle.rules.specs.Records.{encode_all}
use Rattle.rules.specs.Step.{step}
use Rattle.rules.specs.Calls.{Outcome, exceeds, ends, after}
use Rattle.feed.specs.Feed.{Part, next, message, stop}

-- one message handed out upon v, after n messages, with this room left, and then how the rest goes
unfoldable pub hands : Venue → (n room : ℕ) → List ℕ → (rest : Venue → ℕ → Outcome) → Outcome
hands v n room bs rest =
    let a = step v (suc n) bs in
    elim (exceeds (suc n) room a.effect.reports) [
      | true ↦ ends 10 v
      | false ↦ after a.effect (rest a.effect.venue (room - length (encode_all a.effect.reports)))
    ]

unfoldable pub fed_from : (fuel : ℕ) → Venue → (n room : ℕ) → (main spare : List Part) → Outcome
fed_from zero v n room m s = ends 0 v
fed_from (suc fuel) v n room m s =
    elim (next (suc n) m s) [
      | message bs ↦ hands v n room bs (λ w left. fed_from fuel w (suc n) left m s)
      | stop k ↦ ends k v
    ]
