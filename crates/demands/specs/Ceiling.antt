-- Document 02 (m): "Per series at most 20 are generated in any 256 consecutive messages", in terms of what callers see: a record is of
-- the message whose 64 is the last before it.
use Rattle.std.specs.Prelude.{Bool, ◌&&◌, List, [], ◌∷◌, ℕ, suc, ◌+◌, ◌<◌, ◌≤◌, eqb, if◌then◌else◌}
use Rattle.rules.specs.Words.{within}
use Rattle.rules.specs.Records.{Report, answer, cancelled, crossed, generated, looked, pair, removed, trade}
use Rattle.demands.specs.Demand.{Later, Opening, calls, opening}

-- how many 67 of a series are of messages whose number passes a test; the first records are of message `now`
unfoldable pub generated_by : (ℕ → Bool) → (series now : ℕ) → List Report → ℕ
generated_by f s now [] = 0
generated_by f s now (answer number refusal mask count ∷ rs) = generated_by f s number rs
generated_by f s now (trade series side price quantity taker maker ∷ rs) = generated_by f s now rs
generated_by f s now (pair id n quantity ∷ rs) = generated_by f s now rs
generated_by f s now (generated id series side price displayed quantity ∷ rs) =
    (if f now && eqb series s then 1 else 0) + generated_by f s now rs
generated_by f s now (removed id series side cause ∷ rs) = generated_by f s now rs
generated_by f s now (crossed taker maker n quantity ∷ rs) = generated_by f s now rs
generated_by f s now (cancelled id quantity ∷ rs) = generated_by f s now rs
generated_by f s now (looked count ∷ rs) = generated_by f s now rs

-- of every list of calls, every series, and every 256 messages, numbered from first + 1 to first + 256
abbrev pub Ceiling : Type 0
Ceiling = (o : Opening) (cs : List Later) (series first : ℕ) → series < 8 →
    generated_by (within (suc first) (first + 256)) series 0 (calls (opening o) cs).reports ≤ 20
