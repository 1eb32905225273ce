-- Document 01, Demand 3: "The rest is summed from the records that name its id: contracts in a series from that series' 65, as taker or
-- maker; pairs, or paired, from 66; crossed from 70, as taker or maker; cancelled from 71."
use Rattle.std.specs.Prelude.{◌&&◌, ◌||◌, List, [], ◌∷◌, ℕ, ◌+◌, eqb, if◌then◌else◌}
use Rattle.rules.specs.declared.Regular.{Regular}
use Rattle.rules.specs.declared.Complex.{Complex}
use Rattle.rules.specs.Records.{Report, answer, trade, pair, generated, removed, crossed, cancelled, looked}

-- the sum of what each record counts
unfoldable pub total : (Report → ℕ) → List Report → ℕ
total f [] = 0
total f (r ∷ rs) = f r + total f rs

-- "contracts in a series from that series' 65, as taker or maker"
unfoldable pub contracts : (id s : ℕ) → Report → ℕ
contracts id s (answer n x m c) = 0
contracts id s (trade t d p q taker maker) = if eqb t s && (eqb taker id || eqb maker id) then q else 0
contracts id s (pair i n q) = 0
contracts id s (generated i t d p displayed q) = 0
contracts id s (removed i t d c) = 0
contracts id s (crossed taker maker n q) = 0
contracts id s (cancelled i q) = 0
contracts id s (looked n) = 0

-- and of these, at price p
unfoldable pub contracts_at : (id s p : ℕ) → Report → ℕ
contracts_at id s p (answer n x m c) = 0
contracts_at id s p (trade t d price q taker maker) = if eqb price p then contracts id s (trade t d price q taker maker) else 0
contracts_at id s p (pair i n q) = 0
contracts_at id s p (generated i t d price displayed q) = 0
contracts_at id s p (removed i t d c) = 0
contracts_at id s p (crossed taker maker n q) = 0
contracts_at id s p (cancelled i q) = 0
contracts_at id s p (looked n) = 0

-- "pairs, or paired, from 66"
unfoldable pub paired : ℕ → Report → ℕ
paired id (answer n x m c) = 0
paired id (trade t d p q taker maker) = 0
paired id (pair i n q) = if eqb i id then q else 0
paired id (generated i t d p displayed q) = 0
paired id (removed i t d c) = 0
paired id (crossed taker maker n q) = 0
paired id (cancelled i q) = 0
paired id (looked n) = 0

-- "crossed from 70, as taker or maker"
unfoldable pub crossed_for : ℕ → Report → ℕ
crossed_for id (answer n x m c) = 0
crossed_for id (trade t d p q taker maker) = 0
crossed_for id (pair i n q) = 0
crossed_for id (generated i t d p displayed q) = 0
crossed_for id (removed i t d c) = 0
crossed_for id (crossed taker maker n q) = if eqb taker id || eqb maker id then q else 0
crossed_for id (cancelled i q) = 0
crossed_for id (looked n) = 0

-- "cancelled from 71"
unfoldable pub cancelled_of : ℕ → Report → ℕ
cancelled_of id (answer n x m c) = 0
cancelled_of id (trade t d p q taker maker) = 0
cancelled_of id (pair i n q) = 0
cancelled_of id (generated i t d p displayed q) = 0
cancelled_of id (removed i t d c) = 0
cancelled_of id (crossed taker maker n q) = 0
cancelled_of id (cancelled i q) = if eqb i id then q else 0
cancelled_of id (looked n) = 0

-- 02 (m): how many "are generated" in a series, from its 67
unfoldable pub generated_of : (series : ℕ) → Report → ℕ
generated_of s (answer n x m c) = 0
generated_of s (trade t d p q taker maker) = 0
generated_of s (pair i n q) = 0
generated_of s (generated i t d p displayed q) = if eqb t s then 1 else 0
generated_of s (removed i t d c) = 0
generated_of s (crossed taker maker n q) = 0
generated_of s (cancelled i q) = 0
generated_of s (looked n) = 0

-- the quantity under an id in a list of places
unfoldable pub open_in : {A : Type 0} → (id quantity : A → ℕ) → (y : ℕ) → List A → ℕ
open_in id quantity y [] = 0
open_in id quantity y (o ∷ os) = (if eqb (id o) y then quantity o else 0) + open_in id quantity y os

-- "still open is the quantity resting in the venue left (0 if none rests)": a free place has quantity 0
abbrev pub open_regular : (id : ℕ) → List Regular → ℕ
open_regular = open_in (λ o. o.id) (λ o. o.quantity)

abbrev pub open_complex : (id : ℕ) → List Complex → ℕ
open_complex = open_in (λ c. c.id) (λ c. c.quantity)
