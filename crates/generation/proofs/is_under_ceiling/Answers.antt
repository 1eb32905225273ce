-- `generation::is_under_ceiling` meets its contract.
use mathlib.Core.Path.{ap, ◌∙◌}
use Prim.Native.Nat.{ℕ}
use lib.ListN.{get_or}
use Rattle.rules.specs.Generation.{generations_of}
use Rattle.places.specs.Layout.{venue_of}
use Rattle.generation.proofs.PartsLaws.{under_none, under-old}
use Rattle.generation.proofs.is_under_ceiling.Goals as goal

pub returns-then-oldest-eq0 : goal.returns-then-oldest-eq0
returns-then-oldest-eq0 c = under_none _ _ _
    (c.oldest_at-oldest.ensures ∙ ap (λ (s : ℕ). get_or (generations_of (venue_of c.args.numbers.now) s) 0 0) c.from.ensures)
    c.if-oldest-eq0.true

pub returns : goal.returns
returns c = rw (c.from-2.ensures, c.from-3.ensures) (under-old _ _ _
    (c.oldest_at-oldest.ensures ∙ ap (λ (s : ℕ). get_or (generations_of (venue_of c.args.numbers.now) s) 0 0) c.from.ensures)
    c.if-oldest-eq0.false)
