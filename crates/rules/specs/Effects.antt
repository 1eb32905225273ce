-- What a rule does: the venue that it leaves, with the records written on the way, in order.
use Rattle.std.specs.Prelude.{List, [], ◌∷◌, ◌++◌, ℕ, zero, suc}
use Rattle.rules.specs.declared.Venue.{Venue}
use Rattle.rules.specs.Records.{Report}

pub record Effect : Type 0 where
  pub venue : Venue
  pub reports : List Report

-- the venue v, and no record
unfoldable pub nothing : Venue → Effect
nothing v = record { venue = v; reports = [] }

-- the venue v, and one record
unfoldable pub report : Report → Venue → Effect
report r v = record { venue = v; reports = r ∷ [] }

-- first one, then the other upon the venue that it left
infixl 10 ◌⟫◌
unfoldable pub ◌⟫◌ : Effect → (Venue → Effect) → Effect
e ⟫ f =
    let g = f e.venue in
    record { venue = g.venue; reports = e.reports ++ g.reports }

-- one turn of a loop: it has ended, or it did something
pub data Turn : Type 0 where
  ended : Turn
  turned : Effect → Turn

-- turns upon a venue until one has nothing to do. The fuel is the quantity open at the start: each turn trades at least one contract.
unfoldable pub repeat : (fuel : ℕ) → (Venue → Turn) → Venue → Effect
repeat zero turn v = nothing v
repeat (suc fuel) turn v = elim (turn v) [ ended ↦ nothing v | turned e ↦ e ⟫ repeat fuel turn ]
