-- A figure in force at a message number, in a row of editions.
use Rattle.std.specs.Prelude.{◌&&◌, List, ℕ, leb, if◌then◌else◌}
use Rattle.rules.specs.declared.Edition.{Edition}
use Rattle.rules.specs.Base.{keep}
use Rattle.rules.specs.Settings.{base_figure, sets, last_value}

-- x, or the value of an edition of the figure whose message is numbered no higher
unfoldable pub value_after : (number figure x : ℕ) → Edition → ℕ
value_after n f x e = if leb e.message n && sets f e then e.value else x

-- `in_force` of a venue is this of its editions
unfoldable pub value_at : List Edition → (number figure : ℕ) → ℕ
value_at es n f = last_value f (base_figure f) (keep (λ e. leb e.message n) es)
