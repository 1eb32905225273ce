-- Complex orders whose ids rise with their places.
use Rattle.std.specs.Prelude.{◌≡◌, true, List, ℕ, ◌<◌, get_or}
use Rattle.rules.specs.declared.Complex.{Complex}
use Rattle.rules.specs.Base.{held}
use Rattle.rules.specs.Words.{no_complex}

-- place i holds an order
abbrev pub Holds : List Complex → (i : ℕ) → Type 0
Holds l i = held (get_or l i no_complex).quantity ≡ true

-- ids are above 0, and of two orders the one at the later place has the higher id
pub record Rising (l : List Complex) : Type 0 where
  pub above : (i : ℕ) → Holds l i → 0 < (get_or l i no_complex).id
  pub rises : (i j : ℕ) → i < j → Holds l i → Holds l j → (get_or l i no_complex).id < (get_or l j no_complex).id
