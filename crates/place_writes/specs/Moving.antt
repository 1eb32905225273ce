-- A book whose gaps are being closed: the orders at places given by a function, those read and those kept; then as rows of numbers.
use Rattle.std.specs.Prelude.{◌≡◌, Bool, ◌⊎◌, List, ◌++◌, ℕ, ◌+◌, ◌-◌, ◌*◌, ◌≤◌, ◌<◌, length}
use Rattle.rules.specs.Base.{keep}
use Rattle.std.proofs.lemmas.List.Edits.{sets}
use Rattle.rules.specs.declared.Complex.{Complex}
use Rattle.places.specs.Layout.{size, upto, complex_row, Filled}
use Rattle.places.specs.Offsets.{complex_id_at}
use Rattle.places.proofs.Parts.{Outside}

-- of n places, that were f and are g, i are read and j of them kept
pub record Closing {A : Type 0} (holds : A → Bool) (n : ℕ) (f g : ℕ → A) (i j : ℕ) : Type 0 where
  pub read : i ≤ n
  pub fewer : j ≤ i
  pub front : upto g 0 j ++ keep holds (upto f i (n - i)) ≡ keep holds (upto f 0 n)
  pub full : Filled holds g j

-- each of `all` places has numbers of its own, which `write` writes; `Same i j` says that only those of the places from i to below j may differ
pub record Rows {A : Type 0} (all : ℕ) (row_in : List ℕ → ℕ → A) (write : List ℕ → ℕ → A → List ℕ) (Same : (i j : ℕ) (a b : List ℕ) → Type 0) : Type 0 where
  pub long : (a : List ℕ) (i : ℕ) (x : A) → length (write a i x) ≡ length a
  pub none : (i j : ℕ) (a : List ℕ) → Same i j a a
  pub wide : (i j k l : ℕ) (a b : List ℕ) → k ≤ i → j ≤ l → Same i j a b → Same k l a b
  pub join : (i j : ℕ) (a b c : List ℕ) → Same i j a b → Same i j b c → Same i j a c
  pub wrote : (a : List ℕ) (i : ℕ) (x : A) → Same i (i + 1) a (write a i x)
  pub agree : (a b : List ℕ) (i j k : ℕ) → j ≤ all → k < all → Same i j a b → (k < i) ⊎ (j ≤ k) → row_in a k ≡ row_in b k

-- of n places of a book, i are read and j of them kept; only the numbers of those read may differ
pub record Moving {A : Type 0} (holds : A → Bool) (row_in : List ℕ → ℕ → A) (Same : (i j : ℕ) (a b : List ℕ) → Type 0) (a b : List ℕ) (n i j : ℕ) : Type 0 where
  pub long : length b ≡ size
  pub places : Closing holds n (row_in a) (row_in b) i j
  pub outside : Same 0 i a b

-- a complex order written at a place, and numbers that are the same but for those of the places from one to below another
abbrev pub complex_put : List ℕ → ℕ → Complex → List ℕ
complex_put a i c = sets a (6 * i + complex_id_at) (complex_row c)

abbrev pub OutsideComplexes : (i j : ℕ) (a b : List ℕ) → Type 0
OutsideComplexes i j = Outside (6 * i + complex_id_at) (6 * j + complex_id_at)
