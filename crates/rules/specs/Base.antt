-- Notions that every section uses and that are not document 01's own: the first in rank, the first place that passes a test. The choice by
-- a test is the library's.
use Rattle.std.specs.Prelude.{Bool, true, not, ◌&&◌, List, [], ◌∷◌, ℕ, suc, eqb, if◌then◌else◌}

-- A place holds an order while its quantity is not 0; a price is there while it is not 0.
abbrev pub held : ℕ → Bool
held q = not (eqb q 0)

-- every element passes a test
unfoldable pub all : {A : Type 0} → (A → Bool) → List A → Bool
all f [] = true
all f (x ∷ xs) = f x && all f xs

-- those of a list that pass a test, in their order
unfoldable pub keep : {A : Type 0} → (A → Bool) → List A → List A
keep f [] = []
keep f (x ∷ xs) = if f x then x ∷ keep f xs else keep f xs

-- the first place that passes a test; past the end if none does
unfoldable pub place_where {ℓ} : {A : Type ℓ} → (A → Bool) → List A → ℕ
place_where f [] = 0
place_where f (x ∷ xs) = if f x then 0 else suc (place_where f xs)

-- what is picked from a list: nobody, or an element with its place
pub data Choice (A : Type 0) : Type 0 where
  nobody : Choice A
  picked : ℕ → A → Choice A

module _ {A : Type 0} where
  -- What is picked from a candidate a at place n and the candidates after it, of which `later` is the first in rank: a with its place,
  -- unless `later` ranks before a. `before x y` says that x ranks before y.
  unfoldable pub ranked : (before : A → A → Bool) → (n : ℕ) → (a : A) → (later : Choice A) → Choice A
  ranked before n a nobody = picked n a
  ranked before n a (picked i b) = if before b a then picked i b else picked n a

  -- among the candidates of a list whose places begin at n, the one before which none ranks; the earlier place of two that rank alike
  unfoldable pub first_from : (candidate : A → Bool) → (before : A → A → Bool) → (n : ℕ) → List A → Choice A
  first_from candidate before n [] = nobody
  first_from candidate before n (a ∷ rest) =
      let others = first_from candidate before (suc n) rest in
      if candidate a then ranked before n a others else others

  -- the first in rank of a whole list
  abbrev pub first : (candidate : A → Bool) → (before : A → A → Bool) → List A → Choice A
  first candidate before l = first_from candidate before 0 l
