-- A part of a venue: a list that a venue has, and that another may stand in the place of.
use Rattle.std.specs.Prelude.{◌≡◌, refl, Bool, List, ℕ, ◌≤◌, ◌<◌, length, get_or}
use Rattle.rules.specs.declared.Venue.{Venue}
use Rattle.rules.specs.Words.{with_legging, with_series, with_editions, with_generations}
use Rattle.places.specs.Layout.{size, Filled, regulars_used, complexes_used, legging_in, listed_in, edition_in, generations_in, venue_of}
use Rattle.places.proofs.Tables.{upto-length}

-- from a to b as many places are in use as before
pub record SameUsed (a b : List ℕ) : Type 0 where
  pub regulars : regulars_used b ≡ regulars_used a
  pub complexes : complexes_used b ≡ complexes_used a

-- `part` reads what `With` puts there and nothing else; and the venue that numbers stand for has n places of it
pub record PartOf {A : Type 0} (With : Venue → List A → Venue) (part : Venue → List A) (n : ℕ) : Type 0 where
  pub again : (v : Venue) (x y : List A) → With (With v x) y ≡ With v y
  pub got : (v : Venue) (x : List A) → part (With v x) ≡ x
  pub own : (v : Venue) → With v (part v) ≡ v
  pub many : (b : List ℕ) → length (part (venue_of b)) ≡ n

pub legging_part : PartOf with_legging (λ v. v.legging) 16
unfolding with_legging venue_of
legging_part = record { again = λ v x y. refl; got = λ v x. refl; own = λ v. refl; many = λ b. upto-length (legging_in b) 0 16 }

pub series_part : PartOf with_series (λ v. v.series) 8
unfolding with_series venue_of
series_part = record { again = λ v x y. refl; got = λ v x. refl; own = λ v. refl; many = λ b. upto-length (listed_in b) 0 8 }

pub editions_part : PartOf with_editions (λ v. v.editions) 32
unfolding with_editions venue_of
editions_part = record { again = λ v x y. refl; got = λ v x. refl; own = λ v. refl; many = λ b. upto-length (edition_in b) 0 32 }

pub generations_part : PartOf with_generations (λ v. v.generations) 8
unfolding with_generations venue_of
generations_part = record { again = λ v x y. refl; got = λ v x. refl; own = λ v. refl; many = λ b. upto-length (generations_in b) 0 8 }

-- A book laid among the numbers, row by row to the first free place ------------------------------

-- the first i rows are l's
pub record Laying {A : Type 0} (holds : A → Bool) (none : A) (row_in : List ℕ → ℕ → A) (Same : (i j : ℕ) (a b : List ℕ) → Type 0) (a b : List ℕ) (l : List A) (i : ℕ) : Type 0 where
  pub before : length a ≡ size
  pub long : length b ≡ size
  pub same : (k : ℕ) → k < i → row_in b k ≡ get_or l k none
  pub full : Filled holds (row_in b) i
  pub outside : Same 0 i a b

-- its first i rows are l's, and l's other places are free
pub record BookLaid {A : Type 0} (holds : A → Bool) (none : A) (row_in : List ℕ → ℕ → A) (Same : (i j : ℕ) (a b : List ℕ) → Type 0) (many : ℕ) (a b : List ℕ) (l : List A) (i : ℕ) : Type 0 where
  pub laying : Laying holds none row_in Same a b l i
  pub few : i ≤ many
  pub rest : (k : ℕ) → i ≤ k → get_or l k none ≡ none
