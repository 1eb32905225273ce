-- Finding: the first place that passes a test, the resting complex order of an id, a leg of an order.
use Rattle.std.specs.Prelude.{if◌then◌else◌}
use mathlib.Core.Path.{◌≡◌, ap, refl, sym}
use mathlib.Core.Bool.{Bool, ◌&&◌, ◌||◌, false, false≢true, true}
use mathlib.Core.Logic.{◌⊎◌, inl, inr}
use mathlib.Core.List.{List, [], ◌∷◌}
use Prim.Native.Nat.{◌<◌, pred, suc, zero, ℕ}
use native.Mathlib.Omega.{arith}
use lib.Dec.{eqb}
use lib.ListN.{get_or, length}
use borrow.Author.Tests.{eq-eqb, eqb-true}
use Rattle.rules.specs.declared.Complex.{Complex}
use Rattle.rules.specs.declared.Venue.{Venue}
use Rattle.rules.specs.Base.{held, place_where}
use Rattle.rules.specs.Words.{complex_at, is_complex_of, no_complex}
use Rattle.rules.specs.Standing.{find_complex, has_leg}
use Rattle.rules.specs.Complex.{complex_place, rests_complex}
use Rattle.rules.proofs.Filling.{cx, held-fits_c}
use Rattle.rules.proofs.Tests.{and_l, and_r}

-- The first place -----------------------------------------------------------------------------

-- the first place that passes a test passes it
pub where-passes : {A : Type 0} (d : A) (p : A → Bool) (l : List A) → place_where p l < length l → p (get_or l (place_where p l) d) ≡ true
unfolding place_where
where-passes d p [] h = absurd (omega arith)
where-passes d p (x ∷ l) h = go (p x) refl h (where-passes d p l)
  where
    go : (b : Bool) → p x ≡ b → (if b then 0 else suc (place_where p l)) < suc (length l) → (place_where p l < length l → p (get_or l (place_where p l) d) ≡ true) →
        p (get_or (x ∷ l) (if b then 0 else suc (place_where p l)) d) ≡ true
    go true e q ih = e
    go false e q ih = ih (omega arith)

-- a place that passes a test: the first such is there
pub where-fits : {A : Type 0} (d : A) (p : A → Bool) (l : List A) (j : ℕ) → j < length l → p (get_or l j d) ≡ true → place_where p l < length l
unfolding place_where
where-fits d p [] j f h = absurd (omega arith)
where-fits d p (x ∷ l) zero f h = rw h (omega arith)
where-fits d p (x ∷ l) (suc j) f h = go (p x) (where-fits d p l j (omega arith) h)
  where
    go : (b : Bool) → place_where p l < length l → (if b then 0 else suc (place_where p l)) < suc (length l)
    go true h = omega arith
    go false h = omega arith

-- A resting complex order ---------------------------------------------------------------------

-- a resting complex order is found by its id, and what is found rests
pub rests-in : (v : Venue) (j : ℕ) → held (cx v j).quantity ≡ true → rests_complex v (cx v j).id ≡ true
unfolding rests_complex complex_place complex_at
rests-in v j h =
    where-passes no_complex (is_complex_of (cx v j).id) v.complex
    (where-fits no_complex (is_complex_of (cx v j).id) v.complex j (held-fits_c v.complex j h) (unfold is_complex_of in (rw (h, eq-eqb (cx v j).id (cx v j).id refl))))

pub record Rests (v : Venue) (id : ℕ) : Type 0 where
  pub at : ℕ
  pub holds : held (cx v at).quantity ≡ true
  pub is : (cx v at).id ≡ id

pub rests-out : (v : Venue) (id : ℕ) → rests_complex v id ≡ true → Rests v id
unfolding rests_complex complex_place is_complex_of complex_at
rests-out v id h =
    let j = place_where (is_complex_of id) v.complex in
    record { at = j; holds = and_l (held (cx v j).quantity) (eqb (cx v j).id id) h; is = eqb-true (cx v j).id id (and_r (held (cx v j).quantity) (eqb (cx v j).id id) h) }

-- the parent that is found rests
pub record Found (cs : List Complex) (id : ℕ) : Type 0 where
  pub at : ℕ
  pub fits : at < length cs
  pub there : get_or cs at no_complex ≡ find_complex id cs
  pub is : (find_complex id cs).id ≡ id

pub find_at : (id : ℕ) (cs : List Complex) → held (find_complex id cs).quantity ≡ true → Found cs id
unfolding find_complex is_complex_of
find_at id [] h = absurd (false≢true h)
find_at id (c ∷ cs) h = go (held c.quantity && eqb c.id id) refl h (find_at id cs)
  where
    go : (b : Bool) → (held c.quantity && eqb c.id id) ≡ b → held (if b then c else find_complex id cs).quantity ≡ true →
        (held (find_complex id cs).quantity ≡ true → Found cs id) → Found (c ∷ cs) id
    go true e t ih = record { at = 0; fits = omega arith; there = rw e; is = rw e (eqb-true c.id id (and_r (held c.quantity) (eqb c.id id) e)) }
    go false e t ih = let x = ih t in record { at = suc x.at; fits = (let y = x.fits in omega arith); there = rw e x.there; is = rw e x.is }

-- the first order of an id is at its only place
pub place_is : (cs : List Complex) (j : ℕ) → j < length cs → held (get_or cs j no_complex).quantity ≡ true →
    ((i : ℕ) → held (get_or cs i no_complex).quantity ≡ true → (get_or cs i no_complex).id ≡ (get_or cs j no_complex).id → i ≡ j) →
    (place_where (is_complex_of (get_or cs j no_complex).id) cs ≡ j) × (find_complex (get_or cs j no_complex).id cs ≡ get_or cs j no_complex)
unfolding place_where find_complex is_complex_of
place_is [] j f h u = absurd (omega arith)
place_is (c ∷ cs) zero f h u = (rw (h, eq-eqb c.id c.id refl), rw (h, eq-eqb c.id c.id refl))
place_is (c ∷ cs) (suc j) f h u =
    let ih = place_is cs j (omega arith) h (λ i q e. ap pred (u (suc i) q e)) in
    go (held c.quantity && eqb c.id (get_or cs j no_complex).id) refl ih.0 ih.1
  where
    go : (b : Bool) → (held c.quantity && eqb c.id (get_or cs j no_complex).id) ≡ b →
        place_where (is_complex_of (get_or cs j no_complex).id) cs ≡ j → find_complex (get_or cs j no_complex).id cs ≡ get_or cs j no_complex →
        ((if b then 0 else suc (place_where (is_complex_of (get_or cs j no_complex).id) cs)) ≡ suc j)
        × ((if b then c else find_complex (get_or cs j no_complex).id cs) ≡ get_or cs j no_complex)
    go true e p q =
        let z = u 0 (and_l (held c.quantity) _ e) (eqb-true c.id (get_or cs j no_complex).id (and_r (held c.quantity) _ e)) in absurd (omega arith)
    go false e p q = (ap suc p, q)

-- Legs ----------------------------------------------------------------------------------------

-- side d of series s is a leg of c
abbrev pub LegOf : Complex → ℕ → ℕ → Type 0
LegOf c s d = ((s ≡ c.series1) × (d ≡ c.side1)) ⊎ ((s ≡ c.series2) × (d ≡ c.side2))

pub leg-series : (c : Complex) (s d : ℕ) → LegOf c s d → (s ≡ c.series1) ⊎ (s ≡ c.series2)
leg-series c s d (inl h) = inl h.0
leg-series c s d (inr h) = inr h.0

pub leg-out : (c : Complex) (s d : ℕ) → has_leg c s d ≡ true → LegOf c s d
unfolding has_leg
leg-out c s d h = go (eqb c.series1 s && eqb c.side1 d) refl h
  where
    go : (b : Bool) → (eqb c.series1 s && eqb c.side1 d) ≡ b → (b || (eqb c.series2 s && eqb c.side2 d)) ≡ true → LegOf c s d
    go true e x = inl (sym (eqb-true c.series1 s (and_l _ (eqb c.side1 d) e)), sym (eqb-true c.side1 d (and_r (eqb c.series1 s) _ e)))
    go false e x = inr (sym (eqb-true c.series2 s (and_l _ (eqb c.side2 d) x)), sym (eqb-true c.side2 d (and_r (eqb c.series2 s) _ x)))

pub leg-in : (c : Complex) (s d : ℕ) → LegOf c s d → has_leg c s d ≡ true
unfolding has_leg
leg-in c s d (inl h) = rw (eq-eqb c.series1 s (sym h.0), eq-eqb c.side1 d (sym h.1))
leg-in c s d (inr h) = rw (eq-eqb c.series2 s (sym h.0), eq-eqb c.side2 d (sym h.1)) (go (eqb c.series1 s && eqb c.side1 d))
  where
    go : (b : Bool) → (b || true) ≡ true
    go true = refl
    go false = refl
