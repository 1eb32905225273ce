-- What is kept of a row of parts: of each part that of its own kind, and of the others nothing.
use mathlib.Core.Path.{◌≡◌, refl, ◌∙◌}
use mathlib.Core.Bool.{Bool, true, false}
use mathlib.Core.List.{List, [], ◌∷◌, ◌++◌, append-nil}
use Prim.Native.Nat.{ℕ, zero, suc, ◌+◌, ◌≤◌, ◌<◌}
use native.Mathlib.Omega.{arith}
use lib.Dec.{eqb}
use lib.ListN.{get_or}
use borrow.Author.Tests.{ne_eqb}
use Rattle.rules.specs.Base.{keep}
use Rattle.rules.specs.Bytes.{kind_field}
use Rattle.rules.proofs.Tests.{or-false-l, or-false-r}
use Rattle.sets.specs.Set.{in_order, of_series, part, tells_complex, tells_edition, tells_generation, tells_legging, tells_regular}
use Rattle.sets.proofs.Lists.{Each, From, Of, each_append, each_more, keep_append, keep-none, order-join}
use Rattle.sets.proofs.Parts.{sort-of}

-- a test of records that only those of part k pass
abbrev pub Only : (k : ℕ) (f : List ℕ → Bool) → Type 0
Only k f = (r : List ℕ) (j : ℕ) → part r ≡ j → eqb j k ≡ false → f r ≡ false

pub editions-only : Only 1 tells_edition
editions-only r j e n = (sort-of r j e).0 ∙ n

pub regulars-only : Only 2 tells_regular
regulars-only r j e n = or-false-l (tells_regular r) (tells_complex r) ((sort-of r j e).1 ∙ n)

pub complexes-only : Only 2 tells_complex
complexes-only r j e n = or-false-r (tells_regular r) (tells_complex r) ((sort-of r j e).1 ∙ n)

pub leggings-only : Only 3 tells_legging
leggings-only r j e n = (sort-of r j e).2 ∙ n

pub generations-only : Only 4 tells_generation
generations-only r j e n = (sort-of r j e).3 ∙ n

pub series-only : (s : ℕ) → Only 4 (of_series s)
unfolding of_series
series-only s r j e n = rw ((sort-of r j e).3 ∙ n)

pub reached-only : Only 5 (λ r. eqb (kind_field r) 84)
reached-only r j e n = (sort-of r j e).4 ∙ n

-- A row of parts ------------------------------------------------------------------------------

-- lists, one after another
abbrev pub flat : {A : Type 0} → List (List A) → List A
flat [] = []
flat (p ∷ ps) = p ++ flat ps

-- the parts of a row, from part j on
abbrev pub Parts : (j : ℕ) → List (List (List ℕ)) → Type 0
Parts j [] = Unit {0}
Parts j (p ∷ ps) = Of j p × Parts (suc j) ps

pub parts_from : (j k : ℕ) (ps : List (List (List ℕ))) → k ≤ j → Parts j ps → From k (flat ps)
parts_from j k [] le h = tt
parts_from j k (p ∷ ps) le h =
    each_append (λ r. k ≤ part r) p (flat ps) (each_more (λ r. part r ≡ j) (λ r. k ≤ part r) (λ r e. omega arith) p h.0)
    (parts_from (suc j) k ps (omega arith) h.1)

-- parts that are each in order
pub parts-order : (j : ℕ) (ps : List (List (List ℕ))) → Parts j ps → Each (λ p. in_order p ≡ true) ps → in_order (flat ps) ≡ true
unfolding in_order
parts-order j [] h o = refl
parts-order j (p ∷ ps) h o = order-join j p (flat ps) h.0 (parts_from (suc j) (suc j) ps (omega arith) h.1) o.0 (parts-order (suc j) ps h.1 o.1)

module _ (k : ℕ) (f : List ℕ → Bool) (only : Only k f) where
  -- nothing of another part is kept
  none : (j : ℕ) → (j ≡ k → ⊥) → (p : List (List ℕ)) → Of j p → keep f p ≡ []
  none j n p h = keep-none f p (each_more (λ r. part r ≡ j) (λ r. f r ≡ false) (λ r e. only r j e (ne_eqb j k n)) p h)

  later : (j : ℕ) → k < j → (ps : List (List (List ℕ))) → Parts j ps → keep f (flat ps) ≡ []
  later j lt [] h = unfold keep in refl
  later j lt (p ∷ ps) h = rw (keep_append f p (flat ps), none j (λ e. omega arith) p h.0, later (suc j) (omega arith) ps h.1)

  -- and of its own part what is there
  pub parts-kept : (i j : ℕ) → j + i ≡ k → (ps : List (List (List ℕ))) → Parts j ps → keep f (flat ps) ≡ keep f (get_or ps i [])
  parts-kept i j n [] h = refl
  parts-kept zero j n (p ∷ ps) h = rw (keep_append f p (flat ps), later (suc j) (omega arith) ps h.1, append-nil (keep f p))
  parts-kept (suc i) j n (p ∷ ps) h =
      rw (keep_append f p (flat ps), none j (λ e. omega arith) p h.0, parts-kept i (suc j) (omega arith) ps h.1)
