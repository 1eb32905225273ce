-- The ledger: of every id, what is open falls by what the records say of it. `Moves v e`: the effect e upon v does so.
use mathlib.Core.Path.{◌∙◌, ◌≡◌, ap, refl, sym}
use mathlib.Core.Bool.{true}
use mathlib.Core.List.{List, [], ◌++◌}
use Prim.Native.Nat.{◌*◌, ◌+◌, ℕ}
use native.Mathlib.Nat.{mul-add, mul-zero}
use native.Mathlib.Omega.{arith}
use Rattle.rules.specs.declared.Cause.{Cause}
use Rattle.rules.specs.declared.Complex.{Complex}
use Rattle.rules.specs.declared.Legging.{Legging}
use Rattle.rules.specs.declared.Venue.{Venue}
use Rattle.rules.specs.declared.Verdict.{Verdict}
use Rattle.rules.specs.Base.{held}
use Rattle.rules.specs.Words.{with_generations, with_legging, with_regular}
use Rattle.rules.specs.Records.{Report, generated}
use Rattle.rules.specs.Effects.{Effect, ◌⟫◌, nothing, report}
use Rattle.rules.specs.Removal.{remove, remove_of}
use Rattle.rules.specs.Standing.{settle, show_again, verdict}
use Rattle.rules.specs.Generation.{counted, placed}
use Rattle.rules.specs.Sums.{cancelled_of, contracts, crossed_for, open_complex, open_regular, paired, total}
use Rattle.rules.proofs.Adding.{leavers-silent, total-append}
use Rattle.rules.proofs.Again.{again-fewer, again-open}
use Rattle.rules.proofs.Filling.{Fewer, FewerC, SameLegs, cx, fewer-refl, fewer-trans, fewer_c-refl, fewer_c-trans, legs-trans, reg, still-held, still-held_c}

-- Whose id it is ------------------------------------------------------------------------------

-- y is the id of a regular order of series s, and of no other order
pub record RegularId (y s : ℕ) (v : Venue) : Type 0 where
  pub home : (i : ℕ) → held (reg v i).quantity ≡ true → (reg v i).id ≡ y → (reg v i).series ≡ s
  pub alone : (i j : ℕ) → held (reg v i).quantity ≡ true → held (reg v j).quantity ≡ true → (reg v i).id ≡ y → (reg v j).id ≡ y → i ≡ j
  pub none : (j : ℕ) → held (cx v j).quantity ≡ true → (cx v j).id ≡ y → ⊥

-- the id of m is that of a complex order with its legs, and of no other order
pub record ComplexId (m : Complex) (v : Venue) : Type 0 where
  pub home : (j : ℕ) → held (cx v j).quantity ≡ true → (cx v j).id ≡ m.id → SameLegs (cx v j) m
  pub alone : (i j : ℕ) → held (cx v i).quantity ≡ true → held (cx v j).quantity ≡ true → (cx v i).id ≡ m.id → (cx v j).id ≡ m.id → i ≡ j
  pub none : (i : ℕ) → held (reg v i).quantity ≡ true → (reg v i).id ≡ m.id → ⊥

-- both are kept where there are fewer
pub reg-kept : {y s : ℕ} {v w : Venue} → Fewer w.regular v.regular → FewerC w.complex v.complex → RegularId y s v → RegularId y s w
reg-kept f g r = record {
  home = λ i h e. (f.lesser i).series ∙ r.home i (still-held (f.lesser i) h) (sym (f.lesser i).id ∙ e);
  alone = λ i j h k e q. r.alone i j (still-held (f.lesser i) h) (still-held (f.lesser j) k) (sym (f.lesser i).id ∙ e) (sym (f.lesser j).id ∙ q);
  none = λ j h e. r.none j (still-held_c (g.lesser j) h) (sym (g.lesser j).id ∙ e);
}

pub cx-kept : {m : Complex} {v w : Venue} → Fewer w.regular v.regular → FewerC w.complex v.complex → ComplexId m v → ComplexId m w
cx-kept f g r = record {
  home = λ j h e. legs-trans (g.lesser j).legs (r.home j (still-held_c (g.lesser j) h) (sym (g.lesser j).id ∙ e));
  alone = λ i j h k e q. r.alone i j (still-held_c (g.lesser i) h) (still-held_c (g.lesser j) k) (sym (g.lesser i).id ∙ e) (sym (g.lesser j).id ∙ q);
  none = λ i h e. r.none i (still-held (f.lesser i) h) (sym (f.lesser i).id ∙ e);
}

-- The two ledgers -----------------------------------------------------------------------------

-- what the records say of the complex order m: its contracts in each series are its pairs by the leg's ratio, and what is open falls by what
-- was paired, crossed and cancelled
pub record Settles (m : Complex) (v : Venue) (rs : List Report) (w : Venue) : Type 0 where
  pub first : total (contracts m.id m.series1) rs ≡ m.ratio1 * total (paired m.id) rs
  pub second : total (contracts m.id m.series2) rs ≡ m.ratio2 * total (paired m.id) rs
  pub falls : open_complex m.id v.complex ≡
      open_complex m.id w.complex + (total (paired m.id) rs + total (crossed_for m.id) rs + total (cancelled_of m.id) rs)

-- from v to w by the records rs
pub record Moved (v : Venue) (rs : List Report) (w : Venue) : Type 0 where
  pub regular : Fewer w.regular v.regular
  pub complex : FewerC w.complex v.complex
  pub last : w.last ≡ v.last
  pub orders : (y s : ℕ) → RegularId y s v → open_regular y v.regular ≡ open_regular y w.regular + (total (contracts y s) rs + total (cancelled_of y) rs)
  pub complexes : (m : Complex) → ComplexId m v → Settles m v rs w

-- one sum after another, each by the ratio
pub ratio-then : (r a b p q : ℕ) → a ≡ r * p → b ≡ r * q → a + b ≡ r * (p + q)
ratio-then r a b p q h k = rw mul-add (omega arith)

pub moved-trans : {u v w : Venue} {rs qs : List Report} → Moved u rs v → Moved v qs w → Moved u (rs ++ qs) w
moved-trans {rs = rs} {qs} a b = record {
  regular = fewer-trans b.regular a.regular;
  complex = fewer_c-trans b.complex a.complex;
  last = b.last ∙ a.last;
  orders = λ y s r.
      let p = a.orders y s r in
      let q = b.orders y s (reg-kept a.regular a.complex r) in
      rw (total-append (contracts y s) rs qs, total-append (cancelled_of y) rs qs) (omega arith);
  complexes = λ m r.
      let p = a.complexes m r in
      let q = b.complexes m (cx-kept a.regular a.complex r) in
      record {
        first = rw (total-append (contracts m.id m.series1) rs qs, total-append (paired m.id) rs qs) (ratio-then m.ratio1 _ _ _ _ p.first q.first);
        second = rw (total-append (contracts m.id m.series2) rs qs, total-append (paired m.id) rs qs) (ratio-then m.ratio2 _ _ _ _ p.second q.second);
        falls = rw (total-append (paired m.id) rs qs, total-append (crossed_for m.id) rs qs, total-append (cancelled_of m.id) rs qs)
            (let x = p.falls in let y = q.falls in omega arith);
      };
}

-- records that say nothing of quantities
pub record Silent (rs : List Report) : Type 0 where
  pub contracts0 : (y s : ℕ) → total (contracts y s) rs ≡ 0
  pub paired0 : (y : ℕ) → total (paired y) rs ≡ 0
  pub crossed0 : (y : ℕ) → total (crossed_for y) rs ≡ 0
  pub cancelled0 : (y : ℕ) → total (cancelled_of y) rs ≡ 0

-- no contracts and no pairs: by any ratio
pub ratio-none : (r a p : ℕ) → a ≡ 0 → p ≡ 0 → a ≡ r * p
ratio-none r a p h k = rw (k, mul-zero) h

pub moved-silent : {v w : Venue} {rs : List Report} → w.regular ≡ v.regular → w.complex ≡ v.complex → w.last ≡ v.last → Silent rs → Moved v rs w
moved-silent {v} {w} p q e z = record {
  regular = rw p (fewer-refl _);
  complex = rw q (fewer_c-refl _);
  last = e;
  orders = λ y s r. rw (z.contracts0 y s, z.cancelled0 y, ap (open_regular y) p) (omega arith);
  complexes = λ m r. record {
    first = ratio-none m.ratio1 _ _ (z.contracts0 m.id m.series1) (z.paired0 m.id);
    second = ratio-none m.ratio2 _ _ (z.contracts0 m.id m.series2) (z.paired0 m.id);
    falls = rw (z.paired0 m.id, z.crossed0 m.id, z.cancelled0 m.id, ap (open_complex m.id) q) (omega arith);
  };
}

pub silent-nil : Silent []
unfolding total
silent-nil = record { contracts0 = λ y s. refl; paired0 = λ y. refl; crossed0 = λ y. refl; cancelled0 = λ y. refl }

-- Effects -------------------------------------------------------------------------------------

-- an effect from v moves the ledger
abbrev pub Moves : Venue → Effect → Type 0
Moves v e = Moved v e.reports e.venue

pub moves-nothing : (v : Venue) → Moves v (nothing v)
unfolding nothing
moves-nothing v = moved-silent refl refl refl silent-nil

pub moves-then : {v : Venue} (e : Effect) (f : Venue → Effect) → Moves v e → Moves e.venue (f e.venue) → Moves v (e ⟫ f)
unfolding ◌⟫◌
moves-then e f a b = moved-trans a b

pub moves-remove : (f : ℕ → Legging → Verdict) (v : Venue) → Moves v (remove f v)
unfolding remove with_legging contracts paired crossed_for cancelled_of
moves-remove f v = moved-silent refl refl refl (record {
  contracts0 = λ y s. leavers-silent (contracts y s) (λ _ _ _ _. refl) f 0 v.legging;
  paired0 = λ y. leavers-silent (paired y) (λ _ _ _ _. refl) f 0 v.legging;
  crossed0 = λ y. leavers-silent (crossed_for y) (λ _ _ _ _. refl) f 0 v.legging;
  cancelled0 = λ y. leavers-silent (cancelled_of y) (λ _ _ _ _. refl) f 0 v.legging;
})

pub moves-again : (v : Venue) → Moved v [] (show_again v)
unfolding show_again with_regular total
moves-again v = record {
  regular = again-fewer v;
  complex = fewer_c-refl _;
  last = refl;
  orders = λ y s r. rw (again-open v y) (omega arith);
  complexes = λ m r. record { first = sym (mul-zero m.ratio1); second = sym (mul-zero m.ratio2); falls = omega arith };
}

pub moves-settle : (v : Venue) → Moves v (settle v)
unfolding settle
moves-settle v = moved-trans (moves-again v) (moves-remove (verdict (show_again v)) (show_again v))

pub moves-remove_of : (id : ℕ) (c : Cause) (v : Venue) → Moves v (remove_of id c v)
unfolding remove_of
moves-remove_of id c v = moves-remove _ v

pub moves-placed : (number n : ℕ) (l : Legging) (id s d p x q : ℕ) (v : Venue) → Moves v (report (generated id s d p x q) (counted number s (placed n l v)))
unfolding report placed counted with_legging with_generations total contracts paired crossed_for cancelled_of
moves-placed number n l id s d p x q v =
    moved-silent refl refl refl (record { contracts0 = λ _ _. refl; paired0 = λ _. refl; crossed0 = λ _. refl; cancelled0 = λ _. refl })
