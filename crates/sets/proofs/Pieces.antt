-- A row in order is its pieces one after another: by part, and generations by series.
use mathlib.Core.Path.{◌≡◌, refl, sym, ap, ◌∙◌}
use mathlib.Core.Bool.{Bool, true, false, ◌&&◌, ◌||◌, true≢false}
use mathlib.Core.List.{List, [], ◌∷◌, ◌++◌}
use Prim.Native.Nat.{ℕ, zero, suc, ◌≤◌, ◌<◌, ◌+◌}
use native.Mathlib.Omega.{arith}
use lib.Dec.{eqb, leb, ltb}
use borrow.Author.Tests.{eq-eqb, eqb-false, eqb-true, le-ltb, ltb-true, ne_eqb}
use Rattle.rules.specs.Base.{keep}
use Rattle.rules.proofs.Tests.{and_in, and_l, and_r}
use Rattle.sets.specs.Set.{generation_told, in_order, sort_key, may_follow, part}
use Rattle.sets.proofs.Lists.{Each, Of, Rising, every}
use Rattle.sets.proofs.Parts.{whether}

-- numbers that do not fall, from `low` on
abbrev pub Climbs : {A : Type 0} → (A → ℕ) → (low : ℕ) → List A → Type 0
Climbs key low [] = Unit {0}
Climbs key low (x ∷ l) = (low ≤ key x) × Climbs key (key x) l

module _ {A : Type 0} (key : A → ℕ) where
  -- those of each of m numbers, from k on
  abbrev pub pieces : (k m : ℕ) → List A → List A
  pieces k zero l = []
  pieces k (suc m) l = keep (λ x. eqb (key x) k) l ++ pieces (suc k) m l

  -- none of a lower number
  skipped : (k m : ℕ) (x : A) (l : List A) → key x < k → pieces k m (x ∷ l) ≡ pieces k m l
  unfolding keep
  skipped k zero x l lt = refl
  skipped k (suc m) x l lt = rw (ne_eqb (key x) k (λ e. omega arith), skipped (suc k) m x l (omega arith))

  above : (k low : ℕ) (l : List A) → k < low → Climbs key low l → keep (λ x. eqb (key x) k) l ≡ []
  unfolding keep
  above k low [] lt h = refl
  above k low (x ∷ l) lt h = rw (ne_eqb (key x) k (λ e. omega arith)) (above k (key x) l (omega arith) h.1)

  -- the first of all stands first
  fronted : (k m : ℕ) (x : A) (l : List A) → k ≤ key x → key x < k + m → Climbs key (key x) l → pieces k m (x ∷ l) ≡ x ∷ pieces k m l
  unfolding keep
  fronted k zero x l le lt h = absurd (omega arith)
  fronted k (suc m) x l le lt h =
      whether (key x) k (λ e. rw (eq-eqb (key x) k e, skipped (suc k) m x l (omega arith)))
      (λ n. let no = eqb-false (key x) k n in rw (n, above k (key x) l (omega arith) h, fronted (suc k) m x l (omega arith) (omega arith) h))

  nothing : (k m : ℕ) → pieces k m [] ≡ []
  unfolding keep
  nothing k zero = refl
  nothing k (suc m) = nothing (suc k) m

  pub pieces_are : (k m low : ℕ) (l : List A) → k ≤ low → Climbs key low l → Each (λ x. key x < k + m) l → pieces k m l ≡ l
  pieces_are k m low [] le h b = nothing k m
  pieces_are k m low (x ∷ l) le h b = fronted k m x l (omega arith) b.0 h.1 ∙ ap (λ (r : List A). x ∷ r) (pieces_are k m (key x) l (omega arith) h.1 b.1)

-- Order ---------------------------------------------------------------------------------------

pub order-split : (a b : List (List ℕ)) → in_order (a ++ b) ≡ true → (in_order a ≡ true) × (in_order b ≡ true)
unfolding in_order
order-split [] b h = (refl, h)
order-split (q ∷ []) [] h = (refl, refl)
order-split (q ∷ []) (r ∷ b) h = (refl, and_r (may_follow q r) (in_order (r ∷ b)) h)
order-split (q ∷ r ∷ a) b h =
    let z = order-split (r ∷ a) b (and_r (may_follow q r) (in_order (r ∷ a ++ b)) h) in
    (and_in (may_follow q r) (in_order (r ∷ a)) (and_l (may_follow q r) (in_order (r ∷ a ++ b)) h) z.0, z.1)

-- what one record after another says
or-out : {P : Type 0} (a b : Bool) → (a || b) ≡ true → (a ≡ true → P) → (b ≡ true → P) → P
or-out true b h f g = f refl
or-out false b h f g = g h

pub follow-part : (q r : List ℕ) → may_follow q r ≡ true → part q ≤ part r
unfolding may_follow
follow-part q r h =
    or-out (ltb (part q) (part r)) _ h (λ e. (let z = ltb-true (part q) (part r) e in omega arith))
    (λ e. (let z = eqb-true (part q) (part r) (and_l (eqb (part q) (part r)) _ e) in omega arith))

pub follow-sort-key : (k : ℕ) (q r : List ℕ) → part q ≡ k → part r ≡ k → may_follow q r ≡ true → (sort_key q ≤ sort_key r) × (eqb k 4 ≡ false → sort_key q < sort_key r)
unfolding may_follow
follow-sort-key k q r a b h =
    let z = rw (a, b, le-ltb k k (omega arith), eq-eqb k k refl) at h in
    or-out (ltb (sort_key q) (sort_key r)) (eqb k 4 && eqb (sort_key q) (sort_key r) && leb (generation_told q) (generation_told r)) z
    (λ e. (let x = ltb-true (sort_key q) (sort_key r) e in (omega arith, λ _. x)))
    (λ e.
    let y = and_l (eqb k 4 && eqb (sort_key q) (sort_key r)) (leb (generation_told q) (generation_told r)) e in
    let x = eqb-true (sort_key q) (sort_key r) (and_r (eqb k 4) (eqb (sort_key q) (sort_key r)) y) in
    (omega arith, λ n. absurd (true≢false (sym (and_l (eqb k 4) (eqb (sort_key q) (sort_key r)) y) ∙ n))))

-- a row in order does not fall in a number that each record's follower has no less of
order-climbs : (P : List ℕ → Type 0) (key : List ℕ → ℕ) → ((q r : List ℕ) → P q → P r → may_follow q r ≡ true → key q ≤ key r) →
    (low : ℕ) (l : List (List ℕ)) → Each P l → Each (λ r. low ≤ key r) l → in_order l ≡ true → Climbs key low l
unfolding in_order
order-climbs P key f low [] p b h = tt
order-climbs P key f low (q ∷ l) p b h = (b.0, after q l p.0 p.1 h)
  where
    after : (q : List ℕ) (l : List (List ℕ)) → P q → Each P l → in_order (q ∷ l) ≡ true → Climbs key (key q) l
    after q [] x p h = tt
    after q (r ∷ l) x p h = (f q r x p.0 (and_l (may_follow q r) (in_order (r ∷ l)) h), after r l p.0 p.1 (and_r (may_follow q r) (in_order (r ∷ l)) h))

pub parts-climb : (low : ℕ) (l : List (List ℕ)) → Each (λ r. low ≤ part r) l → in_order l ≡ true → Climbs part low l
parts-climb low l b h = order-climbs (λ _. Unit {0}) part (λ q r _ _ e. follow-part q r e) low l (every (λ _. Unit {0}) (λ _. tt) l) b h

pub sort-keys-climb : (k : ℕ) (l : List (List ℕ)) → Of k l → in_order l ≡ true → Climbs sort_key 0 l
sort-keys-climb k l o h = order-climbs (λ r. part r ≡ k) sort_key (λ q r a b e. (follow-sort-key k q r a b e).0) 0 l o (every (λ r. 0 ≤ sort_key r) (λ r. omega arith) l) h

-- the marks of other parts rise
pub sort-keys-rise : (k low : ℕ) → eqb k 4 ≡ false → (l : List (List ℕ)) → Of k l → Each (λ r. low ≤ sort_key r) l → in_order l ≡ true → Rising sort_key low l
unfolding in_order
sort-keys-rise k low n [] o b h = tt
sort-keys-rise k low n (q ∷ l) o b h = (b.0, after q l o.0 o.1 h)
  where
    after : (q : List ℕ) (l : List (List ℕ)) → part q ≡ k → Of k l → in_order (q ∷ l) ≡ true → Rising sort_key (suc (sort_key q)) l
    after q [] x o h = tt
    after q (r ∷ l) x o h = ((follow-sort-key k q r x o.0 (and_l (may_follow q r) (in_order (r ∷ l)) h)).1 n, after r l o.0 o.1 (and_r (may_follow q r) (in_order (r ∷ l)) h))

-- one record at most where the mark is always the same
pub one_at_most : (k : ℕ) → eqb k 4 ≡ false → (q r : List ℕ) (l : List (List ℕ)) → part q ≡ k → part r ≡ k → sort_key q ≡ sort_key r → in_order (q ∷ r ∷ l) ≡ true → ⊥
unfolding in_order
one_at_most k n q r l a b e h = let z = (follow-sort-key k q r a b (and_l (may_follow q r) (in_order (r ∷ l)) h)).1 n in omega arith
