-- Lists of records: what is kept of one list after another, what all of them are, and rows that rise.
use Rattle.std.specs.Prelude.{if◌then◌else◌}
use mathlib.Core.Path.{◌≡◌, refl, ap}
use mathlib.Core.Bool.{Bool, true, false, ◌||◌}
use mathlib.Core.List.{List, [], ◌∷◌, ◌++◌, map}
use Prim.Native.Nat.{ℕ, suc, ◌≤◌}
use native.Mathlib.Omega.{arith}
use lib.Dec.{ltb}
use lib.ListN.{length}
use borrow.Author.Tests.{eq-eqb, lt-ltb}
use Rattle.rules.specs.Base.{all, keep}
use Rattle.rules.proofs.Tests.{and_in, and_l, and_r}
use Rattle.sets.specs.Set.{in_order, sort_key, may_follow, part}

-- each of a list is so
abbrev pub Each : {A : Type 0} → (A → Type 0) → List A → Type 0
Each P [] = Unit {0}
Each P (x ∷ xs) = P x × Each P xs

pub each_append : {A : Type 0} (P : A → Type 0) (a b : List A) → Each P a → Each P b → Each P (a ++ b)
each_append P [] b h k = k
each_append P (x ∷ a) b h k = (h.0, each_append P a b h.1 k)

pub each_map : {A B : Type 0} (P : B → Type 0) (f : A → B) (l : List A) → Each (λ x. P (f x)) l → Each P (map f l)
each_map P f [] h = tt
each_map P f (x ∷ l) h = (h.0, each_map P f l h.1)

pub each_more : {A : Type 0} (P Q : A → Type 0) → ((x : A) → P x → Q x) → (l : List A) → Each P l → Each Q l
each_more P Q f [] h = tt
each_more P Q f (x ∷ l) h = (f x h.0, each_more P Q f l h.1)

pub every : {A : Type 0} (P : A → Type 0) → ((x : A) → P x) → (l : List A) → Each P l
every P f [] = tt
every P f (x ∷ l) = (f x, every P f l)

-- each of a list is so, and so
pub each_both : {A : Type 0} (P Q : A → Type 0) (l : List A) → Each P l → Each Q l → Each (λ x. P x × Q x) l
each_both P Q [] h k = tt
each_both P Q (x ∷ l) h k = ((h.0, k.0), each_both P Q l h.1 k.1)

-- What is kept --------------------------------------------------------------------------------

module _ {A : Type 0} (f : A → Bool) where
  pub keep_append : (a b : List A) → keep f (a ++ b) ≡ keep f a ++ keep f b
  unfolding keep
  keep_append [] b = refl
  keep_append (x ∷ a) b = go (f x) (keep_append a b)
    where
      go : (t : Bool) → keep f (a ++ b) ≡ keep f a ++ keep f b → (if t then x ∷ keep f (a ++ b) else keep f (a ++ b)) ≡ (if t then x ∷ keep f a else keep f a) ++ keep f b
      go true ih = ap (λ (l : List A). x ∷ l) ih
      go false ih = ih

  pub keep-none : (l : List A) → Each (λ x. f x ≡ false) l → keep f l ≡ []
  unfolding keep
  keep-none [] h = refl
  keep-none (x ∷ l) h = rw h.0 (keep-none l h.1)

  pub keep-every : (l : List A) → Each (λ x. f x ≡ true) l → keep f l ≡ l
  unfolding keep
  keep-every [] h = refl
  keep-every (x ∷ l) h = rw h.0 (ap (λ (m : List A). x ∷ m) (keep-every l h.1))

  pub keep-few : (l : List A) → length (keep f l) ≤ length l
  unfolding keep
  keep-few [] = omega arith
  keep-few (x ∷ l) = go (f x) (keep-few l)
    where
      go : (t : Bool) → length (keep f l) ≤ length l → length (if t then x ∷ keep f l else keep f l) ≤ suc (length l)
      go true h = omega arith
      go false h = omega arith

  pub all_append : (a b : List A) → all f a ≡ true → all f b ≡ true → all f (a ++ b) ≡ true
  unfolding all
  all_append [] b h k = k
  all_append (x ∷ a) b h k = and_in (f x) (all f (a ++ b)) (and_l (f x) (all f a) h) (all_append a b (and_r (f x) (all f a) h) k)

  pub all-each : (l : List A) → Each (λ x. f x ≡ true) l → all f l ≡ true
  unfolding all
  all-each [] h = refl
  all-each (x ∷ l) h = and_in (f x) (all f l) h.0 (all-each l h.1)

-- each of a list is told as it was made
pub map_back : {A B : Type 0} (f : A → B) (g : B → A) (l : List A) → Each (λ x. g (f x) ≡ x) l → map g (map f l) ≡ l
map_back f g [] h = refl
map_back f g (x ∷ l) h = rw h.0 (ap (λ m. x ∷ m) (map_back f g l h.1))

or-true : (a : Bool) → (a || true) ≡ true
or-true true = refl
or-true false = refl

-- Rows ----------------------------------------------------------------------------------------

-- a row of records of one part or later ones
abbrev pub From : (k : ℕ) → List (List ℕ) → Type 0
From k = Each (λ r. k ≤ part r)

abbrev pub Of : (k : ℕ) → List (List ℕ) → Type 0
Of k = Each (λ r. part r ≡ k)

-- a row, and one after it whose records may stand after each of the first
pub order-append : (a b : List (List ℕ)) → Each (λ q. Each (λ r. may_follow q r ≡ true) b) a → in_order a ≡ true → in_order b ≡ true → in_order (a ++ b) ≡ true
unfolding in_order
order-append [] b h x y = y
order-append (q ∷ []) [] h x y = refl
order-append (q ∷ []) (r ∷ b) h x y = and_in (may_follow q r) (in_order (r ∷ b)) h.0.0 y
order-append (q ∷ r ∷ a) b h x y =
    and_in (may_follow q r) (in_order (r ∷ a ++ b)) (and_l (may_follow q r) (in_order (r ∷ a)) x) (order-append (r ∷ a) b h.1 (and_r (may_follow q r) (in_order (r ∷ a)) x) y)

-- a row of one part, and a row of later ones after it
pub order-join : (k : ℕ) (a b : List (List ℕ)) → Of k a → From (suc k) b → in_order a ≡ true → in_order b ≡ true → in_order (a ++ b) ≡ true
order-join k a b h l x y = order-append a b
    (each_more (λ q. part q ≡ k) (λ q. Each (λ r. may_follow q r ≡ true) b)
    (λ q e. each_more (λ r. suc k ≤ part r) (λ r. may_follow q r ≡ true) (later q e) b l) a h) x y
  where
    later : (q : List ℕ) → part q ≡ k → (r : List ℕ) → suc k ≤ part r → may_follow q r ≡ true
    later q e r le = unfold may_follow in (rw (lt-ltb (part q) (part r) (omega arith)))

-- numbers that rise, from `low` on
abbrev pub Rising : {A : Type 0} → (A → ℕ) → (low : ℕ) → List A → Type 0
Rising f low [] = Unit {0}
Rising f low (x ∷ l) = (low ≤ f x) × Rising f (suc (f x)) l

pub rising-lower : {A : Type 0} (f : A → ℕ) (low high : ℕ) (l : List A) → low ≤ high → Rising f high l → Rising f low l
rising-lower f low high [] le h = tt
rising-lower f low high (x ∷ l) le h = (omega arith, h.1)

pub rising-map : {A B : Type 0} (f : A → ℕ) (m : B → ℕ) (g : A → B) (low : ℕ) (l : List A) → Each (λ x. m (g x) ≡ f x) l → Rising f low l → Rising m low (map g l)
rising-map f m g low [] e h = tt
rising-map f m g low (x ∷ l) e h = rw e.0 ((h.0, rising-map f m g (suc (f x)) l e.1 h.1))

-- a part whose marks rise is in order
pub rising-order : (k low : ℕ) (l : List (List ℕ)) → Of k l → Rising sort_key low l → in_order l ≡ true
unfolding in_order
rising-order k low [] h u = refl
rising-order k low (q ∷ []) h u = refl
rising-order k low (q ∷ r ∷ l) h u = and_in (may_follow q r) (in_order (r ∷ l)) (risen h.0 h.1.0 u.1.0) (rising-order k (suc (sort_key q)) (r ∷ l) h.1 u.1)
  where
    risen : part q ≡ k → part r ≡ k → suc (sort_key q) ≤ sort_key r → may_follow q r ≡ true
    risen e d lt = unfold may_follow in (rw (e, d, eq-eqb k k refl, lt-ltb (sort_key q) (sort_key r) lt, or-true (ltb k k)))
