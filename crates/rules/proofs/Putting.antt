-- An order put into a free place of a book whose ids are all lower.
use mathlib.Core.Path.{◌∙◌, ◌≡◌, ap, subst, sym}
use mathlib.Core.Bool.{true}
use mathlib.Core.List.{List}
use Prim.Native.Nat.{◌<◌, ◌≤◌, ℕ}
use native.Mathlib.Decide.{ℕ_discrete}
use native.Mathlib.Omega.{arith}
use lib.ListN.{get_or, length, set}
use lib.Seq.{get_or-set_other, get_or-set_same}
use Rattle.rules.specs.Base.{held}

module _ {A : Type 0} (none : A) (id quantity : A → ℕ) (l : List A) (i : ℕ) (o : A) where
  abbrev put : List A
  put = set l i o

  abbrev Held : List A → ℕ → Type 0
  Held b n = held (quantity (get_or b n none)) ≡ true

  module _ (fits : i < length l) (new : (n : ℕ) → Held l n → id (get_or l n none) < id o) where
    -- a held order is the new one, or an old one with a lower id
    data Who (n : ℕ) : Type 0 where
      new-one : n ≡ i → get_or put n none ≡ o → Who n
      old-one : Held l n → get_or put n none ≡ get_or l n none → id (get_or l n none) < id o → Who n

    who : (n : ℕ) → Held put n → Who n
    who n h = go (ℕ_discrete n i)
      where
        go : Dec (n ≡ i) → Who n
        go (yes e) = new-one e (rw (e, get_or-set_same l i o none fits))
        go (no ne) =
            let s = get_or-set_other l i n o none ne in
            let h' = subst (λ (x : A). held (quantity x) ≡ true) s h in
            old-one h' s (new n h')

    same_id : {a b : A} → a ≡ b → id a ≡ id b
    same_id e = ap id e

    pub put_alone : ((a b : ℕ) → Held l a → Held l b → id (get_or l a none) ≡ id (get_or l b none) → a ≡ b) →
        (a b : ℕ) → Held put a → Held put b → id (get_or put a none) ≡ id (get_or put b none) → a ≡ b
    put_alone alone a b h k = go (who a h) (who b k)
      where
        go : Who a → Who b → id (get_or put a none) ≡ id (get_or put b none) → a ≡ b
        go (new-one p x) (new-one q y) e = p ∙ sym q
        go (new-one p x) (old-one h y m) e = let z = sym (same_id x) ∙ e ∙ same_id y in absurd (omega arith)
        go (old-one h x m) (new-one q y) e = let z = sym (same_id x) ∙ e ∙ same_id y in absurd (omega arith)
        go (old-one h x m) (old-one k y n) e = alone a b h k (sym (same_id x) ∙ e ∙ same_id y)

    -- the ids rise, where the new order's place is after all held ones
    pub put-rises : ((n : ℕ) → Held l n → n < i) → ((a b : ℕ) → a < b → Held l a → Held l b → id (get_or l a none) < id (get_or l b none)) →
        (a b : ℕ) → a < b → Held put a → Held put b → id (get_or put a none) < id (get_or put b none)
    put-rises after rises a b lt h k = go (who a h) (who b k)
      where
        go : Who a → Who b → id (get_or put a none) < id (get_or put b none)
        go (new-one p x) (new-one q y) = absurd (omega arith)
        go (new-one p x) (old-one h y m) = let z = after b h in absurd (omega arith)
        go (old-one h x m) (new-one q y) = let z = same_id x in let w = same_id y in omega arith
        go (old-one h x m) (old-one k y n) = let z = same_id x in let w = same_id y in let r = rises a b lt h k in omega arith

    -- no id is above the new one's
    pub put-most : (a : ℕ) → Held put a → id (get_or put a none) ≤ id o
    put-most a h = go (who a h)
      where
        go : Who a → id (get_or put a none) ≤ id o
        go (new-one p x) = let z = same_id x in omega arith
        go (old-one h x m) = let z = same_id x in omega arith

    -- its id is its own
    pub put-new : (a : ℕ) → Held put a → id (get_or put a none) ≡ id o → get_or put a none ≡ o
    put-new a h e = go (who a h)
      where
        go : Who a → get_or put a none ≡ o
        go (new-one p x) = x
        go (old-one h x m) = let z = sym (same_id x) ∙ e in absurd (omega arith)

    -- and a lower one is an old order's
    pub put-old : (y a : ℕ) → y < id o → Held put a → id (get_or put a none) ≡ y → Held l a × (get_or put a none ≡ get_or l a none)
    put-old y a lt h e = go (who a h)
      where
        go : Who a → Held l a × (get_or put a none ≡ get_or l a none)
        go (new-one p x) = let z = sym (same_id x) ∙ e in absurd (omega arith)
        go (old-one h x m) = (h, x)

    -- whatever holds of the new order and of the old ones
    pub put-each : (P : A → Type 0) → P o → ((a : ℕ) → Held l a → P (get_or l a none)) → (a : ℕ) → Held put a → P (get_or put a none)
    put-each P n old a h = go (who a h)
      where
        go : Who a → P (get_or put a none)
        go (new-one p x) = subst P (sym x) n
        go (old-one h x m) = subst P (sym x) (old a h)
