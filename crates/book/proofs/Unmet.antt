-- Where the best price of the other side is not reached, nobody is met: every resting order has a price and shows some size.
use Rattle.std.specs.Prelude.{if◌then◌else◌}
use mathlib.Core.Path.{◌≡◌, refl, sym, ◌∙◌}
use mathlib.Core.Bool.{true, false, not, ◌&&◌, ◌||◌, true≢false}
use mathlib.Core.List.{List}
use Prim.Native.Nat.{ℕ, ◌-◌, ◌<◌}
use native.Mathlib.Omega.{arith}
use native.Mathlib.Decide.{dec_lt, ℕ_discrete}
use borrow.Author.Tests.{leb-true, lt-ltb, le-leb, eq-eqb, ne_eqb}
use lib.Dec.{ltb, leb, eqb}
use lib.ListN.{get_or}
use Rattle.rules.specs.declared.Regular.{Regular}
use Rattle.rules.specs.Base.{held, Choice, nobody, picked, first}
use Rattle.rules.specs.Words.{opposite, no_regular}
use Rattle.rules.specs.Prices.{better, rests_at, reaches, shown_size, best_in}
use Rattle.rules.specs.Order.{is_met, price_then_id}
use Rattle.rules.specs.Generation.{reaches_any}
use Rattle.rules.proofs.Tests.{and_l, and_r, held-pos, pos-held}
use Rattle.rules.proofs.Better.{best-best}
use Rattle.rules.proofs.Sizes.{rests-shows, rests-held}
use Rattle.rules.proofs.Picking.{Chosen, first-chosen}
use Rattle.places.specs.Layout.{Orderly}

-- a price that reaches q reaches what is not worse than q
reaches-past : (d p q b : ℕ) → held q ≡ true → reaches d p q ≡ true → (better (opposite d) q b ≡ true → ⊥) → reaches_any d p b ≡ true
unfolding reaches_any reaches better opposite
reaches-past d p q b h = go (ℕ_discrete d 0)
  where
    offers : leb q p ≡ true → ((held q && (not (held b) || ltb q b)) ≡ true → ⊥) → Dec (0 < b) → Dec (q < b) → (held b && leb b p) ≡ true
    offers r n (no x) y = let z : b ≡ 0 = omega arith in absurd (n (rw (h, z)))
    offers r n (yes x) (yes y) = absurd (n (rw (h, pos-held b x, lt-ltb q b y)))
    offers r n (yes x) (no y) = let z = leb-true q p r in rw (pos-held b x, le-leb b p (omega arith))

    bids : leb p q ≡ true → (ltb b q ≡ true → ⊥) → Dec (b < q) → (held b && leb p b) ≡ true
    bids r n (yes y) = absurd (n (lt-ltb b q y))
    bids r n (no y) =
        let x = held-pos q h in
        let z = leb-true p q r in
        rw (pos-held b (omega arith), le-leb p b (omega arith))

    go : Dec (d ≡ 0) → (if eqb d 0 then leb q p else leb p q) ≡ true →
        ((if eqb (1 - d) 0 then ltb b q else (held q && (not (held b) || ltb q b))) ≡ true → ⊥) → (held b && (if eqb d 0 then leb b p else leb p b)) ≡ true
    go (yes e) r n =
        let f : eqb (1 - d) 0 ≡ false = ne_eqb (1 - d) 0 (λ z. omega arith) in
        rw (eq-eqb d 0 e) (offers (rw (eq-eqb d 0 e) at r) (λ z. n (rw f z)) (dec_lt 0 b) (dec_lt q b))
    go (no e) r n =
        let f : eqb (1 - d) 0 ≡ true = eq-eqb (1 - d) 0 (omega arith) in
        rw (ne_eqb d 0 e) (bids (rw (ne_eqb d 0 e) at r) (λ z. n (rw f z)) (dec_lt b q))

module _ (s d p : ℕ) (os : List Regular) (in_order : Orderly os) (some : (i : ℕ) → held (get_or os i no_regular).quantity ≡ true → held (shown_size (get_or os i no_regular)) ≡ true)
    (off : reaches_any d p (best_in s (opposite d) os) ≡ false) where
  not-met : (i : ℕ) → is_met s d p (get_or os i no_regular) ≡ true → ⊥
  unfolding is_met
  not-met i h =
      let m = get_or os i no_regular in
      let r : rests_at s (opposite d) m ≡ true = and_l (rests_at s (opposite d) m) (reaches d p m.price) h in
      let t : reaches d p m.price ≡ true = and_r (rests_at s (opposite d) m) (reaches d p m.price) h in
      let q = rests-held s (opposite d) m r in
      true≢false
      (sym (reaches-past d p m.price (best_in s (opposite d) os) (in_order.priced i q) t
      (best-best s (opposite d) os i (rests-shows s (opposite d) m (some i q) r))) ∙ off)

  pub unmet : first (is_met s d p) price_then_id os ≡ nobody
  unmet = go (first (is_met s d p) price_then_id os) (first-chosen no_regular (is_met s d p) price_then_id os)
    where
      go : (x : Choice Regular) → Chosen no_regular (is_met s d p) os x → x ≡ nobody
      go nobody c = refl
      go (picked i m) c = absurd (not-met i (rw c.at c.is))
