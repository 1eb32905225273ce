-- Own prices: of the regular orders of a side and of its legging order. Fills, removals, showing again and closed gaps make none; the best own price is
-- one of them, and none is better where each order shows some size.
use Rattle.std.specs.Prelude.{if◌then◌else◌}
use mathlib.Core.Path.{◌∙◌, ◌≡◌, ap, refl, subst, sym}
use mathlib.Core.Bool.{Bool, false, false≢true, true}
use mathlib.Core.Logic.{◌⊎◌, inl, inr}
use Prim.Native.Nat.{◌<◌, ◌≤◌, ℕ}
use native.Mathlib.Omega.{arith}
use lib.Dec.{eqb, ltb}
use borrow.Author.Tests.{leb-true, ltb-false}
use Rattle.rules.specs.declared.Legging.{Legging}
use Rattle.rules.specs.declared.Regular.{Regular}
use Rattle.rules.specs.declared.Venue.{Venue}
use Rattle.rules.specs.declared.Verdict.{Verdict}
use Rattle.rules.specs.Base.{held}
use Rattle.rules.specs.Words.{is_price, legging_at, no_legging, place_of, regular_at, with_complex, with_legging, with_regular, within}
use Rattle.rules.specs.Prices.{best_in, best_own, best_regular, better, better_of, own_price, rests_at}
use Rattle.rules.specs.Removal.{remove}
use Rattle.rules.specs.Standing.{show_again}
use Rattle.rules.specs.Trading.{fill_complex, fill_regular}
use Rattle.rules.specs.Order.{legging_first}
use Rattle.rules.specs.Places.{close_gaps}
use Rattle.rules.specs.Refusals.{regular_in_range}
use Rattle.rules.proofs.Again.{Shown, again-fewer}
use Rattle.rules.proofs.Better.{best-best, is_false, of_other, own_of}
use Rattle.rules.proofs.Filling.{Lesser, fill-fewer, lesser-refl, lesser-trans, lg, reg, still-held}
use Rattle.rules.proofs.Gaps.{fr, was}
use Rattle.rules.proofs.EffectsLaws.{Lasts}
use Rattle.rules.proofs.Settling.{SameOrGone, stayers-kept}
use Rattle.rules.proofs.Sizes.{best-is, rests-held, rests-shows, shows-rests}
use Rattle.rules.proofs.Tests.{and_l, and_r, held-pos, pos-held}
use Rattle.rules.proofs.Widths.{LgFits, Ranged, RegFits}

-- an own price at side d of series s: that of a regular order that rests there, or of the legging order
pub data Own (v : Venue) (s d p : ℕ) : Type 0 where
  by_regular : (i : ℕ) → rests_at s d (regular_at v i) ≡ true → (regular_at v i).price ≡ p → Own v s d p
  by_legging : held (legging_at v s d).quantity ≡ true → (legging_at v s d).price ≡ p → Own v s d p

pub own_is : (l : Legging) (p : ℕ) → held l.quantity ≡ true → l.price ≡ p → own_price l ≡ p
unfolding own_price
own_is l p h e = rw h e

-- where there is an own price, the legging order is there
own_held : (l : Legging) → held (own_price l) ≡ true → held l.quantity ≡ true
unfolding own_price
own_held l = go (held l.quantity)
  where
    go : (b : Bool) → held (if b then l.price else 0) ≡ true → b ≡ true
    go true z = refl
    go false z = absurd (false≢true z)

-- so the legging order that is met first is there
pub first-held : (o : Regular) (l : Legging) (p : ℕ) → legging_first o l p ≡ true → held l.quantity ≡ true
unfolding legging_first
first-held o l p z = own_held l (search (and_l, and_r, z))

-- Fewer own prices ----------------------------------------------------------------------------

-- each place of w has what v has there, or less
pub record Below (v w : Venue) : Type 0 where
  pub regulars : (n : ℕ) → Lesser (reg w n) (reg v n)
  pub leggings : (n : ℕ) → SameOrGone (lg w n) (lg v n)

pub below-refl : (v : Venue) → Below v v
unfolding SameOrGone
below-refl v = record { regulars = λ n. lesser-refl _; leggings = λ n. inl refl }

below-gone : (v : Venue) (f : ℕ → Legging → Verdict) (w : Venue) → Below v w → Below v (remove f w).venue
unfolding remove with_legging SameOrGone
below-gone v f w b = record { regulars = b.regulars; leggings = λ n. go n (stayers-kept f 0 w.legging n) (b.leggings n) }
  where
    go : (n : ℕ) {x : Legging} → (x ≡ lg w n) ⊎ (x ≡ no_legging) → (lg w n ≡ lg v n) ⊎ (lg w n ≡ no_legging) → (x ≡ lg v n) ⊎ (x ≡ no_legging)
    go n (inl e) (inl f) = inl (e ∙ f)
    go n (inl e) (inr f) = inr (e ∙ f)
    go n (inr e) f = inr e

-- whatever fills and removes leaves each place with what it had, or less
pub below-lasts : (v : Venue) → Lasts (Below v)
below-lasts v = record {
  fill_r = λ i k w b. record { regulars = λ n. lesser-trans ((fill-fewer i k w).lesser n) (b.regulars n); leggings = unfold fill_regular with_regular in b.leggings };
  fill_c = λ i k w b. unfold fill_complex with_complex in (record { regulars = b.regulars; leggings = b.leggings });
  gone = below-gone v;
  again = λ w b. record { regulars = λ n. lesser-trans ((again-fewer w).lesser n) (b.regulars n); leggings = unfold show_again with_regular in b.leggings };
}

pub rests-lesser : {a b : Regular} (s d : ℕ) → Lesser a b → rests_at s d a ≡ true → rests_at s d b ≡ true
unfolding rests_at
rests-lesser {a} {b} s d l r =
    let h = still-held l (search (and_l, and_r, r)) in
    let x : eqb a.series s ≡ true = search (and_l, and_r, r) in
    let y : eqb a.side d ≡ true = search (and_l, and_r, r) in
    rw (h, rw l.series at x, rw l.side at y)

-- a legging order that is there is the one that was
pub still-there : {l m : Legging} → SameOrGone l m → held l.quantity ≡ true → l ≡ m
unfolding SameOrGone
still-there (inl e) h = e
still-there (inr e) h = absurd (false≢true (rw e at h))

pub own_below : {v w : Venue} → Below v w → {s d p : ℕ} → Own w s d p → Own v s d p
unfolding regular_at legging_at
own_below b {s} {d} (by_regular i r e) = by_regular i (rests-lesser s d (b.regulars i) r) (sym (b.regulars i).price ∙ e)
own_below b {s} {d} (by_legging h e) =
    let m = still-there (b.leggings (place_of s d)) h in
    by_legging (subst (λ (x : Legging). held x.quantity ≡ true) m h) (ap (λ (x : Legging). x.price) (sym m) ∙ e)

moved : (v : Venue) (i : ℕ) → regular_at (close_gaps v) i ≡ regular_at v (fr v i)
unfolding regular_at
moved v i = was v i

kept-legging : (v : Venue) (s d : ℕ) → legging_at (close_gaps v) s d ≡ legging_at v s d
unfolding legging_at close_gaps with_regular with_complex
kept-legging v s d = refl

-- closing gaps moves own prices and makes none
pub own-closed : (v : Venue) {s d p : ℕ} → Own (close_gaps v) s d p → Own v s d p
own-closed v {s} {d} (by_regular i r e) = own-moved v i r e
  where
    own-moved : (v : Venue) (i : ℕ) {s d p : ℕ} → rests_at s d (regular_at (close_gaps v) i) ≡ true → (regular_at (close_gaps v) i).price ≡ p → Own v s d p
    own-moved v i {s} {d} {p} r e =
        by_regular (fr v i) (subst (λ (o : Regular). rests_at s d o ≡ true) (moved v i) r) (ap (λ (o : Regular). o.price) (sym (moved v i)) ∙ e)
own-closed v {s} {d} (by_legging h e) =
    let m = kept-legging v s d in
    by_legging (subst (λ (l : Legging). held l.quantity ≡ true) m h) (ap (λ (l : Legging). l.price) (sym m) ∙ e)

-- The best own price --------------------------------------------------------------------------

regular-pos : (o : Regular) → RegFits o → held o.quantity ≡ true → 0 < o.price
unfolding regular_in_range is_price within
regular-pos o f h = let z = f.ok h in leb-true 1 o.price (search (and_l, and_r, z) depth 12)

legging-pos : (l : Legging) → LgFits l → held l.quantity ≡ true → 0 < l.price
unfolding is_price within
legging-pos l f h = let z = f.ok h in leb-true 1 l.price (search (and_l, and_r, z) depth 12)

pub own-pos : (v : Venue) → Ranged v → {s d p : ℕ} → Own v s d p → 0 < p
unfolding regular_at legging_at
own-pos v r {s} {d} (by_regular i t e) = let z = regular-pos (reg v i) (r.regular i) (rests-held s d _ t) in omega arith
own-pos v r {s} {d} (by_legging h e) = let z = legging-pos (lg v (place_of s d)) (r.legging (place_of s d)) h in omega arith

-- no own price is better than the best
own-best : (v : Venue) → Shown v → {s d p : ℕ} → Own v s d p → better d p (best_own v s d) ≡ true → ⊥
unfolding best_own best_regular regular_at
own-best v z {s} {d} {p} (by_regular i r e) h =
    best-best s d v.regular i (rests-shows s d _ (z i (rests-held s d _ r)) r) (rw e (of_other d p (own_price (legging_at v s d)) (best_in s d v.regular) h))
own-best v z {s} {d} {p} (by_legging t e) h = own_of d p (best_in s d v.regular) (rw (own_is (legging_at v s d) p t e) at h)

-- so a bid is at most the best bid, and an offer at least the best offer
pub bid-best : (v : Venue) → Shown v → {s p : ℕ} → Own v s 0 p → p ≤ best_own v s 0
unfolding better
bid-best v z {s} {p} o = ltb-false (best_own v s 0) p (is_false (ltb (best_own v s 0) p) (λ h. own-best v z o h))

pub offer-best : (v : Venue) → Shown v → {s p : ℕ} → 0 < p → Own v s 1 p → (0 < best_own v s 1) × (best_own v s 1 ≤ p)
offer-best v z {s} {p} some o = go (held q) refl (ltb p q) refl (λ h. own-best v z o h)
  where
    q : ℕ
    q = best_own v s 1

    go : (a : Bool) → held q ≡ a → (b : Bool) → ltb p q ≡ b → (better 1 p q ≡ true → ⊥) → (0 < q) × (q ≤ p)
    go true e true f n = absurd (n (unfold better in (rw (pos-held p some, e, f))))
    go true e false f n = (held-pos q e, ltb-false p q f)
    go false e b f n = absurd (n (unfold better in (rw (pos-held p some, e))))

own-none : (l : Legging) → held l.quantity ≡ false → own_price l ≡ 0
unfolding own_price
own-none l e = rw e

-- the best own price is an own price
pub best-own : (v : Venue) (s d : ℕ) → held (best_own v s d) ≡ true → Own v s d (best_own v s d)
unfolding best_own better_of best_regular
best-own v s d h = go (better d (own_price (legging_at v s d)) (best_in s d v.regular)) h
  where
    own : held (own_price (legging_at v s d)) ≡ true → Own v s d (own_price (legging_at v s d))
    own t = cases (held (legging_at v s d).quantity) refl t
      where
        cases : (b : Bool) → held (legging_at v s d).quantity ≡ b → held (own_price (legging_at v s d)) ≡ true → Own v s d (own_price (legging_at v s d))
        cases true e t = by_legging e (sym (own_is (legging_at v s d) _ e refl))
        cases false e t = absurd (false≢true (rw (own-none (legging_at v s d) e) at t))

    go : (b : Bool) → held (if b then own_price (legging_at v s d) else best_in s d v.regular) ≡ true →
        Own v s d (if b then own_price (legging_at v s d) else best_in s d v.regular)
    go true t = own t
    go false t = let r = best-is s d v.regular t in by_regular r.at (unfold regular_at in (shows-rests s d _ r.shows)) (unfold regular_at in r.price)
