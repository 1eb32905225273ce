-- Touch, and the legging in after it: where best regular prices net to the limit or less, no legging order stands on either side that is taken, since it was touched.
use Rattle.std.specs.Prelude.{if◌then◌else◌}
use mathlib.Core.Path.{◌∙◌, ◌≡◌, refl, subst, sym}
use mathlib.Core.Bool.{Bool, ◌&&◌, ◌||◌, false, not, true, true≢false}
use mathlib.Core.Logic.{◌≢◌}
use mathlib.Core.List.{List, [], ◌∷◌}
use Prim.Native.Nat.{◌*◌, ◌+◌, ◌-◌, ◌<◌, ◌≤◌, suc, zero, ℕ}
use native.Mathlib.Nat.{add-suc, add-zero, mul-le-mul_left, suc-add, zero-add}
use native.Mathlib.Omega.{arith}
use lib.Dec.{eqb, ltb}
use lib.IntN.{◌+ℤ◌, neg_ℤ, pos, ℤ}
use lib.ListN.{get_or}
use lib.Signed.{le_z}
use borrow.Author.Tests.{eq-eqb, eqb-false, eqb-true, le-leb, ltb-false}
use Rattle.rules.specs.declared.Cause.{Cause}
use Rattle.rules.specs.declared.Complex.{Complex}
use Rattle.rules.specs.declared.Legging.{Legging}
use Rattle.rules.specs.declared.Venue.{Venue}
use Rattle.rules.specs.declared.Verdict.{Verdict}
use Rattle.rules.specs.declared.Verdict.TheVariants.{Fails}
use Rattle.rules.specs.Base.{held}
use Rattle.rules.specs.Words.{buy, complex_at, legging_at, no_legging, opposite, place_of, sign_times, with_legging}
use Rattle.rules.specs.Effects.{Effect, nothing}
use Rattle.rules.specs.Prices.{best_in, best_own, best_regular, better, net, own_price, shows_at, weighed}
use Rattle.rules.specs.Removal.{fail_if, remove, stay, stayers}
use Rattle.rules.specs.Complex.{taken_side, touch, touches}
use Rattle.rules.proofs.Better.{best-best, better-none, is_false, of_other}
use Rattle.rules.proofs.Cases.{if-by}
use Rattle.rules.proofs.Filling.{cx, reg}
use Rattle.rules.proofs.Integers.{add_is, le_in, minus, neg-minus, neg-plus, plus, signed-arith}
use Rattle.rules.proofs.Sizes.{shows-held}
use Rattle.rules.proofs.Tests.{free-none, held-pos, pos-held}
use Rattle.replay.proofs.Passing.{Positive}

-- Nets ----------------------------------------------------------------------------------------

-- p is no better than a for whoever takes side opposite d
no-better : (d a p : ℕ) → 0 < a → 0 < p → better (opposite d) p a ≡ false → (eqb d buy ≡ true → a ≤ p) × (eqb d buy ≡ false → p ≤ a)
unfolding better opposite
no-better d a p ha hp h = ((λ e. buys d (eqb-true d buy e) h), (λ e. sells d (eqb-false d buy e) h))
  where
    buys : (d : ℕ) → d ≡ 0 → (if eqb (1 - d) buy then ltb a p else (held p && (not (held a) || ltb p a))) ≡ false → a ≤ p
    buys d e h =
        let z : (held p && (not (held a) || ltb p a)) ≡ false = rw e at h in
        ltb-false p a (rw (pos-held p hp, pos-held a ha) at z)

    sells : (d : ℕ) → d ≢ 0 → (if eqb (1 - d) buy then ltb a p else (held p && (not (held a) || ltb p a))) ≡ false → p ≤ a
    sells d n h =
        let z : 1 - d ≡ 0 = omega arith in
        ltb-false a p (rw z at h)

weighed-le : (r d a p : ℕ) → 0 < a → 0 < p → better (opposite d) p a ≡ false → le_z (weighed r d a) (weighed r d p) ≡ true
unfolding weighed sign_times
weighed-le r d a p ha hp h = go (eqb d buy) (no-better d a p ha hp h)
  where
    down : p ≤ a → le_z (neg_ℤ (pos (r * a))) (neg_ℤ (pos (r * p))) ≡ true
    down le =
        let z = mul-le-mul_left r le in
        le_in (neg_ℤ (pos (r * a))) (neg_ℤ (pos (r * p))) (rw (neg-plus (pos (r * a)), neg-plus (pos (r * p)), neg-minus (pos (r * a)), neg-minus (pos (r * p))) (unfold plus minus in (omega arith)))

    go : (b : Bool) → (b ≡ true → a ≤ p) × (b ≡ false → p ≤ a) → le_z (if b then pos (r * a) else neg_ℤ (pos (r * a))) (if b then pos (r * p) else neg_ℤ (pos (r * p))) ≡ true
    go true f = le-leb (r * a) (r * p) (mul-le-mul_left r (f.0 refl))
    go false f = down (f.1 refl)

-- best own prices a and b net to no more than p and q, none of which is better
net-le : (a b p q n : ℤ) → le_z a p ≡ true → le_z b q ≡ true → le_z (p +ℤ q) n ≡ true → le_z (a +ℤ b) n ≡ true
net-le a b p q n h k t = omega (signed-arith, add_is a b, add_is p q)

-- Best own prices -----------------------------------------------------------------------------

module _ (v : Venue) (some : Positive v) (s e n : ℕ) (t : shows_at s e (reg v n) ≡ true) where
  pub shown-priced : 0 < (reg v n).price
  shown-priced = some n (shows-held s e (reg v n) t)

  own-best : better e (reg v n).price (best_own v s e) ≡ false
  unfolding best_own best_regular
  own-best = is_false _ (λ h. best-best s e v.regular n t (of_other e (reg v n).price (own_price (legging_at v s e)) (best_in s e v.regular) h))

  own-there : held (best_own v s e) ≡ true
  own-there = go (held (best_own v s e)) refl
    where
      go : (b : Bool) → held (best_own v s e) ≡ b → b ≡ true
      go true h = refl
      go false h =
          let z = subst (λ (p : ℕ). better e (reg v n).price p ≡ false) (free-none (best_own v s e) h) own-best in
          absurd (true≢false (sym (better-none e (reg v n).price shown-priced) ∙ z))

-- Touch ---------------------------------------------------------------------------------------

-- what goes from a place leaves no own price there
gone_at : (f : ℕ → Legging → Verdict) (c : Cause) (n : ℕ) (ls : List Legging) (i : ℕ) → ((l : Legging) → f (n + i) l ≡ Fails c) → own_price (get_or (stayers f n ls) i no_legging) ≡ 0
unfolding stayers stay own_price
gone_at f c n [] i h = refl
gone_at f c n (l ∷ ls) zero h = rw (rw add-zero at (h l)) (go (held l.quantity) refl)
  where
    go : (b : Bool) → held l.quantity ≡ b → (if held (if b then no_legging else l).quantity then (if b then no_legging else l).price else 0) ≡ 0
    go true e = refl
    go false e = rw e
gone_at f c n (l ∷ ls) (suc i) h = gone_at f c (suc n) ls i (λ x. rw (add-suc, ← suc-add) at (h x))

-- of the order x, whose legging in follows: it is filled; or on the two sides that it would take no legging order stands; or all that shows there nets above its limit
pub data Sides (w : Venue) (x : Complex) : Type 0 where
  filled : held x.quantity ≡ false → Sides w x
  cleared : own_price (legging_at w x.series1 (opposite x.side1)) ≡ 0 → own_price (legging_at w x.series2 (opposite x.side2)) ≡ 0 → Sides w x
  dear : ((m n : ℕ) → shows_at x.series1 (opposite x.side1) (reg w m) ≡ true → shows_at x.series2 (opposite x.side2) (reg w n) ≡ true →
      le_z (net x (reg w m).price (reg w n).price) x.limit ≡ false) → Sides w x

module _ (v : Venue) (some : Positive v) (x : Complex) where
  abbrev s₁ : ℕ
  s₁ = x.series1

  abbrev e₁ : ℕ
  e₁ = opposite x.side1

  abbrev s₂ : ℕ
  s₂ = x.series2

  abbrev e₂ : ℕ
  e₂ = opposite x.side2

  -- where orders show whose prices net to the limit or less, so do the best own prices
  touched : held x.quantity ≡ true → (m n : ℕ) → shows_at s₁ e₁ (reg v m) ≡ true → shows_at s₂ e₂ (reg v n) ≡ true →
      le_z (net x (reg v m).price (reg v n).price) x.limit ≡ true → touches v x ≡ true
  unfolding touches net
  touched h m n p q t =
      let a = own-there v some s₁ e₁ m p in
      let b = own-there v some s₂ e₂ n q in
      let k = net-le (weighed x.ratio1 x.side1 (best_own v s₁ e₁)) (weighed x.ratio2 x.side2 (best_own v s₂ e₂))
      (weighed x.ratio1 x.side1 (reg v m).price) (weighed x.ratio2 x.side2 (reg v n).price) x.limit
      (weighed-le x.ratio1 x.side1 (best_own v s₁ e₁) (reg v m).price (held-pos _ a) (shown-priced v some s₁ e₁ m p) (own-best v some s₁ e₁ m p))
      (weighed-le x.ratio2 x.side2 (best_own v s₂ e₂) (reg v n).price (held-pos _ b) (shown-priced v some s₂ e₂ n q) (own-best v some s₂ e₂ n q))
      t in
      rw (h, a, b, k)

  untouched : touches v x ≡ false → Sides v x
  untouched no_touch = go (held x.quantity) refl
    where
      go : (b : Bool) → held x.quantity ≡ b → Sides v x
      go false h = filled h
      go true h = dear (λ m n p q. is_false _ (λ t. true≢false (sym (touched h m n p q t) ∙ no_touch)))

-- both sides are taken
takes_first : (x : Complex) → taken_side x (place_of x.series1 (opposite x.side1)) ≡ true
unfolding taken_side
takes_first x = rw (eq-eqb (place_of x.series1 (opposite x.side1)) (place_of x.series1 (opposite x.side1)) refl)

takes-second : (x : Complex) → taken_side x (place_of x.series2 (opposite x.side2)) ≡ true
unfolding taken_side
takes-second x =
    rw (eq-eqb (place_of x.series2 (opposite x.side2)) (place_of x.series2 (opposite x.side2)) refl)
    (go (eqb (place_of x.series2 (opposite x.side2)) (place_of x.series1 (opposite x.side1))))
  where
    go : (b : Bool) → (b || true) ≡ true
    go true = refl
    go false = refl

removed-side : (v : Venue) (x : Complex) (c : Cause) (s d : ℕ) → taken_side x (place_of s d) ≡ true →
    own_price (legging_at (remove (λ n _. fail_if (taken_side x n) c) v).venue s d) ≡ 0
unfolding legging_at remove with_legging
removed-side v x c s d t = gone_at _ c 0 v.legging (place_of s d) (λ _. unfold fail_if in (rw (zero-add, t)))

pub touch-sides : (i : ℕ) (v : Venue) → Positive v → Sides (touch i v).venue (cx v i)
unfolding touch complex_at
touch-sides i v some =
    let x = cx v i in
    if-by (λ (e : Effect). Sides e.venue x) (touches v x)
    (λ _. cleared (removed-side v x _ x.series1 (opposite x.side1) (takes_first x)) (removed-side v x _ x.series2 (opposite x.side2) (takes-second x)))
    (λ no_touch. unfold nothing in (untouched v some x no_touch))
