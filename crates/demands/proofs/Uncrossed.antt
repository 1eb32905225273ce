-- No series is locked or crossed: only an arriving order and generation add own prices, and neither reaches one opposite.
use mathlib.Core.Path.{◌∙◌, ◌≡◌, ap, refl, subst, sym}
use mathlib.Core.Bool.{Bool, ◌&&◌, ◌||◌, false, not, true}
use mathlib.Core.Logic.{◌≢◌, ◌⊎◌, inl, inr}
use mathlib.Core.List.{List}
use Prim.Native.Nat.{◌<◌, ℕ}
use native.Mathlib.Decide.{ℕ_discrete}
use native.Mathlib.Omega.{arith}
use lib.Dec.{leb, ltb}
use lib.ListN.{get_or, length, set}
use lib.Seq.{get_or-set_other, get_or-set_same}
use borrow.Author.Tests.{leb-false, lt-ltb, ltb-true, not-true}
use Rattle.rules.specs.declared.Complex.{Complex}
use Rattle.rules.specs.declared.Legging.{Legging}
use Rattle.rules.specs.declared.Message.{Message}
use Rattle.rules.specs.declared.Message.TheVariants.{Away, Cancel, Increment, LimitedSweep, Order, Percent, Status, Sweep, TwoLeg}
use Rattle.rules.specs.declared.Regular.{Regular}
use Rattle.rules.specs.declared.Venue.{Venue}
use Rattle.rules.specs.Base.{held}
use Rattle.rules.specs.Words.{complex_at, legging_at, no_legging, no_regular, opposite, place_of, regular_at, with_complex, with_editions, with_generations}
use Rattle.rules.specs.Words.{with_last, with_legging, with_reached, with_regular, with_series}
use Rattle.rules.specs.Settings.{enter_edition, percentage}
use Rattle.rules.specs.Effects.{Effect, ◌⟫◌, nothing, report}
use Rattle.rules.specs.Prices.{best_own, reaches, rests_at}
use Rattle.rules.specs.Standing.{settle}
use Rattle.rules.specs.Trading.{free_complex, free_regular, put_complex, put_regular}
use Rattle.rules.specs.Order.{enter_regular, meet_turn, order}
use Rattle.rules.specs.Generation.{counted, generate, generate_leg, leg_price, makes, new_legging, placed, reaches_any}
use Rattle.rules.specs.Complex.{cancel, complex, limited_sweep, sweep, work}
use Rattle.rules.specs.Places.{close_gaps}
use Rattle.rules.specs.Step.{perform, set_away, set_figure, set_status}
use Rattle.rules.specs.Sound.{apart}
use Rattle.rules.proofs.Again.{Shown}
use Rattle.rules.proofs.Bounds.{band-first, band-second}
use Rattle.rules.proofs.Cases.{if-by}
use Rattle.rules.proofs.Ending.{matching-ends, none-reaches}
use Rattle.rules.proofs.Filling.{Lesser, cx, lesser-refl, reg}
use Rattle.rules.proofs.Generating.{Makes, after, made, make-venue}
use Rattle.rules.proofs.EffectsLaws.{keeps-cancel, keeps-each_of, keeps-matching, keeps-settle, keeps-work}
use Rattle.rules.proofs.Owning.{Below, Own, below-lasts, below-refl, best-own, bid-best, by_legging, by_regular, offer-best, own_below, own-closed, own-pos, rests-lesser, still-there}
use Rattle.rules.proofs.Settling.{SameOrGone}
use Rattle.rules.proofs.RefusalsLaws.{well_formed}
use Rattle.rules.proofs.Showing.{Showing, leg-showing, settle-showing, showing-shown}
use Rattle.rules.proofs.Tests.{and_r, pos-held}
use Rattle.rules.proofs.Widths.{Ranged, RegFits, complex-fits, last-ranged, order-fits, put-ranged, put_c-ranged, reached-ranged}
use Rattle.rules.proofs.Writing.{writes-leg, writes-meet_turn, writes-repeat, writes-settle, writes-work}
use Rattle.demands.proofs.Homes.{Uncrossed}

-- Fewer own prices ----------------------------------------------------------------------------

uncrossed-below : {v w : Venue} → Below v w → Uncrossed v → Uncrossed w
uncrossed-below b u s x y s8 p q = u s x y s8 (own_below b p) (own_below b q)

-- the own prices of a venue with the same regular and legging orders
uncrossed-same : {v w : Venue} → w.regular ≡ v.regular → w.legging ≡ v.legging → Uncrossed v → Uncrossed w
unfolding SameOrGone
uncrossed-same {v} {w} a b =
    uncrossed-below (record {
      regulars = λ n. subst (λ (l : List Regular). Lesser (get_or l n no_regular) (reg v n)) (sym a) (lesser-refl _);
      leggings = λ n. inl (ap (λ (l : List Legging). get_or l n no_legging) b);
    })

pub uncrossed-settle : (v : Venue) → Uncrossed v → Uncrossed (settle v).venue
uncrossed-settle v u = uncrossed-below (keeps-settle (below-lasts v) v (below-refl v)) u

uncrossed-work : (i : ℕ) (v : Venue) → Uncrossed v → Uncrossed (work i v).venue
uncrossed-work i v u = uncrossed-below (keeps-work (below-lasts v) i v (below-refl v)) u

uncrossed-cancel : (id : ℕ) (v : Venue) → Uncrossed v → Uncrossed (cancel id v).venue
uncrossed-cancel id v u = uncrossed-below (keeps-cancel (below-lasts v) id v (below-refl v)) u

pub uncrossed-closed : (v : Venue) → Uncrossed v → Uncrossed (close_gaps v)
uncrossed-closed v u s a b s8 p q = u s a b s8 (own-closed v p) (own-closed v q)

-- The test of soundness -----------------------------------------------------------------------

pub apart_in : (v : Venue) → Uncrossed v → (s : ℕ) → s < 8 → apart v s ≡ true
unfolding apart
apart_in v u s s8 = go (held (best_own v s 0)) refl (held (best_own v s 1)) refl
  where
    go : (a : Bool) → held (best_own v s 0) ≡ a → (b : Bool) → held (best_own v s 1) ≡ b → (not a || not b || ltb (best_own v s 0) (best_own v s 1)) ≡ true
    go true e true f = lt-ltb _ _ (u s _ _ s8 (best-own v s 0 e) (best-own v s 1 f))
    go true e false f = refl
    go false e b f = refl

pub apart_out : (v : Venue) → Ranged v → Shown v → ((s : ℕ) → s < 8 → apart v s ≡ true) → Uncrossed v
unfolding apart
apart_out v r show h s a b s8 p q =
    let x = bid-best v show p in
    let y = offer-best v show (own-pos v r q) q in
    let i = own-pos v r p in
    let j = y.0 in
    let z = rw (pos-held (best_own v s 0) (omega arith), pos-held (best_own v s 1) j) at (h s s8) in
    let w = ltb-true (best_own v s 0) (best_own v s 1) z in
    let k = y.1 in
    omega arith

-- An order ------------------------------------------------------------------------------------

-- the order o takes the first free place of v, and meets the other side
module _ (v : Venue) (o : Regular) (u : Uncrossed v) (r : Ranged v) (f : RegFits o) where
  abbrev i : ℕ
  i = free_regular v

  abbrev v₀ : Venue
  v₀ = with_regular v (set v.regular i o)

  abbrev w : Venue
  w = (enter_regular o v).venue

  below : Below v₀ w
  unfolding enter_regular put_regular
  below = keeps-matching (below-lasts v₀) i o.quantity v₀ (below-refl v₀)

  ranged : Ranged w
  unfolding enter_regular put_regular
  ranged = (writes-repeat (meet_turn i) (writes-meet_turn i) o.quantity v₀ (put-ranged i o v f r)).ranged

  old-place : (n : ℕ) → n ≢ i → Lesser (reg w n) (reg v n)
  old-place n ne = subst (λ (x : Regular). Lesser (reg w n) x) (same n ne) (below.regulars n)
    where
      same : (n : ℕ) → n ≢ i → reg v₀ n ≡ reg v n
      same n ne = unfold with_regular in (get_or-set_other v.regular i n o no_regular ne)

  old-legging : (s d : ℕ) → held (legging_at w s d).quantity ≡ true → legging_at w s d ≡ legging_at v s d
  unfolding legging_at with_regular
  old-legging s d h = still-there (below.leggings (place_of s d)) h

  -- an own price is an old one, or the new order's
  whose : {s d p : ℕ} → Own w s d p → Own v s d p ⊎ ((rests_at s d (reg w i) ≡ true) × ((reg w i).price ≡ p))
  unfolding regular_at
  whose {s} {d} {p} (by_regular n t e) = go (ℕ_discrete n i)
    where
      go : Dec (n ≡ i) → Own v s d p ⊎ ((rests_at s d (reg w i) ≡ true) × ((reg w i).price ≡ p))
      go (yes q) = inr (subst (λ (m : ℕ). rests_at s d (reg w m) ≡ true) q t, subst (λ (m : ℕ). (reg w m).price ≡ p) q e)
      go (no ne) = let l = old-place n ne in inl (by_regular n (rests-lesser s d l t) (sym l.price ∙ e))
  whose {s} {d} {p} (by_legging h e) =
      let m = old-legging s d h in
      inl (by_legging (subst (λ (l : Legging). held l.quantity ≡ true) m h) (ap (λ (l : Legging). l.price) (sym m) ∙ e))

  pub uncrossed-enter : Uncrossed w
  unfolding opposite reaches
  uncrossed-enter s a b s8 p q = go (whose p) (whose q)
    where
      go : Own v s 0 a ⊎ ((rests_at s 0 (reg w i) ≡ true) × ((reg w i).price ≡ a)) → Own v s 1 b ⊎ ((rests_at s 1 (reg w i) ≡ true) × ((reg w i).price ≡ b)) → a < b
      go (inl x) (inl y) = u s a b s8 x y
      go (inr x) y =
          let z = none-reaches i w (matching-ends o v) s 0 b x.0 (own-pos w ranged q) q in
          let l = leb-false b (reg w i).price z in
          let e = x.1 in
          omega arith
      go (inl x) (inr y) =
          let z = none-reaches i w (matching-ends o v) s 1 a y.0 (own-pos w ranged p) p in
          let l = leb-false (reg w i).price a z in
          let e = y.1 in
          omega arith

-- Generation ----------------------------------------------------------------------------------

inside-buy : (p q : ℕ) → not (reaches_any 0 p q) ≡ true → 0 < q → p < q
unfolding reaches_any reaches
inside-buy p q h some = leb-false q p (rw (pos-held q some) at (not-true (held q && leb q p) h))

inside-sell : (p q : ℕ) → not (reaches_any 1 p q) ≡ true → 0 < q → q < p
unfolding reaches_any reaches
inside-sell p q h some = leb-false p q (rw (pos-held q some) at (not-true (held q && leb p q) h))

-- the new legging order's price reaches no own price opposite
module _ (v : Venue) (c : Complex) (s d : ℕ) (s8 : s < 8) (d2 : d < 2) (u : Uncrossed v) (r : Ranged v) (show : Shown v) {number : ℕ} (m : Makes number v c s d) where
  abbrev p : ℕ
  p = leg_price v c s d

  abbrev n : ℕ
  n = place_of s d

  fits : n < length v.legging
  unfolding place_of
  fits = let z = r.len in omega arith

  -- an own price is an old one, or the new order's
  whose-own : {t e q : ℕ} → e < 2 → Own (after v c s d) t e q → Own v t e q ⊎ ((t ≡ s) × (e ≡ d) × (q ≡ p))
  unfolding regular_at legging_at placed with_legging new_legging
  whose-own e2 (by_regular i t x) = inl (by_regular i t x)
  whose-own {t} {e} {q} e2 (by_legging h x) = go (ℕ_discrete (place_of t e) n)
    where
      go : Dec (place_of t e ≡ n) → Own v t e q ⊎ ((t ≡ s) × (e ≡ d) × (q ≡ p))
      go (yes y) =
          let z = same t e e2 y in
          inr (
            z.0,
            z.1,
            sym x ∙ ap (λ (l : Legging). l.price)
                (ap (λ (k : ℕ). get_or (set v.legging n (new_legging v c s d)) k no_legging) y ∙ get_or-set_same v.legging n (new_legging v c s d)
                no_legging fits),
          )
        where
          same : (t e : ℕ) → e < 2 → place_of t e ≡ place_of s d → (t ≡ s) × (e ≡ d)
          same t e e2 y = unfold place_of in (omega arith, omega arith)
      go (no ne) =
          let z = get_or-set_other v.legging n (place_of t e) (new_legging v c s d) no_legging ne in
          inl (by_legging (subst (λ (l : Legging). held l.quantity ≡ true) z h) (ap (λ (l : Legging). l.price) (sym z) ∙ x))

  -- to buy, the price is below every offer; to sell, above every bid
  under : d ≡ 0 → {q : ℕ} → Own v s 1 q → p < q
  unfolding opposite
  under e {q} o =
      let b = offer-best v show (own-pos v r o) o in
      let b1 = b.1 in
      let z = inside-buy p (best_own v s 1) (subst (λ (x : ℕ). not (reaches_any x p (best_own v s (opposite x))) ≡ true) e m.inside) b.0 in
      omega arith

  over : d ≡ 1 → {q : ℕ} → Own v s 0 q → q < p
  unfolding opposite
  over e {q} o =
      let b = bid-best v show o in
      let b0 = own-pos v r o in
      let z = inside-sell p (best_own v s 0) (subst (λ (x : ℕ). not (reaches_any x p (best_own v s (opposite x))) ≡ true) e m.inside) (omega arith) in
      omega arith

  uncrossed-after : Uncrossed (after v c s d)
  uncrossed-after t a b t8 x y = go (whose-own (omega arith) x) (whose-own (omega arith) y)
    where
      go : Own v t 0 a ⊎ ((t ≡ s) × (0 ≡ d) × (a ≡ p)) → Own v t 1 b ⊎ ((t ≡ s) × (1 ≡ d) × (b ≡ p)) → a < b
      go (inl x) (inl y) = u t a b t8 x y
      go (inr x) (inl y) =
          let z = under (sym x.1) (subst (λ (k : ℕ). Own v k 1 b) x.0 y) in
          let e = x.2 in
          omega arith
      go (inl x) (inr y) =
          let z = over (sym y.1) (subst (λ (k : ℕ). Own v k 0 a) y.0 x) in
          let e = y.2 in
          omega arith
      go (inr x) (inr y) = let e = x.1 in let f = y.1 in absurd (omega arith)

uncrossed-counted : (number s : ℕ) (v : Venue) → Uncrossed v → Uncrossed (counted number s v)
unfolding counted with_generations
uncrossed-counted number s v = uncrossed-same {v = v} refl refl

uncrossed-leg : (number : ℕ) (v : Venue) (c : Complex) (s d : ℕ) → s < 8 → d < 2 → Uncrossed v → Ranged v → Shown v → Uncrossed (generate_leg number c s d v).venue
unfolding generate_leg nothing
uncrossed-leg number v c s d s8 d2 u r show =
    if-by (λ (e : Effect). Uncrossed e.venue) (held c.quantity && makes number v c s d)
    (λ e. subst Uncrossed (sym (make-venue number v c s d)) (uncrossed-counted number s _ (uncrossed-after v c s d s8 d2 u r show (made (and_r (held c.quantity) (makes number v c s d) e)))))
    (λ _. u)

-- fields in range, and no series locked or crossed
pub record Clean (v : Venue) : Type 0 where
  pub ranged : Ranged v
  pub uncrossed : Uncrossed v

-- and each order shows what it should: once it has settled
record Settled (v : Venue) : Type 0 where
  clean : Clean v
  showing : Showing v

generate-settled : (number i : ℕ) (v : Venue) → Settled v → Settled (generate number i v).venue
unfolding generate complex_at ◌⟫◌
generate-settled number i v t =
    let k = t.clean in
    let c = cx v i in
    let f = k.ranged.complex i in
    let a = (writes-leg number c c.series1 c.side1 v f f.series1 f.side1 (band-first v c c.limit) k.ranged).ranged in
    let x = uncrossed-leg number v c c.series1 c.side1 f.series1 f.side1 k.uncrossed k.ranged (showing-shown v k.ranged t.showing) in
    let z = leg-showing number c c.series1 c.side1 v t.showing in
    record {
      clean = record {
        ranged = (writes-leg number c c.series2 c.side2 _ f f.series2 f.side2 (band-second _ c c.limit) a).ranged;
        uncrossed = uncrossed-leg number _ c c.series2 c.side2 f.series2 f.side2 x a (showing-shown _ a z);
      };
      showing = leg-showing number c c.series2 c.side2 _ z;
    }

-- Messages ------------------------------------------------------------------------------------

-- what changes neither regular nor legging orders
uncrossed-last : (n : ℕ) (v : Venue) → Uncrossed v → Uncrossed (with_last v n)
unfolding with_last
uncrossed-last n v = uncrossed-same {v = v} refl refl

uncrossed-put_c : (cs : List Complex) (v : Venue) → Uncrossed v → Uncrossed (with_complex v cs)
unfolding with_complex
uncrossed-put_c cs v = uncrossed-same {v = v} refl refl

uncrossed-away : (s b o : ℕ) (v : Venue) → Uncrossed v → Uncrossed (set_away s b o v)
unfolding set_away with_series
uncrossed-away s b o v = uncrossed-same {v = v} refl refl

uncrossed-status : (s x : ℕ) (v : Venue) → Uncrossed v → Uncrossed (set_status s x v)
unfolding set_status with_series
uncrossed-status s x v = uncrossed-same {v = v} refl refl

uncrossed-figure : (number f x e : ℕ) (v : Venue) → Uncrossed v → Uncrossed (set_figure number f x e v)
unfolding set_figure enter_edition with_editions
uncrossed-figure number f x e v = uncrossed-same {v = v} refl refl

clean-settle : (v : Venue) → Clean v → Settled (settle v).venue
clean-settle v k = record { clean = record { ranged = (writes-settle v k.ranged).ranged; uncrossed = uncrossed-settle v k.uncrossed }; showing = settle-showing v }

clean-work : (i : ℕ) (v : Venue) → Clean v → Clean (work i v).venue
clean-work i v k = record { ranged = (writes-work i v k.ranged).ranged; uncrossed = uncrossed-work i v k.uncrossed }

clean-reached : (x : ℕ) (v : Venue) → Clean v → Clean (with_reached v x)
clean-reached x v k = record { ranged = reached-ranged x v k.ranged; uncrossed = unfold with_reached in (uncrossed-same {v = v} refl refl k.uncrossed) }

pub uncrossed-perform : (number : ℕ) (m : Message) (v : Venue) → well_formed m ≡ true → Clean v → Uncrossed (perform number m v).venue
unfolding perform order complex put_complex sweep limited_sweep report ◌⟫◌
uncrossed-perform number (Order o) v h k =
    let f = order-fits o (unfold well_formed in h) in
    uncrossed-settle _ (uncrossed-enter (with_last v o.id) o (uncrossed-last o.id v k.uncrossed) (last-ranged o.id v f.id k.ranged) f)
uncrossed-perform number (TwoLeg c) v h k =
    let f = complex-fits c (unfold well_formed in h) in
    let a : Clean (with_complex (with_last v c.id) (set (with_last v c.id).complex (free_complex (with_last v c.id)) c)) = record {
      ranged = put_c-ranged _ c _ f (last-ranged c.id v f.id k.ranged);
      uncrossed = uncrossed-put_c _ _ (uncrossed-last c.id v k.uncrossed);
    } in
    (generate-settled number _ _ (clean-settle _ (clean-work _ _ a))).clean.uncrossed
uncrossed-perform number (Cancel id) v h k = uncrossed-cancel id v k.uncrossed
uncrossed-perform number (Away s b o) v h k = uncrossed-settle _ (uncrossed-away s b o v k.uncrossed)
uncrossed-perform number (Status s x) v h k = uncrossed-settle _ (uncrossed-status s x v k.uncrossed)
uncrossed-perform number Sweep v h k =
    (keeps-each_of Settled (generate number) (generate-settled number) _ _ (clean-settle _ (keeps-each_of Clean work clean-work _ v k))).clean.uncrossed
uncrossed-perform number (Increment s i e) v h k = uncrossed-settle _ (uncrossed-figure number s i e v k.uncrossed)
uncrossed-perform number (Percent x e) v h k = uncrossed-settle _ (uncrossed-figure number percentage x e v k.uncrossed)
uncrossed-perform number (LimitedSweep n) v h k =
    (keeps-each_of Settled (generate number) (generate-settled number) _ _ (clean-settle _ (keeps-each_of Clean work clean-work _ _ (clean-reached _ v k)))).clean.uncrossed
