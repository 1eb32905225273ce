-- The fuel of each loop is enough: each turn trades at least one contract of its order, so what document 01 goes on with "while" has come to
-- its end. `after-matching`: after an order has met the other side nothing there reaches it. `after-crossing`: after crossing no order crosses with it.
-- `after-legging-in`: after legging in the best prices no longer net. None of them asks anything of the venue.
use Rattle.std.specs.Prelude.{if◌then◌else◌}
use mathlib.Core.Path.{◌∙◌, ◌≡◌, ap, refl, subst, sym}
use mathlib.Core.Bool.{Bool, ◌&&◌, ◌||◌, false, false≢true, not, true, true≢false}
use mathlib.Core.List.{List, [], ◌∷◌}
use Prim.Native.Nat.{◌-◌, ◌<◌, ◌≤◌, min, suc, zero, ℕ}
use native.Mathlib.Omega.{arith}
use lib.Dec.{eqb, ltb}
use lib.ListN.{get_or, set}
use lib.Seq.{get_or-set_same}
use borrow.Author.Tests.{eqb-true, lt-ltb}
use Rattle.rules.specs.declared.Complex.{Complex}
use Rattle.rules.specs.declared.Legging.{Legging}
use Rattle.rules.specs.declared.Regular.{Regular}
use Rattle.rules.specs.declared.Venue.{Venue}
use Rattle.rules.specs.declared.Verdict.{Verdict}
use Rattle.rules.specs.Base.{held, nobody}
use Rattle.rules.specs.Words.{buy, complex_at, legging_at, no_complex, no_regular, opposite, regular_at, with_complex, with_legging, with_regular}
use Rattle.rules.specs.Effects.{Effect, Turn, ◌⟫◌, ended, nothing, repeat, turned}
use Rattle.rules.specs.Prices.{best_regular, better, own_price, reaches, rests_at}
use Rattle.rules.specs.Removal.{remove}
use Rattle.rules.specs.Standing.{show_again}
use Rattle.rules.specs.Trading.{fill_complex, fill_regular, free_regular, less_complex, less_regular, put_regular}
use Rattle.rules.specs.Order.{at_once, enter_regular, hit, is_met, legging_first, meet, meet_turn}
use Rattle.rules.specs.Complex.{any_closed, cross, cross_turn, crosses, leg_in, leg_in_turn, legs_in, touch, units_in, work}
use Rattle.rules.proofs.Again.{again-fewer}
use Rattle.rules.proofs.Better.{is_false}
use Rattle.rules.proofs.Cases.{cross_turn-by, if-by, meet_turn-by, repeat-by}
use Rattle.rules.proofs.Filling.{cx, fill-fewer, fill-fewer_c, held_fits, held-fits_c, reg}
use Rattle.rules.proofs.EffectsLaws.{Lasts, cross-from, hit-from, keeps-crossing, keeps-touch, meet-from}
use Rattle.rules.proofs.Owning.{Own, by_legging, by_regular, first-held, own_is}
use Rattle.rules.proofs.Pairing.{leg_in-filled}
use Rattle.rules.proofs.Picking.{At, Chosen}
use Rattle.rules.proofs.Sizes.{once-some}
use Rattle.rules.proofs.Tests.{and_l, and_r, held-pos, pos-held}
use Rattle.rules.proofs.Units.{units-open}

-- Loops ---------------------------------------------------------------------------------------

-- a turn upon v that makes a size less
abbrev Smaller : (Venue → ℕ) → Venue → Turn → Type 0
Smaller size v ended = Unit {0}
Smaller size v (turned e) = size e.venue < size v

repeat-ends : (size : Venue → ℕ) (turn : Venue → Turn) → ((v : Venue) → Smaller size v (turn v)) → (fuel : ℕ) (v : Venue) → size v ≤ fuel → turn (repeat fuel turn v).venue ≡ ended
unfolding nothing ◌⟫◌
repeat-ends size turn ok zero v le = unfold repeat in (go (turn v) (ok v))
  where
    go : (t : Turn) → Smaller size v t → t ≡ ended
    go ended k = refl
    go (turned e) k = absurd (omega arith)
repeat-ends size turn ok (suc fuel) v le =
    repeat-by (λ e. turn e.venue ≡ ended) fuel turn v (λ stop. stop)
    (λ e is. let k = subst (Smaller size v) is (ok v) in repeat-ends size turn ok fuel e.venue (omega arith))

turned-not : {e : Effect} {A : Type 0} → turned e ≡ ended → A
turned-not h = let z : ◌≡◌ {A = ℕ} 0 1 = cc in absurd (omega arith)

-- a size that no fill, no removal and no showing again makes greater
record Shrinks (size : Venue → ℕ) : Type 0 where
  fill_r : (j k : ℕ) (v : Venue) → size (fill_regular j k v) ≤ size v
  fill_c : (j k : ℕ) (v : Venue) → size (fill_complex j k v) ≤ size v
  gone : (f : ℕ → Legging → Verdict) (v : Venue) → size (remove f v).venue ≤ size v
  again : (v : Venue) → size (show_again v) ≤ size v

-- stays at most n
few : {size : Venue → ℕ} → Shrinks size → (n : ℕ) → Lasts (λ v. size v ≤ n)
few s n = record {
  fill_r = λ j k v h. (let z = s.fill_r j k v in omega arith);
  fill_c = λ j k v h. (let z = s.fill_c j k v in omega arith);
  gone = λ f v h. (let z = s.gone f v in omega arith);
  again = λ v h. (let z = s.again v in omega arith);
}

-- what the order at place i has open
shrinks-regular : (i : ℕ) → Shrinks (λ v. (reg v i).quantity)
shrinks-regular i = record {
  fill_r = λ j k v. ((fill-fewer j k v).lesser i).quantity;
  fill_c = λ j k v. unfold fill_complex with_complex in (omega arith);
  gone = λ f v. unfold remove with_legging in (omega arith);
  again = λ v. ((again-fewer v).lesser i).quantity;
}

shrinks-complex : (i : ℕ) → Shrinks (λ v. (cx v i).quantity)
shrinks-complex i = record {
  fill_r = λ j k v. unfold fill_regular with_regular in (omega arith);
  fill_c = λ j k v. ((fill-fewer_c j k v).lesser i).quantity;
  gone = λ f v. unfold remove with_legging in (omega arith);
  again = λ v. unfold show_again with_regular in (omega arith);
}

-- Matching ------------------------------------------------------------------------------------

filled : (i k : ℕ) (v : Venue) → held (reg v i).quantity ≡ true → (reg (fill_regular i k v) i).quantity ≡ (reg v i).quantity - k
unfolding fill_regular with_regular regular_at less_regular
filled i k v h = rw (get_or-set_same v.regular i _ no_regular (held_fits v.regular i h))

meet_turn-less : (i : ℕ) (v : Venue) → Smaller (λ w. (reg w i).quantity) v (meet_turn i v)
unfolding regular_at
meet_turn-less i v = meet_turn-by (Smaller (λ w. (reg w i).quantity) v) i v (λ _. tt) (λ _ _ _. tt) (λ h p e. hitting h (held-pos l.quantity (first-held _ l p e))) meets
  where
    q : ℕ
    q = (reg v i).quantity

    l : Legging
    l = legging_at v (reg v i).series (opposite (reg v i).side)

    less : (m : ℕ) → held q ≡ true → 0 < m → q - min q m < q
    less m h p = let z = held-pos q h in omega arith

    hitting : held q ≡ true → 0 < l.quantity → (reg (hit i l (min q l.quantity) v).venue i).quantity < q
    hitting h p =
        let k = min q l.quantity in
        let x = hit-from (few (shrinks-regular i) (q - k)) i l k v (rw (filled i k v h) (omega arith)) in
        let y = less l.quantity h p in
        omega arith

    meets : held q ≡ true → (j : ℕ) (m : Regular) → At no_regular (is_met (reg v i).series (reg v i).side (reg v i).price) v.regular j m →
        legging_first (reg v i) l m.price ≡ false → (reg (meet i j (min q (at_once m)) v).venue i).quantity < q
    meets h j m a _ =
        let z = a.is in
        let p = once-some m (held-pos m.quantity (unfold is_met rests_at in (search (and_l, and_r, z) depth 8))) in
        let k = min q (at_once m) in
        let x = meet-from (few (shrinks-regular i) (q - k)) i j k v (rw (filled i k v h) (omega arith)) in
        let y = less (at_once m) h p in
        omega arith

-- where the turn has nothing to do, nothing on the other side reaches the order
module _ (i : ℕ) (w : Venue) where
  abbrev o : Regular
  o = reg w i

  abbrev l : Legging
  l = legging_at w o.series (opposite o.side)

  record Alone : Type 0 where
    regulars : Chosen no_regular (is_met o.series o.side o.price) w.regular nobody
    none : legging_first o l 0 ≡ false

  alone : held o.quantity ≡ true → meet_turn i w ≡ ended → Alone
  unfolding regular_at
  alone h =
      meet_turn-by (λ t. t ≡ ended → Alone) i w
      (λ n _. absurd (true≢false (sym h ∙ n))) (λ _ a n _. record { regulars = a; none = n }) (λ _ _ _ e. turned-not e) (λ _ _ _ _ _ e. turned-not e)

  -- any price is better than none
  some-better : (d p : ℕ) → held p ≡ true → better d p 0 ≡ true
  unfolding better
  some-better d p h = go (eqb d buy)
    where
      go : (b : Bool) → (if b then ltb 0 p else (held p && (not (held 0) || ltb p 0))) ≡ true
      go true = lt-ltb 0 p (held-pos p h)
      go false = rw h

  -- a conjunction that came out false, its first part true
  and_second : (a b : Bool) → a ≡ true → (a && b) ≡ false → b ≡ false
  and_second true b h e = e
  and_second false b h e = absurd (false≢true h)

  legging-first : (p : ℕ) → own_price l ≡ p → held p ≡ true → legging_first o l 0 ≡ false → reaches o.side o.price p ≡ false
  unfolding legging_first
  legging-first p e h x = is_false _ (λ z. true≢false (sym (rw (e, h, z, some-better (opposite o.side) p h)) ∙ x))

  pub none-reaches : meet_turn i w ≡ ended → (s d p : ℕ) → rests_at s d o ≡ true → 0 < p → Own w s (opposite d) p → reaches d o.price p ≡ false
  unfolding is_met rests_at regular_at
  none-reaches e s d p r some own =
      let h : held o.quantity ≡ true = search (and_l, and_r, r) in
      let es = eqb-true o.series s (search (and_l, and_r, r)) in
      let ed = eqb-true o.side d (search (and_l, and_r, r)) in
      go es ed (alone h e) own
    where
      go : o.series ≡ s → o.side ≡ d → Alone → Own w s (opposite d) p → reaches d o.price p ≡ false
      go es ed a (by_regular j t q) =
          let x : rests_at o.series (opposite o.side) (reg w j) ≡ true = rw (es, ed) t in
          let f = a.regulars j (held_fits w.regular j (search (and_l, and_r, t))) in
          rw (ed, q) at (and_second _ _ x f)
      go es ed a (by_legging t q) =
          let m : legging_at w s (opposite d) ≡ l = rw (es, ed) in
          let own : own_price l ≡ p = rw (← m) (own_is (legging_at w s (opposite d)) p t q) in
          let x = pos-held p some in
          rw ed at (legging-first p own x a.none)

-- the order as it was given its place
put_small : (l : List Regular) (i : ℕ) (o : Regular) → (get_or (set l i o) i no_regular).quantity ≤ o.quantity
put_small [] i o = omega arith
put_small (x ∷ l) zero o = omega arith
put_small (x ∷ l) (suc i) o = put_small l i o

pub matching-ends : (o : Regular) (v : Venue) → meet_turn (free_regular v) (enter_regular o v).venue ≡ ended
unfolding enter_regular put_regular
matching-ends o v =
    repeat-ends (λ w. (reg w (free_regular v)).quantity) (meet_turn (free_regular v)) (meet_turn-less (free_regular v)) o.quantity _
    (unfold with_regular in (put_small v.regular (free_regular v) o))

-- "It meets the other side while prices cross or are equal": after that no own price of the other side reaches what is left of it
pub after-matching : (o : Regular) (v : Venue) (s d p : ℕ) →
    let i = free_regular v in
    let w = (enter_regular o v).venue in
    rests_at s d (regular_at w i) ≡ true → 0 < p → Own w s (opposite d) p → reaches d (regular_at w i).price p ≡ false
unfolding regular_at
after-matching o v s d p r some own = none-reaches (free_regular v) (enter_regular o v).venue (matching-ends o v) s d p r some own

-- Crossing ------------------------------------------------------------------------------------

filled_c : (i k : ℕ) (v : Venue) → held (cx v i).quantity ≡ true → (cx (fill_complex i k v) i).quantity ≡ (cx v i).quantity - k
unfolding fill_complex with_complex complex_at less_complex
filled_c i k v h = rw (get_or-set_same v.complex i _ no_complex (held-fits_c v.complex i h))

crosses-held : (w : Venue) (c m : Complex) → crosses w c m ≡ true → held m.quantity ≡ true
unfolding crosses
crosses-held w c m z = search (and_l, and_r, z) depth 8

cross_turn-less : (i : ℕ) (v : Venue) → Smaller (λ w. (cx w i).quantity) v (cross_turn i v)
unfolding complex_at
cross_turn-less i v = cross_turn-by (Smaller (λ w. (cx w i).quantity) v) i v (λ _. tt) (λ _ _. tt) crossing
  where
    q : ℕ
    q = (cx v i).quantity

    crossing : held q ≡ true → (j : ℕ) (m : Complex) → At no_complex (crosses v (cx v i)) v.complex j m → (cx (cross i j (min q m.quantity) v).venue i).quantity < q
    crossing h j m a =
        let p = held-pos m.quantity (crosses-held v (cx v i) m a.is) in
        let p' = held-pos q h in
        let k = min q m.quantity in
        let x = cross-from (few (shrinks-complex i) (q - k)) i j k v (rw (filled_c i k v h) (omega arith)) in
        omega arith

pub crossing-ends : (i fuel : ℕ) (v : Venue) → (cx v i).quantity ≤ fuel → cross_turn i (repeat fuel (cross_turn i) v).venue ≡ ended
crossing-ends i fuel v le = repeat-ends (λ w. (cx w i).quantity) (cross_turn i) (cross_turn-less i) fuel v le

none-crosses : (i j : ℕ) (w : Venue) → cross_turn i w ≡ ended → held (cx w i).quantity ≡ true → crosses w (cx w i) (cx w j) ≡ false
unfolding complex_at
none-crosses i j w e h =
    cross_turn-by (λ t. t ≡ ended → crosses w (cx w i) (cx w j) ≡ false) i w (λ n _. absurd (true≢false (sym h ∙ n)))
    (λ _ a _. is_false _ (λ z. true≢false (sym z ∙ a j (held-fits_c w.complex j (crosses-held w (cx w i) (cx w j) z)))))
    (λ _ _ _ _ e. turned-not e) e

-- "First cross … repeat": after that nothing is open, or no resting order crosses with it
pub after-crossing : (i j : ℕ) (v : Venue) →
    let w = (repeat (complex_at v i).quantity (cross_turn i) v).venue in
    held (complex_at w i).quantity ≡ true → crosses w (complex_at w i) (complex_at w j) ≡ false
unfolding complex_at
after-crossing i j v h = none-crosses i j _ (crossing-ends i (cx v i).quantity v (omega arith)) h

-- Legging in ----------------------------------------------------------------------------------

leg-less : (i a b k : ℕ) (v : Venue) → held (cx v i).quantity ≡ true → (cx (leg_in i a b k v).venue i).quantity ≡ (cx v i).quantity - k
leg-less i a b k v h = ap (λ (l : List Complex). (get_or l i no_complex).quantity) (leg_in-filled v i a b k) ∙ filled_c i k v h

pub legs-facts : (v : Venue) (c : Complex) (a b : ℕ) → legs_in v c a b ≡ true → (held c.quantity ≡ true) × (held a ≡ true) × (held b ≡ true)
unfolding legs_in
legs-facts v c a b e = (search (and_l, and_r, e) depth 8, search (and_l, and_r, e) depth 8, search (and_l, and_r, e) depth 8)

-- a step trades at least a unit
pub units-some : (v : Venue) (c : Complex) (a b : ℕ) → (legs_in v c a b && held (units_in v c)) ≡ true → 0 < units_in v c
units-some v c a b e = held-pos (units_in v c) (and_r (legs_in v c a b) (held (units_in v c)) e)

leg_in_turn-less : (i : ℕ) (v : Venue) → Smaller (λ w. (cx w i).quantity) v (leg_in_turn i v)
unfolding leg_in_turn complex_at
leg_in_turn-less i v =
    let c = cx v i in
    if-by (Smaller (λ w. (cx w i).quantity) v) (legs_in v c _ _ && held (units_in v c))
    (λ e.
    let f = legs-facts v c _ _ (and_l (legs_in v c _ _) (held (units_in v c)) e) in
    rw (leg-less i _ _ _ v f.0) (omega (arith, units-some v c _ _ e, units-open v c)))
    (λ _. tt)

none-legs : (i : ℕ) (w : Venue) → leg_in_turn i w ≡ ended →
    (legs_in w (cx w i) (best_regular w (cx w i).series1 (opposite (cx w i).side1)) (best_regular w (cx w i).series2 (opposite (cx w i).side2))
    && held (units_in w (cx w i))) ≡ false
unfolding leg_in_turn complex_at
none-legs i w =
    let c = cx w i in
    let a = best_regular w c.series1 (opposite c.side1) in
    let b = best_regular w c.series2 (opposite c.side2) in
    if-by (λ t. t ≡ ended → (legs_in w c a b && held (units_in w c)) ≡ false) (legs_in w c a b && held (units_in w c)) (λ _ e. turned-not e) (λ f _. f)

-- "Then leg in: while best regular prices net ≤ N and in band": after that nothing is open, or they no longer do, or their sizes fill no unit
pub after-legging-in : (i : ℕ) (v : Venue) → any_closed v (complex_at v i) ≡ false →
    let w = (work i v).venue in
    let c = complex_at w i in
    (legs_in w c (best_regular w c.series1 (opposite c.side1)) (best_regular w c.series2 (opposite c.side2)) && held (units_in w c)) ≡ false
unfolding work complex_at ◌⟫◌
after-legging-in i v h = rw h (none-legs i _ (repeat-ends (λ w. (cx w i).quantity) (leg_in_turn i) (leg_in_turn-less i) n _ small))
  where
    n : ℕ
    n = (cx v i).quantity

    small : (cx (touch i (repeat n (cross_turn i) v).venue).venue i).quantity ≤ n
    small =
        keeps-touch (few (shrinks-complex i) n) i _
        (keeps-crossing (few (shrinks-complex i) n) i n v (omega arith))
