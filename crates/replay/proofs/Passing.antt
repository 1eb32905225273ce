-- What no trade passes over: of a regular order that meets another or hits a legging order, and of a complex order that takes at a price.
use Rattle.std.specs.Prelude.{if◌then◌else◌}
use mathlib.Core.Path.{◌∙◌, ◌≡◌, ap, refl, subst, sym}
use mathlib.Core.Bool.{Bool, ◌&&◌, ◌||◌, false, false≢true, not, true, true≢false}
use mathlib.Core.Logic.{◌≢◌}
use Prim.Native.Nat.{◌-◌, ◌<◌, ◌≤◌, ℕ}
use native.Mathlib.Omega.{arith}
use lib.Dec.{eqb, leb, ltb}
use borrow.Author.Tests.{eqb-false, eqb-true, le-leb, leb-true, ltb-true}
use Rattle.rules.specs.declared.Legging.{Legging}
use Rattle.rules.specs.declared.Regular.{Regular}
use Rattle.rules.specs.declared.Venue.{Venue}
use Rattle.rules.specs.Base.{first, held, nobody, picked}
use Rattle.rules.specs.Words.{buy, complex_at, is_complex_of, is_regular_of, legging_at, no_regular, opposite, regular_at}
use Rattle.rules.specs.Prices.{best_regular, better, clear_price, own_price, reaches, rests_at, shown_size, shows_at}
use Rattle.rules.specs.Order.{is_met, legging_first, price_then_id}
use Rattle.rules.proofs.Better.{best-best, better-irrefl, better-trans, is_false}
use Rattle.rules.proofs.Filling.{Fewer, cx, held_fits, reg, still-held}
use Rattle.rules.proofs.Meeting.{MetFirst, met-first}
use Rattle.rules.proofs.Owning.{first-held, own_is}
use Rattle.rules.proofs.Picking.{Chosen}
use Rattle.rules.proofs.Settling.{clear-best}
use Rattle.rules.proofs.Sizes.{rests-held, shows-rests}
use Rattle.rules.proofs.Tests.{and_l, and_r, held-pos, or_r, pos-held}
use Rattle.replay.specs.Moments.{InTurn, MakerStands, NonePassedOver, resting}
use Rattle.replay.proofs.Lessening.{Apart}

-- Prices --------------------------------------------------------------------------------------

-- a price that is better than another is there
pub better-held : (d a b : ℕ) → better d a b ≡ true → held a ≡ true
unfolding better
better-held d a b = go (eqb d buy)
  where
    go : (t : Bool) → (if t then ltb b a else (held a && (not (held b) || ltb a b))) ≡ true → held a ≡ true
    go true h = let z = ltb-true b a h in pos-held a (omega arith)
    go false h = and_l (held a) (not (held b) || ltb a b) h

-- so none is better where there is no price
pub none-better : (d b : ℕ) → better d 0 b ≡ false
none-better d b = is_false (better d 0 b) (λ h. false≢true (better-held d 0 b h))

-- what is better than a price that is reached is reached
pub reaches-better : (d p a b : ℕ) → 0 < b → reaches d p b ≡ true → better (opposite d) a b ≡ true → reaches d p a ≡ true
unfolding reaches better opposite
reaches-better d p a b some = go (eqb d buy) refl
  where
    sells : (d : ℕ) → d ≡ 0 → (if eqb (1 - d) buy then ltb b a else (held a && (not (held b) || ltb a b))) ≡ true → ltb a b ≡ true
    sells d e h =
        let z : (held a && (not (held b) || ltb a b)) ≡ true = rw e at h in
        or_r (not (held b)) (ltb a b) (rw (pos-held b some)) (and_r (held a) (not (held b) || ltb a b) z)

    buys : (d : ℕ) → d ≢ 0 → (if eqb (1 - d) buy then ltb b a else (held a && (not (held b) || ltb a b))) ≡ true → ltb b a ≡ true
    buys d n h = let z : 1 - d ≡ 0 = omega arith in rw z at h

    go : (t : Bool) → eqb d buy ≡ t → (if t then leb b p else leb p b) ≡ true →
        (if eqb (1 - d) buy then ltb b a else (held a && (not (held b) || ltb a b))) ≡ true → (if t then leb a p else leb p a) ≡ true
    go true e r h = let x = leb-true b p r in let y = ltb-true a b (sells d (eqb-true d buy e) h) in le-leb a p (omega arith)
    go false e r h = let x = leb-true p b r in let y = ltb-true b a (buys d (eqb-false d buy e) h) in le-leb p a (omega arith)

-- A regular order that arrives ----------------------------------------------------------------

-- every resting order has a price
abbrev pub Positive : Venue → Type 0
Positive v = (n : ℕ) → held (reg v n).quantity ≡ true → 0 < (reg v n).price

pub positive-kept : (v w : Venue) → Fewer w.regular v.regular → Positive v → Positive w
positive-kept v w f some n h = subst (λ (p : ℕ). 0 < p) (sym (f.lesser n).price) (some n (still-held (f.lesser n) h))

met-in : (s d p : ℕ) (x : Regular) → rests_at s (opposite d) x ≡ true → reaches d p x.price ≡ true → is_met s d p x ≡ true
unfolding is_met
met-in s d p x r h = rw (r, h)

met-rests : (s d p : ℕ) (x : Regular) → is_met s d p x ≡ true → rests_at s (opposite d) x ≡ true
unfolding is_met
met-rests s d p x h = and_l (rests_at s (opposite d) x) _ h

met-reached : (s d p : ℕ) (x : Regular) → is_met s d p x ≡ true → reaches d p x.price ≡ true
unfolding is_met
met-reached s d p x h = and_r (rests_at s (opposite d) x) _ h

shows-shown : (s e : ℕ) (x : Regular) → shows_at s e x ≡ true → held (shown_size x) ≡ true
unfolding shows_at
shows-shown s e x h = search (and_l, and_r, h)

clash : {b : Bool} → b ≡ true → b ≡ false → ⊥
clash h k = true≢false (sym h ∙ k)

-- an order o of those in v
module _ (v : Venue) (o : Regular) (some : Positive v) where
  abbrev s : ℕ
  s = o.series

  -- the side that it takes
  abbrev e : ℕ
  e = opposite o.side

  abbrev l : Legging
  l = legging_at v s e

  abbrev met : Regular → Bool
  met = is_met s o.side o.price

  -- It meets the order m at place j
  module _ (j : ℕ) (m : Regular) (at : reg v j ≡ m) (is : met m ≡ true) (picks : first met price_then_id v.regular ≡ picked j m) where
    priced : 0 < m.price
    priced = subst (λ (x : Regular). 0 < x.price) at (some j (subst (λ (x : Regular). held x.quantity ≡ true) (sym at) (rests-held s e m (met-rests s o.side o.price m is))))

    -- what is better than it is reached
    reached : (a : ℕ) → better e a m.price ≡ true → reaches o.side o.price a ≡ true
    reached a = reaches-better o.side o.price a m.price priced (met-reached s o.side o.price m is)

    none-resting : (n : ℕ) → rests_at s e (regular_at v n) ≡ true → better e (regular_at v n).price m.price ≡ false
    unfolding regular_at
    none-resting n r =
        is_false (better e (reg v n).price m.price) (λ h.
        clash h ((met-first s o.side o.price v.regular j m picks).best n (met-in s o.side o.price (reg v n) r (reached (reg v n).price h))))

    no-legging : legging_first o l m.price ≡ false → better e (own_price l) m.price ≡ false
    unfolding legging_first
    no-legging h = is_false (better e (own_price l) m.price) (λ b. clash (rw (better-held e (own_price l) m.price b, reached (own_price l) b, b)) h)

    -- at its price it is met in its turn
    met-at-price : (n : ℕ) → rests_at s e (reg v n) ≡ true → (reg v n).price ≡ m.price → met (reg v n) ≡ true
    met-at-price n r q = met-in s o.side o.price (reg v n) r (rw q (met-reached s o.side o.price m is))

    met-in-turn : (k : ℕ) → (held (shown_size m) ≡ true → k ≤ shown_size m) → InTurn v s e m.price k j
    unfolding regular_at
    met-in-turn k own = record {
      own = subst (λ (x : Regular). held (shown_size x) ≡ true → k ≤ shown_size x) (sym at) own;
      shown_by_id = λ t n h q. early n (met-at-price n (shows-rests s e (reg v n) h) q) q (shows-shown s e (reg v n) h ∙ sym (of-m true t));
      all_shown = λ t n h q. f.shows n (met-at-price n h q) q (of-m false t);
      reserve_by_id = λ t n h q. early n (met-at-price n h q) q (f.shows n (met-at-price n h q) q (of-m false t) ∙ sym (of-m false t));
    }
      where
        f : MetFirst s o.side o.price v.regular m
        f = met-first s o.side o.price v.regular j m picks

        of-m : (b : Bool) → held (shown_size (reg v j)) ≡ b → held (shown_size m) ≡ b
        of-m b t = sym (ap (λ (x : Regular). held (shown_size x)) at) ∙ t

        early : (n : ℕ) → met (reg v n) ≡ true → (reg v n).price ≡ m.price → held (shown_size (reg v n)) ≡ held (shown_size m) → (reg v j).id ≤ (reg v n).id
        early n h q t = subst (λ (x : Regular). x.id ≤ (reg v n).id) (sym at) (f.early n h q t)

    pub met-passes-none : Apart v → legging_first o l m.price ≡ false → (k : ℕ) → k ≤ m.quantity → (held (shown_size m) ≡ true → k ≤ shown_size m) → (taker : ℕ) →
        NonePassedOver v s o.side m.price k taker m.id
    unfolding complex_at is_complex_of regular_at is_regular_of
    met-passes-none a h k le own taker = record {
      turn = λ _ _ n t.
          subst (InTurn v s e m.price k)
          (a.orders j n (rw at (rests-held s e m (met-rests s o.side o.price m is))) (and_l (held (reg v n).quantity) (eqb (reg v n).id m.id) t)
          (ap (λ (x : Regular). x.id) at ∙ sym (eqb-true (reg v n).id m.id (and_r (held (reg v n).quantity) (eqb (reg v n).id m.id) t))))
          (met-in-turn k own);
      stands = resting j (rw at (met-rests s o.side o.price m is)) (ap (λ (x : Regular). x.id) at) (ap (λ (x : Regular). x.price) at) (rw at le);
      shown = λ n t. none-resting n (shows-rests s e (regular_at v n) t);
      legging = no-legging h;
      reserve = λ _ _ n t. none-resting n t;
      hit = λ n t. absurd (a.both j n (rw at (rests-held s e m (met-rests s o.side o.price m is))) (and_l (held (cx v n).quantity) (eqb (cx v n).id m.id) t)
          (ap (λ (x : Regular). x.id) at ∙ sym (eqb-true (cx v n).id m.id (and_r (held (cx v n).quantity) (eqb (cx v n).id m.id) t))));
    }

  -- It hits the legging order: its own price is reached, and strictly better than that of every regular order that is met
  pub record HitsFirst : Type 0 where
    pub there : held l.quantity ≡ true
    pub priced : held (own_price l) ≡ true
    pub reached : reaches o.side o.price (own_price l) ≡ true
    pub alone : (n : ℕ) → met (reg v n) ≡ true → better e (own_price l) (reg v n).price ≡ true

  -- it is met before a regular order at price p (0: none), and before every other that is met
  pub hits-first : (p : ℕ) → legging_first o l p ≡ true → ((n : ℕ) → met (reg v n) ≡ true → better e (own_price l) (reg v n).price ≡ true) → HitsFirst
  hits-first p h alone = record {
    there = first-held o l p h;
    priced = unfold legging_first in (search (and_l, and_r, h));
    reached = unfold legging_first in (search (and_l, and_r, h));
    alone = alone;
  }

  -- or none is met
  pub nobody-met : Chosen no_regular met v.regular nobody → (n : ℕ) → met (reg v n) ≡ true → ⊥
  nobody-met none n t = clash t (none n (held_fits v.regular n (rests-held s e (reg v n) (met-rests s o.side o.price (reg v n) t))))

  module _ (h : HitsFirst) where
    own : own_price l ≡ l.price
    own = own_is l l.price h.there refl

    -- what rests and is reached is strictly worse
    worse : (n : ℕ) → rests_at s e (reg v n) ≡ true → reaches o.side o.price (reg v n).price ≡ true → better e (own_price l) (reg v n).price ≡ true
    worse n r t = h.alone n (met-in s o.side o.price (reg v n) r t)

    none_before : (n : ℕ) → rests_at s e (regular_at v n) ≡ true → better e (regular_at v n).price l.price ≡ false
    unfolding regular_at
    none_before n r =
        rw (← own) (is_false (better e (reg v n).price (own_price l)) (λ b.
        better-irrefl e (own_price l) (better-trans e (own_price l) (reg v n).price (own_price l)
        (worse n r (reaches-better o.side o.price (reg v n).price (own_price l) (held-pos (own_price l) h.priced) h.reached b)) b)))

    none_beside : (n : ℕ) → rests_at s e (regular_at v n) ≡ true → (regular_at v n).price ≢ l.price
    unfolding regular_at
    none_beside n r q =
        let same : own_price l ≡ (reg v n).price = own ∙ sym q in
        better-irrefl e (reg v n).price (subst (λ (p : ℕ). better e p (reg v n).price ≡ true) same (worse n r (subst (λ (p : ℕ). reaches o.side o.price p ≡ true) same h.reached)))

    -- the maker is no regular order
    pub hit-passes-none : (k taker maker : ℕ) → MakerStands v s e l.price k maker → ((i : ℕ) → is_regular_of maker (regular_at v i) ≡ true → ⊥) →
        NonePassedOver v s o.side l.price k taker maker
    hit-passes-none k taker maker there none = record {
      stands = there;
      turn = λ _ _ i t. absurd (none i t);
      shown = λ n t. none_before n (shows-rests s e (regular_at v n) t);
      legging = subst (λ (p : ℕ). better e (own_price l) p ≡ false) own (is_false (better e (own_price l) (own_price l)) (better-irrefl e (own_price l)));
      reserve = λ _ _ n t. none_before n t;
      hit = λ _ _ n t. none_beside n t;
    }

-- A complex order that takes ------------------------------------------------------------------

-- the complex order x takes side e of series s at price p: nothing better shows there, and no legging order is better
pub record Best (v : Venue) (s e p : ℕ) : Type 0 where
  pub shown : (n : ℕ) → shows_at s e (reg v n) ≡ true → better e (reg v n).price p ≡ false
  pub legging : better e (own_price (legging_at v s e)) p ≡ false

-- the best regular price is so where no legging order is better; a clear price always
pub best-price : (v : Venue) (s e : ℕ) → better e (own_price (legging_at v s e)) (best_regular v s e) ≡ false → Best v s e (best_regular v s e)
unfolding best_regular
best-price v s e h = record { shown = λ n t. is_false _ (best-best s e v.regular n t); legging = h }

pub clear-best-price : (v : Venue) (s e : ℕ) → held (clear_price v s e) ≡ true → Best v s e (clear_price v s e)
clear-best-price v s e h =
    subst (Best v s e) (sym (clear-best v s e h)) (best-price v s e (go (better e (own_price (legging_at v s e)) (best_regular v s e)) refl (unfold clear_price in h)))
  where
    go : (b : Bool) → better e (own_price (legging_at v s e)) (best_regular v s e) ≡ b → held (if b then 0 else best_regular v s e) ≡ true →
        better e (own_price (legging_at v s e)) (best_regular v s e) ≡ false
    go true x q = absurd (false≢true q)
    go false x q = x

-- with the regular order at place i
pub taking-passes-none : (v : Venue) → Apart v → (s d p x : ℕ) → Best v s (opposite d) p → (c : ℕ) → held (cx v c).quantity ≡ true → (cx v c).id ≡ x →
    (i k : ℕ) → rests_at s (opposite d) (reg v i) ≡ true → (reg v i).price ≡ p → k ≤ (reg v i).quantity → NonePassedOver v s d p k x (reg v i).id
unfolding regular_at complex_at is_regular_of is_complex_of
taking-passes-none v a s d p x b c hc ex i k hi e le = record {
  stands = resting i hi refl e le;
  turn = λ n t.
      absurd (a.both n c (and_l (held (reg v n).quantity) (eqb (reg v n).id x) t) hc (eqb-true (reg v n).id x (and_r (held (reg v n).quantity) (eqb (reg v n).id x) t) ∙ sym ex));
  shown = b.shown;
  legging = b.legging;
  reserve = λ n t.
      absurd (a.both n c (and_l (held (reg v n).quantity) (eqb (reg v n).id x) t) hc (eqb-true (reg v n).id x (and_r (held (reg v n).quantity) (eqb (reg v n).id x) t) ∙ sym ex));
  hit = λ n t.
      absurd (a.both i n (rests-held s (opposite d) (reg v i) hi) (and_l (held (cx v n).quantity) (eqb (cx v n).id (reg v i).id) t)
      (sym (eqb-true (cx v n).id (reg v i).id (and_r (held (cx v n).quantity) (eqb (cx v n).id (reg v i).id) t))));
}
