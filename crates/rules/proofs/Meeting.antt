-- Who is met first: "best own price first, then regular by id, legging last at equal price". (e): "At one price all shown size trades by id, then, in trades
-- of its own, all reserve by id, then the legging order."
use Rattle.std.specs.Prelude.{if◌then◌else◌}
use mathlib.Core.Path.{◌∙◌, ◌≡◌, refl, sym}
use mathlib.Core.Bool.{Bool, ◌&&◌, ◌||◌, false, false≢true, not, true, true≢false}
use mathlib.Core.List.{List}
use Prim.Native.Nat.{◌<◌, ◌≤◌, ℕ}
use native.Mathlib.Omega.{arith}
use lib.Dec.{eqb, ltb}
use lib.ListN.{get_or}
use borrow.Author.Tests.{eq-eqb, eqb-true, le-ltb, lt-ltb, ltb-false, ltb-true}
use Rattle.rules.specs.declared.Legging.{Legging}
use Rattle.rules.specs.declared.Regular.{Regular}
use Rattle.rules.specs.Base.{first, held, picked}
use Rattle.rules.specs.Words.{earlier, no_regular, opposite}
use Rattle.rules.specs.Prices.{better, own_price, rests_at, shown_size}
use Rattle.rules.specs.Order.{is_met, legging_first, price_then_id, shown_then_id}
use Rattle.rules.proofs.Better.{better-irrefl, better-past, better-total, better-trans, is_false}
use Rattle.rules.proofs.Filling.{held_fits}
use Rattle.rules.proofs.Picking.{Ranks, first-least}
use Rattle.rules.proofs.Sizes.{rests-held, rests-side}
use Rattle.rules.proofs.Tests.{and_l, and_r, or-false-l, or-false-r, or_r}

-- Rank at one price -----------------------------------------------------------------------------

-- x and y: whether each shows; i and j: their ids
abbrev rank : (x y : Bool) (i j : ℕ) → Bool
rank x y i j = if y then x && ltb i j else (x || ltb i j)

rank-asym : (x y : Bool) (i j : ℕ) → rank x y i j ≡ true → rank y x j i ≡ false
rank-asym true true i j h = let z = ltb-true i j h in le-ltb j i (omega arith)
rank-asym true false i j h = refl
rank-asym false true i j h = absurd (false≢true h)
rank-asym false false i j h = let z = ltb-true i j h in le-ltb j i (omega arith)

rank-past : (x y z : Bool) (i j k : ℕ) → rank x y i j ≡ true → rank x z i k ≡ false → rank z y k j ≡ true
rank-past true true true i j k h n = let a = ltb-true i j h in let b = ltb-false i k n in lt-ltb k j (omega arith)
rank-past true y false i j k h n = absurd (true≢false n)
rank-past true false true i j k h n = refl
rank-past false true z i j k h n = absurd (false≢true h)
rank-past false false true i j k h n = refl
rank-past false false false i j k h n = let a = ltb-true i j h in let b = ltb-false i k n in lt-ltb k j (omega arith)

-- of two that show, the earlier goes first: where every order shows some, the rank is by price and id
pub both-show : (a b : Regular) → held (shown_size a) ≡ true → held (shown_size b) ≡ true → shown_then_id a b ≡ earlier a b
unfolding shown_then_id
both-show a b p q = rw (p, q)

-- places are in rising id: a later order goes before an earlier one where it alone shows, an earlier one before a later where it shows or both do not
pub later_first : (a b : Regular) → b.id < a.id → shown_then_id a b ≡ (held (shown_size a) && not (held (shown_size b)))
unfolding shown_then_id earlier
later_first a b lt = rw (le-ltb a.id b.id (omega arith)) (go (held (shown_size a)) (held (shown_size b)))
  where
    go : (x y : Bool) → (if y then x && false else (x || false)) ≡ (x && not y)
    go true true = refl
    go true false = refl
    go false true = refl
    go false false = refl

pub earlier-first : (a b : Regular) → a.id < b.id → shown_then_id a b ≡ (held (shown_size a) || not (held (shown_size b)))
unfolding shown_then_id earlier
earlier-first a b lt = rw (lt-ltb a.id b.id lt) (go (held (shown_size a)) (held (shown_size b)))
  where
    go : (x y : Bool) → (if y then x && true else (x || true)) ≡ (x || not y)
    go true true = refl
    go true false = refl
    go false true = refl
    go false false = refl

-- Rank of those that are met --------------------------------------------------------------------

or-in : (a b : Bool) → (a ≡ false → b ≡ true) → (a || b) ≡ true
or-in true b h = refl
or-in false b h = h refl

or-none : (a b : Bool) → a ≡ false → b ≡ false → (a || b) ≡ false
or-none a b p q = rw (p, q)

module _ (s d p : ℕ) where
  abbrev met : Regular → Bool
  met = is_met s d p

  met-rests : (o : Regular) → met o ≡ true → rests_at s (opposite d) o ≡ true
  unfolding is_met
  met-rests o h = and_l (rests_at s (opposite d) o) _ h

  met-side : (o : Regular) → met o ≡ true → o.side ≡ opposite d
  met-side o h = rests-side s (opposite d) o (met-rests o h)

  -- the rank, the side known
  abbrev before : Regular → Regular → Bool
  before a b = better (opposite d) a.price b.price || (eqb a.price b.price && rank (held (shown_size a)) (held (shown_size b)) a.id b.id)

  is-before : (a b : Regular) → met a ≡ true → price_then_id a b ≡ before a b
  unfolding price_then_id shown_then_id earlier
  is-before a b h = rw (met-side a h)

  asym : (a b : Regular) → before a b ≡ true → before b a ≡ false
  asym a b h = go (better (opposite d) a.price b.price) refl
    where
      e : ℕ
      e = opposite d

      go : (t : Bool) → better e a.price b.price ≡ t → before b a ≡ false
      go true t =
          or-none _ _ (is_false _ (λ u. better-irrefl e a.price (better-trans e a.price b.price a.price t u)))
          (is_false _ (λ u.
          let q = eqb-true b.price a.price (and_l _ (rank (held (shown_size b)) (held (shown_size a)) b.id a.id) u) in
          better-irrefl e a.price (rw q at t)))
      go false t =
          let u = or_r _ _ t h in
          let q = eqb-true a.price b.price (and_l _ (rank (held (shown_size a)) (held (shown_size b)) a.id b.id) u) in
          let r = rank-asym (held (shown_size a)) (held (shown_size b)) a.id b.id (and_r (eqb a.price b.price) (rank (held (shown_size a)) (held (shown_size b)) a.id b.id) u) in
          or-none _ _ (is_false (better e b.price a.price) (λ w. better-irrefl e a.price (rw (← q) at w)))
          (is_false _ (λ w. true≢false (sym (and_r (eqb b.price a.price) (rank (held (shown_size b)) (held (shown_size a)) b.id a.id) w) ∙ r)))

  past : (a b c : Regular) → before a b ≡ true → before a c ≡ false → before c b ≡ true
  past a b c h n = go (better (opposite d) a.price b.price) refl
    where
      e : ℕ
      e = opposite d

      n1 : better e a.price c.price ≡ false
      n1 = or-false-l _ (eqb a.price c.price && rank (held (shown_size a)) (held (shown_size c)) a.id c.id) n

      n2 : (eqb a.price c.price && rank (held (shown_size a)) (held (shown_size c)) a.id c.id) ≡ false
      n2 = or-false-r (better e a.price c.price) _ n

      go : (t : Bool) → better e a.price b.price ≡ t → before c b ≡ true
      go true t = or-in _ _ (λ w. absurd (true≢false (sym (better-past e a.price c.price b.price t (λ u. true≢false (sym u ∙ n1))) ∙ w)))
      go false t =
          let u = or_r _ _ t h in
          let q = eqb-true a.price b.price (and_l _ (rank (held (shown_size a)) (held (shown_size b)) a.id b.id) u) in
          let r = and_r (eqb a.price b.price) (rank (held (shown_size a)) (held (shown_size b)) a.id b.id) u in
          or-in (better e c.price b.price) _ (λ w.
          let same : a.price ≡ c.price = better-total e a.price c.price n1 (rw (← q) at w) in
          let k : rank (held (shown_size a)) (held (shown_size c)) a.id c.id ≡ false = rw (eq-eqb a.price c.price same) at n2 in
          rw (eq-eqb c.price b.price (sym same ∙ q)) (rank-past (held (shown_size a)) (held (shown_size b)) (held (shown_size c)) a.id b.id c.id r k))

  pub met-ranks : Ranks met price_then_id
  met-ranks = record {
    asym = λ a b p q h. is-before b a q ∙ asym a b (sym (is-before a b p) ∙ h);
    cotrans = λ a b c p q r h n. is-before c b r ∙ past a b c (sym (is-before a b p) ∙ h) (sym (is-before a c p) ∙ n);
  }

  -- The order that is met first -------------------------------------------------------------------

  -- m, of those in os that are met: none has a better price; at its price, where m shows nothing none shows, and of those that show as m does none is earlier
  pub record MetFirst (os : List Regular) (m : Regular) : Type 0 where
    pub best : (i : ℕ) → met (get_or os i no_regular) ≡ true → better (opposite d) (get_or os i no_regular).price m.price ≡ false
    pub shows : (i : ℕ) → met (get_or os i no_regular) ≡ true → (get_or os i no_regular).price ≡ m.price → held (shown_size m) ≡ false → held (shown_size (get_or os i no_regular)) ≡ false
    pub early : (i : ℕ) → met (get_or os i no_regular) ≡ true → (get_or os i no_regular).price ≡ m.price → held (shown_size (get_or os i no_regular)) ≡ held (shown_size m) →
        m.id ≤ (get_or os i no_regular).id

  pub met-first : (os : List Regular) (j : ℕ) (m : Regular) → first met price_then_id os ≡ picked j m → MetFirst os m
  met-first os j m e = record {
    best = λ i h. or-false-l _ (eqb (get_or os i no_regular).price m.price && rank (held (shown_size (get_or os i no_regular))) (held (shown_size m)) (get_or os i no_regular).id m.id) (least i h);
    shows = λ i h q n. none (held (shown_size (get_or os i no_regular))) (held (shown_size m)) (get_or os i no_regular).id m.id (at-price i h q) n;
    early = λ i h q n. not-later (held (shown_size (get_or os i no_regular))) (held (shown_size m)) (get_or os i no_regular).id m.id (at-price i h q) n;
  }
    where
      least : (i : ℕ) → met (get_or os i no_regular) ≡ true → before (get_or os i no_regular) m ≡ false
      least i h = sym (is-before _ m h) ∙ first-least no_regular met price_then_id met-ranks os j m e i (held_fits os i (rests-held s (opposite d) _ (met-rests _ h))) h

      at-price : (i : ℕ) → met (get_or os i no_regular) ≡ true → (get_or os i no_regular).price ≡ m.price →
          rank (held (shown_size (get_or os i no_regular))) (held (shown_size m)) (get_or os i no_regular).id m.id ≡ false
      at-price i h q = rw (eq-eqb (get_or os i no_regular).price m.price q) at (or-false-r (better (opposite d) (get_or os i no_regular).price m.price) _ (least i h))

      none : (x y : Bool) (a b : ℕ) → rank x y a b ≡ false → y ≡ false → x ≡ false
      none true y a b h n = absurd (true≢false (rw n at h))
      none false y a b h n = refl

      not-later : (x y : Bool) (a b : ℕ) → rank x y a b ≡ false → x ≡ y → b ≤ a
      not-later true true a b h n = ltb-false a b h
      not-later true false a b h n = absurd (true≢false n)
      not-later false true a b h n = absurd (false≢true n)
      not-later false false a b h n = ltb-false a b h

  -- "then the legging order": where it is met before m, its own price is strictly better than that of every regular order that is met, shown size and reserve
  pub legging-alone : (os : List Regular) (m : Regular) → MetFirst os m → (o : Regular) → o.side ≡ d → (l : Legging) → legging_first o l m.price ≡ true →
      (i : ℕ) → met (get_or os i no_regular) ≡ true → better (opposite d) (own_price l) (get_or os i no_regular).price ≡ true
  unfolding legging_first
  legging-alone os m f o side l h i t =
      let b : better (opposite o.side) (own_price l) m.price ≡ true = search (and_l, and_r, h) in
      go (better (opposite d) (own_price l) (get_or os i no_regular).price) refl (rw side at b)
    where
      go : (x : Bool) → better (opposite d) (own_price l) (get_or os i no_regular).price ≡ x → better (opposite d) (own_price l) m.price ≡ true →
          better (opposite d) (own_price l) (get_or os i no_regular).price ≡ true
      go true e b = e
      go false e b = absurd (true≢false (sym (better-past (opposite d) (own_price l) (get_or os i no_regular).price m.price b (λ u. true≢false (sym u ∙ e))) ∙ f.best i t))
