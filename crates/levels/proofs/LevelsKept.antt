-- The levels that are kept: made anew, and kept right when an order is added or filled.
use mathlib.Core.Path.{◌≡◌, refl, sym, ap, ap₂, subst, ◌∙◌}
use mathlib.Core.Bool.{true, false, true≢false}
use mathlib.Core.List.{List, ◌∷◌}
use Prim.Native.Nat.{ℕ, suc, min, ◌+◌, ◌*◌, ◌-◌, ◌/◌, ◌%◌, ◌≤◌, ◌<◌}
use native.Mathlib.Omega.{arith}
use native.Mathlib.Nat.{sub-zero}
use native.Mathlib.Decide.{dec_lt, ℕ_discrete}
use lib.ListN.{length, get_or, set}
use Rattle.rules.specs.declared.Regular.{Regular}
use Rattle.rules.specs.declared.Venue.{Venue}
use Rattle.rules.specs.Base.{held}
use Rattle.rules.specs.Words.{place_of, no_regular, regular_at, with_regular}
use Rattle.rules.specs.Prices.{shown_size, best_in, size_in, shows_at}
use Rattle.rules.specs.Standing.{shows_again, show_again}
use Rattle.rules.specs.Trading.{less_regular, fill_regular, put_regular}
use Rattle.rules.proofs.Tests.{held-pos, pos-held}
use Rattle.rules.proofs.Better.{is_false}
use Rattle.rules.proofs.Sizes.{shows-rests, rests-series, rests-side}
use Rattle.places.specs.declared.Level.{Level}
use Rattle.places.specs.Layout.{size, upto, regulars_used, complexes_used, regular_in, regular_key, venue_of, level_of, level_in, none_shows_again, Marked, Right}
use Rattle.places.specs.Layout.{Beside, SameBeside, LevelPut, Counts, SameCounts, Orderly, Below, Laid, Loaded, Loadable}
use Rattle.places.proofs.Parts.{regulars-few, regulars-many, regular-at, regular-past}
use Rattle.place_writes.proofs.Closed.{regulars-filled, complexes-filled}
use Rattle.rules.proofs.Filling.{reg, fill-fewer, filled-other, filled-same}
use Rattle.rules.proofs.Again.{again-at, again-fewer}
use Rattle.rules.proofs.Showing.{again-same}
use Rattle.places.proofs.Beside.{all-showing}
use Rattle.places.proofs.Orderly.{orderly-put, orderly-fewer}
use Rattle.levels.specs.Grid.{no_level, with_order, level_by, LevelsPut}
use Rattle.levels.proofs.Scans.{upto-back, upto-end}
use Rattle.levels.proofs.LevelWithOrder.{put_in, put-size, series-in, side-in, level-used}
use Rattle.levels.proofs.LevelChanges.{fill-other, fill-best, level-put, level-bound, with-own, level-join, level-past}

-- Places of series and sides ------------------------------------------------------------------

place_in : (s d : ℕ) → s < 8 → d < 2 → place_of s d < 16
unfolding place_of
place_in s d hs hd = omega arith

place-series : (s d : ℕ) → d < 2 → place_of s d / 2 ≡ s
unfolding place_of
place-series s d h = omega arith

place-side : (s d : ℕ) → d < 2 → place_of s d % 2 ≡ d
unfolding place_of
place-side s d h = omega arith

place-apart : (s d t e : ℕ) → d < 2 → e < 2 → place_of s d ≡ place_of t e → (s ≡ t) × (d ≡ e)
unfolding place_of
place-apart s d t e h k q = (omega arith, omega arith)

place-back : {s d : ℕ} (m : ℕ) → s ≡ m / 2 → d ≡ m % 2 → m ≡ place_of s d
unfolding place_of
place-back m u v = omega arith

-- the key of what stands at a place is one of the 16
pub key-few : (b : List ℕ) (i k : ℕ) → k ≡ regular_key (regular_in b i) → k < 16
unfolding regular_key
key-few b i k e = rw e (place_in (regular_in b i).series (regular_in b i).side (series-in b i (regular_in b i) refl) (side-in b i (regular_in b i) refl))

-- All levels anew -----------------------------------------------------------------------------

-- the levels before n are none
pub record Zeroing (a b : List ℕ) (n : ℕ) : Type 0 where
  pub few : n ≤ 16
  pub long : length b ≡ size
  pub venue : venue_of b ≡ venue_of a
  pub regulars : regulars_used b ≡ regulars_used a
  pub complexes : complexes_used b ≡ complexes_used a
  pub levels : (m : ℕ) → m < n → level_in b m ≡ no_level
  pub marked : Marked a → Marked b

pub zeroing-start : (a : List ℕ) → length a ≡ size → Zeroing a a 0
zeroing-start a h = record { few = omega arith; long = h; venue = refl; regulars = refl; complexes = refl; levels = λ m k. absurd (omega arith); marked = λ x. x }

pub zeroing-turn : (a b c : List ℕ) (n : ℕ) → Zeroing a b n → n < 16 → length c ≡ length b → LevelPut n no_level b c → Zeroing a c (n + 1)
zeroing-turn a b c n x h long p = record {
  few = omega arith;
  long = long ∙ x.long;
  venue = p.venue ∙ x.venue;
  regulars = p.regulars ∙ x.regulars;
  complexes = p.complexes ∙ x.complexes;
  levels = λ m k. at m k (ℕ_discrete m n);
  marked = λ y. p.marked (x.marked y);
}
  where
    at : (m : ℕ) → m < n + 1 → Dec (m ≡ n) → level_in c m ≡ no_level
    at m k (yes e) = ap (level_in c) e ∙ p.here
    at m k (no e) = p.others m (omega arith) e ∙ x.levels m (omega arith)

pub zeroing-end : (a b : List ℕ) (n : ℕ) → Zeroing a b n → 16 ≤ n → LevelsPut (λ _. no_level) a b
zeroing-end a b n x h = record { venue = x.venue; regulars = x.regulars; complexes = x.complexes; levels = λ m k. x.levels m (omega (arith, x.few)); marked = x.marked }

-- the same order stands at a place
same-order : (a b : List ℕ) (i : ℕ) → venue_of b ≡ venue_of a → regulars_used b ≡ regulars_used a → i < regulars_used a → regular_in b i ≡ regular_in a i
same-order a b i e u h = sym (regular-at b i (omega arith)) ∙ ap (λ (v : Venue). regular_at v i) e ∙ regular-at a i h

-- the levels are those of the n places in use, from i on
pub record Making (a b : List ℕ) (n i : ℕ) : Type 0 where
  pub below : i ≤ n
  pub used : n ≡ regulars_used a
  pub long : length b ≡ size
  pub put : LevelsPut (level_by (upto (regular_in a) i (n - i))) a b
  pub bound : (m : ℕ) → m < 16 → (level_in b m).size ≤ (n - i) * 4294967295

pub making-start : (a b : List ℕ) (n : ℕ) → n ≡ regulars_used b → length b ≡ size → LevelsPut (λ _. no_level) a b → Making b b n n
unfolding level_by level_of best_in size_in
making-start a b n e long p = record {
  below = omega arith;
  used = e;
  long = long;
  put = record {
    venue = refl;
    regulars = refl;
    complexes = refl;
    levels = λ m h. p.levels m h ∙ ap (λ (os : List Regular). level_of (m / 2) (m % 2) os) (sym (upto-end (regular_in b) n n (omega arith)));
    marked = λ x. x;
  };
  bound = λ m h. omega (arith, ap (λ (l : Level). l.size) (p.levels m h));
}

module _ (a b c : List ℕ) (n i : ℕ) (x : Making a b n i) (h : 0 < i) (o : Regular) (eo : o ≡ regular_in b (i - 1)) (k : ℕ) (ek : k ≡ regular_key (regular_in b (i - 1)))
    (l r : Level) (el : l ≡ level_in b k) (er : r ≡ with_order o l) (q : o.quantity < 4294967296) (long : length c ≡ length b) (p : LevelPut k r b c) where
  first : o ≡ regular_in a (i - 1)
  first = eo ∙ same-order a b (i - 1) x.put.venue x.put.regulars (omega (arith, x.below, x.used))

  side : o.side < 2
  side = side-in b (i - 1) o eo

  series : o.series < 8
  series = series-in b (i - 1) o eo

  key : k ≡ place_of o.series o.side
  unfolding regular_key
  key = ek ∙ ap (λ (z : Regular). place_of z.series z.side) (sym eo)

  -- one more in front
  more : (s d : ℕ) → level_of s d (upto (regular_in a) (i - 1) (n - (i - 1))) ≡ level_of s d (o ∷ upto (regular_in a) i (n - i))
  more s d = ap (level_of s d) (upto-back (regular_in a) i n h x.below) ∙ ap (λ (z : Regular). level_of s d (z ∷ upto (regular_in a) i (n - i))) (sym first)

  made : (m : ℕ) → m < 16 → Dec (m ≡ k) → level_in c m ≡ level_by (upto (regular_in a) (i - 1) (n - (i - 1))) m
  unfolding level_by
  made m f (yes e) =
      let es : o.series ≡ m / 2 = sym (place-series o.series o.side side) ∙ ap (λ (z : ℕ). z / 2) (sym (e ∙ key)) in
      let ed : o.side ≡ m % 2 = sym (place-side o.series o.side side) ∙ ap (λ (z : ℕ). z % 2) (sym (e ∙ key)) in
      ap (level_in c) e ∙ p.here ∙ er ∙ ap (with_order o) (el ∙ ap (level_in b) (sym e) ∙ x.put.levels m f)
      ∙ sym (level-join (m / 2) (m % 2) o (upto (regular_in a) i (n - i)) es ed) ∙ sym (more (m / 2) (m % 2))
  made m f (no e) =
      p.others m f e ∙ x.put.levels m f
      ∙ sym (level-past (m / 2) (m % 2) o (upto (regular_in a) i (n - i)) (λ u v. e (back u v))) ∙ sym (more (m / 2) (m % 2))
    where
      back : o.series ≡ m / 2 → o.side ≡ m % 2 → m ≡ k
      back u v = place-back m u v ∙ sym key

  size_of : (m : ℕ) → m < 16 → Dec (m ≡ k) → (level_in c m).size ≤ (n - (i - 1)) * 4294967295
  size_of m f (yes e) =
      omega (
        arith,
        ap (λ (z : Level). z.size) (ap (level_in c) e ∙ p.here ∙ er ∙ with-own o l),
        put-size o.series o.side o l,
        ap (λ (z : Level). z.size) (el ∙ ap (level_in b) (sym e)),
        x.bound m f,
        x.below,
      )
  size_of m f (no e) = omega (arith, ap (λ (z : Level). z.size) (p.others m f e), x.bound m f, x.below)

  pub making-turn : Making a c n (i - 1)
  making-turn = record {
    below = omega (arith, x.below);
    used = x.used;
    long = long ∙ x.long;
    put = record {
      venue = p.venue ∙ x.put.venue;
      regulars = p.regulars ∙ x.put.regulars;
      complexes = p.complexes ∙ x.put.complexes;
      levels = λ m f. made m f (ℕ_discrete m k);
      marked = λ y. p.marked (x.put.marked y);
    };
    bound = λ m f. size_of m f (ℕ_discrete m k);
  }

pub making-bound : (a b : List ℕ) (n i m : ℕ) → Making a b n i → m < 16 → (level_in b m).size ≤ 549755813760
making-bound a b n i m x h = let f = regulars-few a in omega (arith, x.bound m h, x.used)

pub making-end : (a b c : List ℕ) (n i : ℕ) → LevelsPut (λ _. no_level) a b → Making b c n i → i ≤ 0 → LevelsPut (level_by (venue_of a).regular) a c
unfolding level_by
making-end a b c n i p x h = record {
  venue = x.put.venue ∙ p.venue;
  regulars = x.put.regulars ∙ p.regulars;
  complexes = x.put.complexes ∙ p.complexes;
  levels = λ m f. x.put.levels m f ∙ ap (λ (j : ℕ). level_of (m / 2) (m % 2) (upto (regular_in b) j (n - j))) zero-i
      ∙ ap (λ (j : ℕ). level_of (m / 2) (m % 2) (upto (regular_in b) 0 j)) (sub-zero n ∙ x.used) ∙ level-used b (m / 2) (m % 2)
      ∙ ap (λ (v : Venue). level_of (m / 2) (m % 2) v.regular) p.venue;
  marked = λ y. x.put.marked (p.marked y);
}
  where
    zero-i : i ≡ 0
    zero-i = omega arith

-- they are then those of the orders
levels-anew : (a b : List ℕ) → LevelsPut (level_by (venue_of a).regular) a b → (s d : ℕ) → s < 8 → d < 2 → level_in b (place_of s d) ≡ level_of s d (venue_of b).regular
unfolding level_by
levels-anew a b p s d hs hd =
    p.levels (place_of s d) (place_in s d hs hd) ∙ ap₂ (λ (t e : ℕ). level_of t e (venue_of a).regular) (place-series s d hd) (place-side s d hd)
    ∙ ap (λ (w : Venue). level_of s d w.regular) (sym p.venue)

-- a venue laid, with its levels
pub loaded-all : (v : Venue) (a b : List ℕ) → Loadable v → Laid v a → LevelsPut (level_by (venue_of a).regular) a b → Loaded v b
loaded-all v a b k x p = record {
  venue = p.venue ∙ x.venue;
  dense = record {
    regulars = regulars-filled a b (ap (λ (w : Venue). w.regular) p.venue) p.regulars x.regulars;
    complexes = complexes-filled a b (ap (λ (w : Venue). w.complex) p.venue) p.complexes x.complexes;
    right = record {
      levels = levels-anew a b p;
      orders = subst (λ (w : Venue). Orderly w.regular) (sym (p.venue ∙ x.venue)) k.orders;
      marked = p.marked x.marked;
    };
  };
}

-- A level read --------------------------------------------------------------------------------

pub level-read : (b : List ℕ) (s d n : ℕ) (l : Level) → Right b → s < 8 → d < 2 → n ≡ place_of s d → l ≡ level_in b n → l ≡ level_of s d (venue_of b).regular
level-read b s d n l r hs hd en el = el ∙ ap (level_in b) en ∙ r.levels s d hs hd

pub place-low : (s d n : ℕ) → s < 8 → d < 2 → n ≡ place_of s d → n < 16
place-low s d n hs hd e = rw e (place_in s d hs hd)

-- how large it is
module _ (b : List ℕ) (few : (k : ℕ) → get_or b k 0 < 4294967296) where
  quantities : (i : ℕ) → (get_or (venue_of b).regular i no_regular).quantity < 4294967296
  unfolding regular_in regular_at
  quantities i =
      elim (dec_lt i (regulars_used b)) [
        | yes h ↦ omega (arith, ap (λ (o : Regular). o.quantity) (regular-at b i h), few (4 * i + 3))
        | no h ↦ omega (arith, ap (λ (o : Regular). o.quantity) (regular-past b i (omega arith)))
      ]

  pub level-most : (s d : ℕ) (l : Level) → l ≡ level_of s d (venue_of b).regular → l.size ≤ 549755813760
  level-most s d l e =
      omega (arith, ap (λ (x : Level). x.size) e, level-bound s d (venue_of b).regular (λ i _. quantities i), ap (λ (k : ℕ). k * 4294967295) (regulars-many b))

  pub level-small : (s d n : ℕ) (l : Level) → Right b → s < 8 → d < 2 → n ≡ place_of s d → l ≡ level_in b n → l.size ≤ 549755813760
  level-small s d n l r hs hd en el = level-most s d l (level-read b s d n l r hs hd en el)

-- An order added ------------------------------------------------------------------------------

put_other : (s d : ℕ) (o : Regular) (l : Level) → (o.series ≡ s → o.side ≡ d → ⊥) → put_in s d o l ≡ l
unfolding put_in
put_other s d o l n = rw (is_false (shows_at s d o) (λ h. n (rests-series s d o (shows-rests s d o h)) (rests-side s d o (shows-rests s d o h))))

module _ (a b c : List ℕ) (n : ℕ) (o : Regular) (l r : Level) (u : regulars_used a < 128) (hs : o.series < 8) (hd : o.side < 2)
    (hp : held o.price ≡ true) (low : Below o.id (venue_of a).regular) (hv : held o.display ≡ true)
    (en : n ≡ place_of o.series o.side) (el : l ≡ level_in a n) (er : r ≡ with_order o l)
    (ev : venue_of b ≡ put_regular (regulars_used a) o (venue_of a)) (x : Beside (suc (regulars_used a)) (complexes_used a) a b) (p : LevelPut n r b c) where
  book : (venue_of c).regular ≡ set (venue_of a).regular (regulars_used a) o
  unfolding put_regular with_regular
  book = ap (λ (v : Venue). v.regular) (p.venue ∙ ev)

  room : regulars_used a < length (venue_of a).regular
  room = omega (arith, regulars-many a)

  free : held (get_or (venue_of a).regular (regulars_used a) no_regular).quantity ≡ false
  unfolding regular_at
  free = ap (λ (y : Regular). held y.quantity) (regular-past a (regulars_used a) (omega arith))

  front : (i : ℕ) → held (get_or (venue_of a).regular i no_regular).quantity ≡ true → i < regulars_used a
  unfolding regular_at
  front i h =
      elim (dec_lt i (regulars_used a)) [
        | yes w ↦ w
        | no w ↦ absurd (true≢false (sym h ∙ ap (λ (y : Regular). held y.quantity) (regular-past a i (omega arith))))
      ]

  level : (s d : ℕ) → s < 8 → d < 2 → Right a → Dec (place_of s d ≡ n) → level_in c (place_of s d) ≡ put_in s d o (level_of s d (venue_of a).regular)
  level s d f g k (yes e) =
      let z = place-apart s d o.series o.side g hd (e ∙ en) in
      ap (level_in c) e ∙ p.here ∙ er ∙ with-own o l
      ∙ ap (put_in o.series o.side o) (level-read a o.series o.side n l k hs hd en el)
      ∙ ap₂ (λ (t w : ℕ). put_in t w o (level_of t w (venue_of a).regular)) (sym z.0) (sym z.1)
  level s d f g k (no e) =
      p.others (place_of s d) (place_in s d f g) e ∙ x.levels (place_of s d) (place_in s d f g) ∙ k.levels s d f g
      ∙ sym (put_other s d o (level_of s d (venue_of a).regular) (λ t w. e (ap₂ place_of (sym t) (sym w) ∙ sym en)))

  pub added : (venue_of c ≡ put_regular (regulars_used a) o (venue_of a)) × Counts (suc (regulars_used a)) (complexes_used a) a c
  added = (
    p.venue ∙ ev,
    record {
      regulars = p.regulars ∙ x.regulars;
      complexes = p.complexes ∙ x.complexes;
      right = λ k. record {
        levels = λ s d f g. level s d f g k (ℕ_discrete (place_of s d) n) ∙ sym (ap (level_of s d) book ∙ level-put s d o (venue_of a).regular (regulars_used a) room free);
        orders = subst Orderly (sym book) (orderly-put (venue_of a).regular (regulars_used a) o room hp hv (λ i h. (front i h, low i h)) k.orders);
        marked = p.marked (x.marked k.marked);
      };
    },
  )

-- An order filled -----------------------------------------------------------------------------

-- what is left of it has a shown quantity
less-display : (k : ℕ) (o : Regular) → held (less_regular k o).quantity ≡ true → held o.display ≡ true → held (less_regular k o).display ≡ true
unfolding less_regular
less-display k o h z = let a = held-pos (o.quantity - k) h in let b = held-pos o.display z in pos-held (min o.display (o.quantity - k)) (omega arith)

fill-display : (i k : ℕ) (v : Venue) → i < length v.regular → (j : ℕ) → Dec (j ≡ i) → held (reg (fill_regular i k v) j).quantity ≡ true →
    held (reg v j).display ≡ true → held (reg (fill_regular i k v) j).display ≡ true
fill-display i k v f j (yes e) h z =
    let same : reg (fill_regular i k v) j ≡ less_regular k (reg v i) = ap (reg (fill_regular i k v)) e ∙ filled-same i k v f in
    subst (λ (o : Regular). held o.display ≡ true) (sym same)
    (less-display k (reg v i) (subst (λ (o : Regular). held o.quantity ≡ true) same h) (subst (λ (n : ℕ). held (reg v n).display ≡ true) e z))
fill-display i k v f j (no e) h z = subst (λ (o : Regular). held o.display ≡ true) (sym (filled-other i k v j e)) z

module _ (a b : List ℕ) (i k n : ℕ) (o : Regular) (l : Level) (hi : i < regulars_used a) (eo : o ≡ regular_in a i) (en : n ≡ regular_key (regular_in a i)) (el : l ≡ level_in a n)
    (ev : venue_of b ≡ fill_regular i k (venue_of a)) (x : SameBeside a b) where
  was : get_or (venue_of a).regular i no_regular ≡ o
  unfolding regular_at
  was = regular-at a i hi ∙ sym eo

  inside : i < length (venue_of a).regular
  inside = let y = regulars-few a in omega (arith, regulars-many a)

  filled : (venue_of b).regular ≡ set (venue_of a).regular i (less_regular k (get_or (venue_of a).regular i no_regular))
  unfolding fill_regular with_regular regular_at
  filled = ap (λ (v : Venue). v.regular) ev

  own : n ≡ place_of o.series o.side
  unfolding regular_key
  own = en ∙ ap (λ (z : Regular). place_of z.series z.side) (sym eo)

  own-series : o.series < 8
  own-series = series-in a i o eo

  own-side : o.side < 2
  own-side = side-in a i o eo

  -- a side of which the order is not at the best price keeps its level
  others : (s d : ℕ) → (o.series ≡ s → o.side ≡ d → o.price ≡ best_in s d (venue_of a).regular → ⊥) → level_of s d (venue_of b).regular ≡ level_of s d (venue_of a).regular
  others s d h = ap (level_of s d) filled ∙ fill-other s d i k (venue_of a).regular inside (rw was h)

  in_order : Right a → Orderly (venue_of b).regular
  in_order r = subst (λ (v : Venue). Orderly v.regular) (sym ev)
      (orderly-fewer (fill_regular i k (venue_of a)).regular (venue_of a).regular (fill-fewer i k (venue_of a)) (λ j. fill-display i k (venue_of a) inside j (ℕ_discrete j i)) r.orders)

  price-is : Right a → l.price ≡ best_in o.series o.side (venue_of a).regular
  unfolding level_of
  price-is r = ap (λ (y : Level). y.price) (level-read a o.series o.side n l r own-series own-side own el)

  pub filled_off : (o.price ≡ l.price → ⊥) → SameCounts a b
  filled_off h = record {
    regulars = x.regulars;
    complexes = x.complexes;
    right = λ r. record {
      levels = λ s d f g. x.levels (place_of s d) (place_in s d f g) ∙ r.levels s d f g
          ∙ sym (others s d (λ t e p. h (p ∙ ap₂ (λ (y z : ℕ). best_in y z (venue_of a).regular) (sym t) (sym e) ∙ sym (price-is r))));
      orders = in_order r;
      marked = x.marked r.marked;
    };
  }

  -- the level of its side is put anew, as it is now
  module _ (c : List ℕ) (y : Level) (p : LevelPut n y b c) (ey : Right a → y ≡ level_of o.series o.side (venue_of b).regular) where
    anew : (s d : ℕ) → s < 8 → d < 2 → Right a → Dec (place_of s d ≡ n) → level_in c (place_of s d) ≡ level_of s d (venue_of b).regular
    anew s d f g r (yes e) =
        let z = place-apart s d o.series o.side g own-side (e ∙ own) in
        ap (level_in c) e ∙ p.here ∙ ey r ∙ ap₂ (λ (t w : ℕ). level_of t w (venue_of b).regular) (sym z.0) (sym z.1)
    anew s d f g r (no e) =
        p.others (place_of s d) (place_in s d f g) e ∙ x.levels (place_of s d) (place_in s d f g) ∙ r.levels s d f g
        ∙ sym (others s d (λ t w _. e (ap₂ place_of (sym t) (sym w) ∙ sym own)))

    pub filled_on : (venue_of c ≡ fill_regular i k (venue_of a)) × SameCounts a c
    filled_on = (
      p.venue ∙ ev,
      record {
        regulars = p.regulars ∙ x.regulars;
        complexes = p.complexes ∙ x.complexes;
        right = λ r. record {
          levels = λ s d f g. anew s d f g r (ℕ_discrete (place_of s d) n) ∙ ap (λ (v : Venue). level_of s d v.regular) (sym p.venue);
          orders = subst (λ (v : Venue). Orderly v.regular) (sym p.venue) (in_order r);
          marked = p.marked (x.marked r.marked);
        };
      },
    )

  -- what is left at the best price
  pub filled-rest : (gone : ℕ) → gone ≡ min k (shown_size o) → o.price ≡ l.price → gone < l.size → (y : Level) → y ≡ record { price = l.price; size = l.size - gone } →
      Right a → y ≡ level_of o.series o.side (venue_of b).regular
  unfolding level_of
  filled-rest gone eg ep h y ey r =
      let e = level-read a o.series o.side n l r own-series own-side own el in
      let q : o.price ≡ best_in o.series o.side (venue_of a).regular = ep ∙ price-is r in
      let best = best_in o.series o.side (venue_of a).regular in
      let all = size_in o.series o.side best (venue_of a).regular in
      ey ∙ ap (λ (z : Level). record { price = z.price; size = z.size - gone }) e ∙ ap (λ (g : ℕ). record { price = best; size = all - g }) eg
      ∙ sym (ap (level_of o.series o.side) filled
      ∙ fill-best o.series o.side i k (venue_of a).regular inside (ap (λ (z : Regular). z.series) was) (ap (λ (z : Regular). z.side) was) (ap (λ (z : Regular). z.price) was ∙ q)
      (subst (λ (z : Regular). min k (shown_size z) < all) (sym was) (subst (λ (g : ℕ). g < all) eg (subst (λ (z : Level). gone < z.size) e h)))
      ∙ ap (λ (z : Regular). record { price = best; size = all - min k (shown_size z) }) was)

-- Showing again -------------------------------------------------------------------------------

-- without the show-again flag nothing changes
pub shown-already : (b : List ℕ) → Right b → none_shows_again b ≡ true → (venue_of b ≡ show_again (venue_of b)) × SameCounts b b
shown-already b r z = (sym (again-same (venue_of b) (all-showing b r.marked z)), record { regulars = refl; complexes = refl; right = λ x. x })

-- a shown quantity stays
again-display : (v : Venue) (i : ℕ) → held (reg v i).display ≡ true → held (reg (show_again v) i).display ≡ true
unfolding shows_again
again-display v i z = subst (λ (o : Regular). held o.display ≡ true) (sym (again-at v i)) z

pub shown-again : (a b c : List ℕ) → venue_of b ≡ show_again (venue_of a) → SameBeside a b → LevelsPut (level_by (venue_of b).regular) b c →
    (venue_of c ≡ show_again (venue_of a)) × SameCounts a c
shown-again a b c e x p = (
  venue,
  record {
    regulars = p.regulars ∙ x.regulars;
    complexes = p.complexes ∙ x.complexes;
    right = λ r. record {
      levels = levels-anew b c p;
      orders = subst (λ (v : Venue). Orderly v.regular) (sym venue)
          (orderly-fewer (show_again (venue_of a)).regular (venue_of a).regular (again-fewer (venue_of a)) (λ i _. again-display (venue_of a) i) r.orders);
      marked = p.marked (x.marked r.marked);
    };
  },
)
  where
    venue : venue_of c ≡ show_again (venue_of a)
    venue = p.venue ∙ e
