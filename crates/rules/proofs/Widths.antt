-- Fields in range: what each place and each record holds fits its width. `Ranged v`: of every place of v, held or free; kept by all that
-- writes one place.
use Rattle.std.specs.Prelude.{if◌then◌else◌}
use mathlib.Core.Path.{◌∙◌, ◌≡◌, refl, subst, sym}
use mathlib.Core.Bool.{Bool, ◌&&◌, false, false≢true, not, true}
use mathlib.Core.List.{List, [], ◌++◌, ◌∷◌}
use Prim.Native.Nat.{◌+◌, ◌-◌, ◌<◌, ◌≤◌, min, suc, zero, ℕ}
use native.Mathlib.Omega.{arith}
use lib.Dec.{eqb, leb}
use lib.IntN.{negsuc, neg_ℤ, pos, ℤ}
use lib.ListN.{get_or, length, length-set, set}
use lib.Signed.{le_z}
use borrow.Author.Tests.{le-leb, leb-true}
use Rattle.rules.specs.declared.Complex.{Complex}
use Rattle.rules.specs.declared.Legging.{Legging}
use Rattle.rules.specs.declared.Listed.{Listed}
use Rattle.rules.specs.declared.Message.TheVariants.{Away, Increment, Percent, Status}
use Rattle.rules.specs.declared.Regular.{Regular}
use Rattle.rules.specs.declared.Venue.{Venue}
use Rattle.rules.specs.Base.{held}
use Rattle.rules.specs.Words.{complex_at, is_away, is_class, is_id, is_limit, is_price, is_quantity, is_ratio, is_series, is_side, is_status, no_complex}
use Rattle.rules.specs.Words.{no_edition, no_legging, no_regular, not_listed, one_to_one, regular_at, status_of, with_complex, with_editions}
use Rattle.rules.specs.Words.{with_generations, with_last, with_reached, with_legging, with_regular, with_series, within}
use Rattle.rules.specs.Settings.{enter_edition, free_edition, is_increment, percentage}
use Rattle.rules.specs.Records.{ForAll, Report, FourBytes}
use Rattle.rules.specs.Standing.{show_again, shows_again}
use Rattle.rules.specs.Trading.{fill_complex, fill_regular, less_complex, less_regular}
use Rattle.rules.specs.Generation.{counted, placed}
use Rattle.rules.specs.Places.{blank_legging, close_gaps}
use Rattle.rules.specs.Refusals.{complex_in_range, regular_in_range, two_leg_in_range}
use Rattle.rules.specs.Step.{set_away, set_figure, set_status}
use Rattle.rules.specs.Sound.{figure_in_range, listed_in_range}
use Rattle.rules.proofs.Again.{again-at}
use Rattle.rules.proofs.Editions.{Dated}
use Rattle.rules.proofs.Filling.{cx, lg, reg}
use Rattle.rules.proofs.Gaps.{was, was_c}
use Rattle.rules.proofs.Integers.{le_out, minus, neg-minus, neg-plus, plus}
use Rattle.rules.proofs.RefusalsLaws.{well_formed}
use Rattle.rules.proofs.Tests.{and_in, and_l, and_r, held-pos, pos-held}

-- Records -------------------------------------------------------------------------------------

pub each_append : (P : Report → Type 0) (a b : List Report) → ForAll P a → ForAll P b → ForAll P (a ++ b)
each_append P [] b h k = k
each_append P (r ∷ a) b h k = (h.0, each_append P a b h.1 k)

-- The venue's fields --------------------------------------------------------------------------

pub record RegFits (o : Regular) : Type 0 where
  pub id : FourBytes o.id
  pub series : o.series < 8
  pub side : o.side < 2
  pub price : o.price ≤ 100000
  pub quantity : o.quantity ≤ 10000
  pub ok : held o.quantity ≡ true → regular_in_range o ≡ true

pub record CxFits (c : Complex) : Type 0 where
  pub id : FourBytes c.id
  pub series1 : c.series1 < 8
  pub side1 : c.side1 < 2
  pub series2 : c.series2 < 8
  pub side2 : c.side2 < 2
  pub high : plus c.limit ≤ 600000
  pub low : minus c.limit ≤ 600000
  pub quantity : c.quantity ≤ 10000
  pub ratio1 : c.ratio1 ≤ 3
  pub ratio2 : c.ratio2 ≤ 3
  pub ok : held c.quantity ≡ true → complex_in_range c ≡ true

pub record LgFits (l : Legging) : Type 0 where
  pub parent : FourBytes l.parent
  pub price : l.price ≤ 100000
  pub quantity : l.quantity ≤ 10000
  pub ok : held l.quantity ≡ true → (is_id l.parent && is_price l.price && is_quantity l.quantity) ≡ true
  pub zero : held l.quantity ≡ false → blank_legging l ≡ true

pub record Ranged (v : Venue) : Type 0 where
  pub regular : (i : ℕ) → RegFits (reg v i)
  pub complex : (i : ℕ) → CxFits (cx v i)
  pub legging : (i : ℕ) → LgFits (lg v i)
  pub listed : (i : ℕ) → listed_in_range (get_or v.series i not_listed) ≡ true
  pub last : v.last ≤ 4294967295
  pub len : length v.legging ≡ 16
  pub eight : length v.series ≡ 8
  pub dated : Dated v

pub no-cx : CxFits no_complex
unfolding plus minus
no-cx = record {
  id = omega arith;
  series1 = omega arith;
  side1 = omega arith;
  series2 = omega arith;
  side2 = omega arith;
  high = omega arith;
  low = omega arith;
  quantity = omega arith;
  ratio1 = omega arith;
  ratio2 = omega arith;
  ok = λ h. absurd (false≢true h);
}

pub no-lg : LgFits no_legging
no-lg = record { parent = omega arith; price = omega arith; quantity = omega arith; ok = λ h. absurd (false≢true h); zero = λ h. unfold blank_legging in refl }

-- One place written ---------------------------------------------------------------------------

pub set-each : {A : Type 0} (P : A → Type 0) (d : A) (l : List A) (i : ℕ) (x : A) → P x → ((j : ℕ) → P (get_or l j d)) → (j : ℕ) → P (get_or (set l i x) j d)
set-each P d [] i x h a j = a j
set-each P d (y ∷ l) zero x h a zero = h
set-each P d (y ∷ l) zero x h a (suc j) = a (suc j)
set-each P d (y ∷ l) (suc i) x h a zero = a 0
set-each P d (y ∷ l) (suc i) x h a (suc j) = set-each P d l i x h (λ n. a (suc n)) j

-- an order with less open, some of it still
quantity-less : (q k : ℕ) → is_quantity q ≡ true → held (q - k) ≡ true → is_quantity (q - k) ≡ true
unfolding is_quantity within
quantity-less q k h t =
    let a = held-pos (q - k) t in
    let b = leb-true q 10000 (and_r (leb 1 q) _ h) in
    and_in _ _ (le-leb 1 (q - k) (omega arith)) (le-leb (q - k) 10000 (omega arith))

display-less : (q k x : ℕ) → within 1 q x ≡ true → held (q - k) ≡ true → within 1 (q - k) (min x (q - k)) ≡ true
unfolding within
display-less q k x h t =
    let a = held-pos (q - k) t in
    let b = leb-true 1 x (and_l _ (leb x q) h) in
    and_in _ _ (le-leb 1 (min x (q - k)) (omega arith)) (le-leb (min x (q - k)) (q - k) (omega arith))

still : (q k : ℕ) → held (q - k) ≡ true → held q ≡ true
still q k t = let a = held-pos (q - k) t in pos-held q (omega arith)

less-fits : (k : ℕ) (o : Regular) → RegFits o → RegFits (less_regular k o)
unfolding less_regular regular_in_range
less-fits k o f = record {
  id = f.id;
  series = f.series;
  side = f.side;
  price = f.price;
  quantity = (let z = f.quantity in omega arith);
  ok = λ t.
      (let z = f.ok (still o.quantity k t) in
      let a : is_id o.id ≡ true = search (and_l, and_r, z) depth 8 in
      let b : is_series o.series ≡ true = search (and_l, and_r, z) depth 8 in
      let c : is_side o.side ≡ true = search (and_l, and_r, z) depth 8 in
      let d : is_price o.price ≡ true = search (and_l, and_r, z) depth 8 in
      let e : is_quantity o.quantity ≡ true = search (and_l, and_r, z) depth 8 in
      let x : within 1 o.quantity o.display ≡ true = search (and_l, and_r, z) depth 8 in
      rw (a, b, c, d, quantity-less o.quantity k e t, display-less o.quantity k o.display x t));
}

again-fits : (o : Regular) → RegFits o → RegFits (shows_again o)
unfolding shows_again regular_in_range
again-fits o f = record { id = f.id; series = f.series; side = f.side; price = f.price; quantity = f.quantity; ok = f.ok }

less_c-fits : (k : ℕ) (c : Complex) → CxFits c → CxFits (less_complex k c)
unfolding less_complex complex_in_range two_leg_in_range one_to_one
less_c-fits k c f = record {
  id = f.id;
  series1 = f.series1;
  side1 = f.side1;
  series2 = f.series2;
  side2 = f.side2;
  high = f.high;
  low = f.low;
  quantity = (let z = f.quantity in omega arith);
  ratio1 = f.ratio1;
  ratio2 = f.ratio2;
  ok = λ t. middle front _ _ (is_ratio c.ratio1) (is_ratio c.ratio2) _ (f.ok (still c.quantity k t)) (λ e. quantity-less c.quantity k e t);
}
  where
    front : Bool
    front =
        is_id c.id && is_series c.series1 && is_side c.side1 && is_series c.series2 && is_side c.side2
        && not (eqb c.series1 c.series2) && is_class c.class
        && is_limit (if eqb c.ratio1 1 && eqb c.ratio2 1 then 200000 else 600000) c.limit

    middle : (a b b' x y z : Bool) → (a && b && x && y && z) ≡ true → (b ≡ true → b' ≡ true) → (a && b' && x && y && z) ≡ true
    middle true true b' true true true h k = rw (k refl)
    middle true true b' true true false h k = absurd (false≢true h)
    middle true true b' true false z h k = absurd (false≢true h)
    middle true true b' false y z h k = absurd (false≢true h)
    middle true false b' x y z h k = absurd (false≢true h)
    middle false b b' x y z h k = absurd (false≢true h)

-- one part of the venue anew
module _ {v : Venue} (r : Ranged v) where
  with-regular : (l : List Regular) → ((i : ℕ) → RegFits (get_or l i no_regular)) → Ranged (with_regular v l)
  unfolding with_regular
  with-regular l h = record { regular = h; complex = r.complex; legging = r.legging; listed = r.listed; last = r.last; len = r.len; eight = r.eight; dated = r.dated }

  with-complex : (l : List Complex) → ((i : ℕ) → CxFits (get_or l i no_complex)) → Ranged (with_complex v l)
  unfolding with_complex
  with-complex l h = record { regular = r.regular; complex = h; legging = r.legging; listed = r.listed; last = r.last; len = r.len; eight = r.eight; dated = r.dated }

  pub with-legging : (l : List Legging) → ((i : ℕ) → LgFits (get_or l i no_legging)) → length l ≡ length v.legging → Ranged (with_legging v l)
  unfolding with_legging
  with-legging l h e = record { regular = r.regular; complex = r.complex; legging = h; listed = r.listed; last = r.last; len = e ∙ r.len; eight = r.eight; dated = r.dated }

  with-series : (l : List Listed) → ((i : ℕ) → listed_in_range (get_or l i not_listed) ≡ true) → length l ≡ length v.series → Ranged (with_series v l)
  unfolding with_series
  with-series l h e = record { regular = r.regular; complex = r.complex; legging = r.legging; listed = h; last = r.last; len = r.len; eight = e ∙ r.eight; dated = r.dated }

pub last-ranged : (n : ℕ) (v : Venue) → FourBytes n → Ranged v → Ranged (with_last v n)
unfolding with_last
last-ranged n v h r = record { regular = r.regular; complex = r.complex; legging = r.legging; listed = r.listed; last = omega arith; len = r.len; eight = r.eight; dated = r.dated }

-- an order put, or with less open
pub put-ranged : (i : ℕ) (o : Regular) (v : Venue) → RegFits o → Ranged v → Ranged (with_regular v (set v.regular i o))
put-ranged i o v f r = with-regular r _ (set-each RegFits no_regular v.regular i o f r.regular)

pub put_c-ranged : (i : ℕ) (c : Complex) (v : Venue) → CxFits c → Ranged v → Ranged (with_complex v (set v.complex i c))
put_c-ranged i c v f r = with-complex r _ (set-each CxFits no_complex v.complex i c f r.complex)

pub fill-ranged : (i k : ℕ) (v : Venue) → Ranged v → Ranged (fill_regular i k v)
unfolding fill_regular regular_at
fill-ranged i k v r = put-ranged i _ v (less-fits k (reg v i) (r.regular i)) r

pub again-ranged : (v : Venue) → Ranged v → Ranged (show_again v)
unfolding show_again
again-ranged v r = with-regular r _ (λ i. unfold with_regular in (subst RegFits (sym (again-at v i)) (again-fits (reg v i) (r.regular i))))

pub fill_c-ranged : (i k : ℕ) (v : Venue) → Ranged v → Ranged (fill_complex i k v)
unfolding fill_complex complex_at
fill_c-ranged i k v r = put_c-ranged i _ v (less_c-fits k (cx v i) (r.complex i)) r

pub placed-ranged : (n : ℕ) (l : Legging) (v : Venue) → LgFits l → Ranged v → Ranged (placed n l v)
unfolding placed
placed-ranged n l v f r = with-legging r _ (set-each LgFits no_legging v.legging n l f r.legging) (length-set v.legging n l)

-- the ceiling's count, and the id that a limited sweep reached, are in no place
pub counted-ranged : (number s : ℕ) (v : Venue) → Ranged v → Ranged (counted number s v)
unfolding counted with_generations
counted-ranged number s v r = record { regular = r.regular; complex = r.complex; legging = r.legging; listed = r.listed; last = r.last; len = r.len; eight = r.eight; dated = r.dated }

pub reached-ranged : (x : ℕ) (v : Venue) → Ranged v → Ranged (with_reached v x)
unfolding with_reached
reached-ranged x v r = record { regular = r.regular; complex = r.complex; legging = r.legging; listed = r.listed; last = r.last; len = r.len; eight = r.eight; dated = r.dated }

-- one series written
series-ranged : (s : ℕ) (x : Listed) (v : Venue) → listed_in_range x ≡ true → Ranged v → Ranged (with_series v (set v.series s x))
series-ranged s x v h r = with-series r _ (set-each (λ y. listed_in_range y ≡ true) not_listed v.series s x h r.listed) (length-set v.series s x)

pub away-ranged : (s b o : ℕ) (v : Venue) → well_formed (Away s b o) ≡ true → Ranged v → Ranged (set_away s b o v)
unfolding set_away well_formed status_of
away-ranged s b o v z r =
    series-ranged s _ v (unfold listed_in_range in (let y = r.listed s in
    let a : is_status (get_or v.series s not_listed).status ≡ true = search (and_l, and_r, y) depth 6 in
    let p : is_away b ≡ true = search (and_l, and_r, z) depth 6 in
    let q : is_away o ≡ true = search (and_l, and_r, z) depth 6 in
    rw (a, p, q))) r

pub status-ranged : (s x : ℕ) (v : Venue) → well_formed (Status s x) ≡ true → Ranged v → Ranged (set_status s x v)
unfolding set_status well_formed
status-ranged s x v z r =
    series-ranged s _ v (unfold listed_in_range in (let y = r.listed s in
    let a : is_status x ≡ true = search (and_l, and_r, z) depth 6 in
    let p : is_away (get_or v.series s not_listed).bid ≡ true = search (and_l, and_r, y) depth 6 in
    let q : is_away (get_or v.series s not_listed).offer ≡ true = search (and_l, and_r, y) depth 6 in
    rw (a, p, q))) r

-- an edition entered: of a series' increment, or of the percentage
pub figure-ranged : (number f x e : ℕ) (v : Venue) → figure_in_range (record { edition = e; message = number; figure = f; value = x }) ≡ true → Ranged v → Ranged (set_figure number f x e v)
unfolding set_figure enter_edition with_editions
figure-ranged number f x e v h r = record {
  regular = r.regular;
  complex = r.complex;
  legging = r.legging;
  listed = r.listed;
  last = r.last;
  len = r.len;
  eight = r.eight;
  dated = set-each (λ y. held y.edition ≡ true → figure_in_range y ≡ true) no_edition v.editions (free_edition v) _ (λ _. h) r.dated;
}

series-figure : (number s i e : ℕ) → leb s 7 ≡ true → is_increment i ≡ true → figure_in_range (record { edition = e; message = number; figure = s; value = i }) ≡ true
unfolding figure_in_range
series-figure number s i e a h = rw a h

pub increment-ranged : (number s i e : ℕ) (v : Venue) → well_formed (Increment s i e) ≡ true → Ranged v → Ranged (set_figure number s i e v)
unfolding well_formed is_series within
increment-ranged number s i e v h r =
    let a : leb s 7 ≡ true = search (and_l, and_r, h) depth 6 in
    let b : is_increment i ≡ true = search (and_l, and_r, h) depth 6 in
    figure-ranged number s i e v (series-figure number s i e a b) r

pub percent-ranged : (number x e : ℕ) (v : Venue) → well_formed (Percent x e) ≡ true → Ranged v → Ranged (set_figure number percentage x e v)
unfolding well_formed
percent-ranged number x e v h r = figure-ranged number percentage x e v (unfold figure_in_range in (and_l _ _ h)) r

pub closed-ranged : (v : Venue) → Ranged v → Ranged (close_gaps v)
unfolding close_gaps with_regular with_complex
closed-ranged v r =
    with-complex (with-regular r _ (λ i. subst RegFits (sym (was v i)) (r.regular _))) _ (λ i. subst CxFits (sym (was_c v i)) (r.complex _))

-- Orders in range -----------------------------------------------------------------------------

-- a message in range brings an order in range
pub order-fits : (o : Regular) → regular_in_range o ≡ true → RegFits o
unfolding regular_in_range is_id is_series is_side is_price is_quantity within
order-fits o z =
    let a : leb o.id 4294967295 ≡ true = search (and_l, and_r, z) depth 12 in
    let b : leb o.series 7 ≡ true = search (and_l, and_r, z) depth 12 in
    let c : leb o.side 1 ≡ true = search (and_l, and_r, z) depth 12 in
    let d : leb o.price 100000 ≡ true = search (and_l, and_r, z) depth 12 in
    let e : leb o.quantity 10000 ≡ true = search (and_l, and_r, z) depth 12 in
    record {
      id = (let x = leb-true o.id 4294967295 a in omega arith);
      series = (let x = leb-true o.series 7 b in omega arith);
      side = (let x = leb-true o.side 1 c in omega arith);
      price = leb-true o.price 100000 d;
      quantity = leb-true o.quantity 10000 e;
      ok = λ _. z;
    }

far-most : (b : Bool) → (if b then 200000 else 600000) ≤ 600000
far-most true = omega arith
far-most false = omega arith

limit-small : (far : ℕ) (z : ℤ) → far ≤ 600000 → is_limit far z ≡ true → (plus z ≤ 600000) × (minus z ≤ 600000)
unfolding is_limit
limit-small far z le t =
    let l = rw (neg-plus (pos far), neg-minus (pos far)) at (le_out (neg_ℤ (pos far)) z (and_l _ (le_z z (pos far)) t)) in
    let h = le_out z (pos far) (and_r (le_z (neg_ℤ (pos far)) z) _ t) in
    (high z h, low z l)
  where
    high : (z : ℤ) → plus z + minus (pos far) ≤ plus (pos far) + minus z → plus z ≤ 600000
    high (pos n) h = unfold plus minus in (omega arith)
    high (negsuc n) h = unfold plus minus in (omega arith)

    low : (z : ℤ) → minus (pos far) + minus z ≤ plus z + plus (pos far) → minus z ≤ 600000
    low (pos n) h = unfold plus minus in (omega arith)
    low (negsuc n) h = unfold plus minus in (omega arith)

pub complex-fits : (c : Complex) → complex_in_range c ≡ true → CxFits c
unfolding complex_in_range two_leg_in_range is_id is_series is_side is_quantity is_ratio within
complex-fits c z =
    let a : leb c.id 4294967295 ≡ true = search (and_l, and_r, z) depth 14 in
    let s1 : leb c.series1 7 ≡ true = search (and_l, and_r, z) depth 14 in
    let s2 : leb c.series2 7 ≡ true = search (and_l, and_r, z) depth 14 in
    let d1 : leb c.side1 1 ≡ true = search (and_l, and_r, z) depth 14 in
    let d2 : leb c.side2 1 ≡ true = search (and_l, and_r, z) depth 14 in
    let n : is_limit (if one_to_one c then 200000 else 600000) c.limit ≡ true = search (and_l, and_r, z) depth 14 in
    let q : leb c.quantity 10000 ≡ true = search (and_l, and_r, z) depth 14 in
    let r1 : leb c.ratio1 3 ≡ true = search (and_l, and_r, z) depth 14 in
    let r2 : leb c.ratio2 3 ≡ true = search (and_l, and_r, z) depth 14 in
    let m = limit-small (if one_to_one c then 200000 else 600000) c.limit (far-most (one_to_one c)) n in
    record {
      id = (let x = leb-true c.id 4294967295 a in omega arith);
      series1 = (let x = leb-true c.series1 7 s1 in omega arith);
      side1 = (let x = leb-true c.side1 1 d1 in omega arith);
      series2 = (let x = leb-true c.series2 7 s2 in omega arith);
      side2 = (let x = leb-true c.side2 1 d2 in omega arith);
      high = m.0;
      low = m.1;
      quantity = leb-true c.quantity 10000 q;
      ratio1 = leb-true c.ratio1 3 r1;
      ratio2 = leb-true c.ratio2 3 r2;
      ok = λ _. z;
    }
