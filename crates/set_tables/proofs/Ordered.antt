-- The records looked at one by one are those of a set: `goes_on` from nothing read is `is_set`.
use Rattle.std.specs.Prelude.{if◌then◌else◌}
use mathlib.Core.Path.{◌≡◌, refl, sym, ap, ◌∙◌}
use mathlib.Core.Bool.{Bool, true, false, not, ◌&&◌, ◌||◌, true≢false}
use mathlib.Core.List.{List, [], ◌∷◌}
use mathlib.Core.Logic.{◌⊎◌, inl, inr, ⊎_elim}
use Prim.Native.Nat.{ℕ, zero, suc, ◌≤◌, ◌<◌, ◌+◌, ◌*◌, ◌-◌, ◌/◌, ◌%◌}
use native.Mathlib.Omega.{arith}
use lib.Dec.{eqb, leb, ltb}
use lib.ListN.{length}
use borrow.Author.Tests.{eqb-true, eqb-false, eq-eqb, ne_eqb, lt-ltb, le-ltb, ltb-true, le-leb, leb-true, not-true}
use Rattle.rules.specs.Base.{all, keep}
use Rattle.rules.specs.Bytes.{u8_at, kind_field}
use Rattle.rules.proofs.Tests.{and_in, and_l, and_r, or-false-l, or-false-r}
use Rattle.sets.specs.Set.{part, sort_key, generation_told, may_follow, in_order, count_of, of_series, few_enough, of_whole, of_short, series_then, is_set}
use Rattle.sets.specs.Set.{tells_edition, tells_regular, tells_complex, tells_legging, tells_generation}
use Rattle.sets.proofs.Parts.{sort, sort-of, whether}
use Rattle.set_check.specs.declared.SetProgress.{SetProgress}
use Rattle.set_check.specs.Order.{none_read, opens, of_this, same_series, may_stand, is_next, one_if, opened_after, is_whole, run_with, onward, few, goes_on}
use Rattle.set_check.proofs.OrderLaws.{Few, few-in, few-out}

-- two tests that follow from each other are equal
same_test : (a b : Bool) → (a ≡ true → b ≡ true) → (b ≡ true → a ≡ true) → a ≡ b
same_test true b f g = sym (f refl)
same_test false true f g = g refl
same_test false false f g = refl

-- Counting ------------------------------------------------------------------------------------

pub count-more : (f : List ℕ → Bool) (r : List ℕ) (rs : List (List ℕ)) → count_of f (r ∷ rs) ≡ one_if (f r) + count_of f rs
unfolding count_of keep one_if
count-more f r rs = go (f r)
  where
    go : (t : Bool) → length (if t then r ∷ keep f rs else keep f rs) ≡ one_if t + length (keep f rs)
    go true = omega arith
    go false = omega arith

-- Order ---------------------------------------------------------------------------------------

-- from a standing on
abbrev pub InOrder : SetProgress → List (List ℕ) → Type 0
InOrder st [] = Unit {0}
InOrder st (r ∷ rs) = (may_stand st r ≡ true) × (in_order (r ∷ rs) ≡ true)

follows-stands : (st : SetProgress) (q r : List ℕ) → may_stand (onward st q) r ≡ may_follow q r
unfolding may_stand same_series onward may_follow
follows-stands st q r = refl

pub order-on : (st : SetProgress) (r : List ℕ) (rs : List (List ℕ)) → in_order (r ∷ rs) ≡ true → InOrder (onward st r) rs
unfolding in_order
order-on st r [] h = tt
order-on st r (q ∷ rs) h = (follows-stands st r q ∙ and_l (may_follow r q) (in_order (q ∷ rs)) h, and_r (may_follow r q) (in_order (q ∷ rs)) h)

order-back : (st : SetProgress) (r : List ℕ) (rs : List (List ℕ)) → InOrder (onward st r) rs → in_order (r ∷ rs) ≡ true
unfolding in_order
order-back st r [] h = refl
order-back st r (q ∷ rs) h = and_in (may_follow r q) (in_order (q ∷ rs)) (sym (follows-stands st r q) ∙ h.0) h.1

-- of a later part, or of the same with a sort key that has not fallen
pub stand-out : (st : SetProgress) (r : List ℕ) → may_stand st r ≡ true → (st.part < part r) ⊎ ((st.part ≡ part r) × (st.key ≤ sort_key r))
unfolding may_stand same_series
stand-out st r h = go (ltb st.part (part r)) (eqb st.part (part r)) (ltb st.key (sort_key r)) (eqb st.part 4) (eqb st.key (sort_key r)) refl refl refl refl h
  where
    go : (a b c d e : Bool) → ltb st.part (part r) ≡ a → eqb st.part (part r) ≡ b → ltb st.key (sort_key r) ≡ c → eqb st.key (sort_key r) ≡ e →
        (a || (b && (c || (d && e && leb st.told (generation_told r))))) ≡ true → (st.part < part r) ⊎ ((st.part ≡ part r) × (st.key ≤ sort_key r))
    go true b c d e x y z v k = inl (ltb-true st.part (part r) x)
    go false true true d e x y z v k = let m = ltb-true st.key (sort_key r) z in inr (eqb-true st.part (part r) y, omega arith)
    go false true false true true x y z v k = let m = eqb-true st.key (sort_key r) v in inr (eqb-true st.part (part r) y, omega arith)
    go false true false true false x y z v k = absurd (true≢false (sym k))
    go false true false false e x y z v k = absurd (true≢false (sym k))
    go false false c d e x y z v k = absurd (true≢false (sym k))

-- Generations of a series -----------------------------------------------------------------------

gen-part : (r : List ℕ) → tells_generation r ≡ true → part r ≡ 4
gen-part r e = eqb-true (part r) 4 (sym (sort r).3 ∙ e)

part-gen : (r : List ℕ) → part r ≡ 4 → tells_generation r ≡ true
part-gen r e = (sort r).3 ∙ eq-eqb (part r) 4 e

gen-sort-key : (r : List ℕ) → tells_generation r ≡ true → sort_key r ≡ u8_at r 4
unfolding sort_key
gen-sort-key r e =
    let p = gen-part r e in
    let k : kind_field r ≡ 83 = eqb-true (kind_field r) 83 (unfold tells_generation in e) in
    rw (k, p)

of-series : (x : ℕ) (r : List ℕ) → tells_generation r ≡ true → u8_at r 4 ≡ x → of_series x r ≡ true
unfolding of_series
of-series x r g e = rw (g, eq-eqb (u8_at r 4) x e)

-- those of series x so far, where x is the series of the record before
pub carried : SetProgress → ℕ → ℕ
carried st x = if eqb st.part 4 && eqb st.key x then st.run else 0

carried-is : (st : SetProgress) (x : ℕ) → carried st x ≡ (if eqb st.part 4 && eqb st.key x then st.run else 0)
unfolding carried
carried-is st x = refl

-- no more of series x may follow
abbrev Past : SetProgress → ℕ → Type 0
Past st x = (4 < st.part) ⊎ ((st.part ≡ 4) × (x < st.key))

past_after : (st : SetProgress) (x : ℕ) (r : List ℕ) → (4 < part r) ⊎ ((part r ≡ 4) × (x < sort_key r)) → Past (onward st r) x
unfolding onward
past_after st x r p = p

past-not : (st : SetProgress) (x : ℕ) (r : List ℕ) → Past (onward st r) x → of_series x r ≡ false
unfolding of_series onward
past-not st x r p = go (tells_generation r) refl
  where
    go : (t : Bool) → tells_generation r ≡ t → (t && eqb (u8_at r 4) x) ≡ false
    go false e = refl
    go true e =
        let k = gen-part r e in
        let m = gen-sort-key r e in
        ne_eqb (u8_at r 4) x (λ z. ⊎_elim (λ l. omega arith) (λ l. let y = l.1 in omega arith) p)

past-on : (st : SetProgress) (x : ℕ) (r : List ℕ) → may_stand st r ≡ true → Past st x → Past (onward st r) x
unfolding onward
past-on st x r h p =
    ⊎_elim (λ l. ⊎_elim (λ k. inl (omega arith)) (λ k. inl (omega arith)) p)
    (λ l. let e = l.0 in let m = l.1 in ⊎_elim (λ k. inl (omega arith)) (λ k. let i = k.0 in let j = k.1 in inr (omega arith, omega arith)) p) (stand-out st r h)

gone : (x : ℕ) (rs : List (List ℕ)) (st : SetProgress) → InOrder st rs → Past st x → count_of (of_series x) rs ≡ 0
gone x [] st h p = unfold count_of keep in refl
gone x (r ∷ rs) st h p =
    let q = past-on st x r h.0 p in
    let e = past-not st x r q in
    let g = gone x rs (onward st r) (order-on st r rs h.1) q in
    count-more (of_series x) r rs ∙ rw (e, g) (unfold one_if in refl)

carried_on : (st : SetProgress) (x : ℕ) (r : List ℕ) → of_series x r ≡ true → carried (onward st r) x ≡ carried st x + 1
unfolding carried onward run_with same_series
carried_on st x r h =
    let g : tells_generation r ≡ true = and_l (tells_generation r) (eqb (u8_at r 4) x) (unfold of_series in h) in
    let y = eqb-true (u8_at r 4) x (and_r (tells_generation r) (eqb (u8_at r 4) x) (unfold of_series in h)) in
    let m : sort_key r ≡ x = gen-sort-key r g ∙ y in
    rw (gen-part r g, g, m, eq-eqb x x refl) (go (eqb st.part 4 && eqb st.key x))
  where
    go : (t : Bool) → (if t then st.run + one_if true else one_if true) ≡ (if t then st.run else 0) + 1
    go true = unfold one_if in refl
    go false = unfold one_if in refl

carried-off : (st : SetProgress) (x : ℕ) (r : List ℕ) → of_series x r ≡ false → carried (onward st r) x ≡ 0
unfolding carried onward
carried-off st x r h = go (eqb (part r) 4) (eqb (sort_key r) x) refl refl
  where
    go : (a b : Bool) → eqb (part r) 4 ≡ a → eqb (sort_key r) x ≡ b → (if a && b then run_with st r else 0) ≡ 0
    go false b e f = refl
    go true false e f = refl
    go true true e f =
        let g = part-gen r (eqb-true (part r) 4 e) in
        let m = gen-sort-key r g in
        let y : u8_at r 4 ≡ x = sym m ∙ eqb-true (sort_key r) x f in
        absurd (true≢false (sym (of-series x r g y) ∙ h))

module _ (st : SetProgress) (r : List ℕ) (rs : List (List ℕ)) (x : ℕ) where
  series-on : carried st x + count_of (of_series x) (r ∷ rs) ≤ 20 → carried (onward st r) x + count_of (of_series x) rs ≤ 20
  unfolding one_if
  series-on h = go (of_series x r) refl (count-more (of_series x) r rs)
    where
      go : (t : Bool) → of_series x r ≡ t → count_of (of_series x) (r ∷ rs) ≡ one_if t + count_of (of_series x) rs → carried (onward st r) x + count_of (of_series x) rs ≤ 20
      go true e c = let d = carried_on st x r e in omega arith
      go false e c = let d = carried-off st x r e in omega arith

  series-back : may_stand st r ≡ true → in_order (r ∷ rs) ≡ true → st.run ≤ 20 → carried (onward st r) x + count_of (of_series x) rs ≤ 20 →
      carried st x + count_of (of_series x) (r ∷ rs) ≤ 20
  unfolding one_if
  series-back s o n h = go (of_series x r) refl (count-more (of_series x) r rs)
    where
      above : (k : ℕ) → x ≤ k → (k ≡ x → ⊥) → x < k
      above k a b = omega arith

      later : of_series x r ≡ false → part r ≡ 4 → x ≤ sort_key r → (4 < part r) ⊎ ((part r ≡ 4) × (x < sort_key r))
      later e i j =
          let g = part-gen r i in
          let y = gen-sort-key r g in
          inr (i, above (sort_key r) j (λ z. true≢false (sym (of-series x r g (sym y ∙ z)) ∙ e)))

      -- the record before was the last of its series
      stays : of_series x r ≡ false → (a b : Bool) → eqb st.part 4 ≡ a → eqb st.key x ≡ b → (if a && b then st.run else 0) + count_of (of_series x) rs ≤ 20
      stays e false b f k = omega arith
      stays e true false f k = omega arith
      stays e true true f k =
          let p = eqb-true st.part 4 f in
          let m = eqb-true st.key x k in
          let past : (4 < part r) ⊎ ((part r ≡ 4) × (x < sort_key r)) = ⊎_elim (λ l. inl (omega arith)) (λ l. let i = l.0 in let j = l.1 in later e (omega arith) (omega arith)) (stand-out st r s) in
          let z = gone x rs (onward st r) (order-on st r rs o) (past_after st x r past) in
          omega arith

      go : (t : Bool) → of_series x r ≡ t → count_of (of_series x) (r ∷ rs) ≡ one_if t + count_of (of_series x) rs → carried st x + count_of (of_series x) (r ∷ rs) ≤ 20
      go true e c = let d = carried_on st x r e in omega arith
      go false e c = let k = stays e (eqb st.part 4) (eqb st.key x) refl refl in let d = carried-is st x in omega arith

-- The records after the first ones ---------------------------------------------------------------

-- the kinds of a whole set, and of a short one
abbrev pub kinds_of : Bool → List ℕ → Bool
kinds_of true = of_whole
kinds_of false = of_short

-- what is so of the records from a standing on
module _ (st : SetProgress) (rs : List (List ℕ)) where
  pub record Fine : Type 0 where
    pub kinds : all (kinds_of st.whole) rs ≡ true
    pub order : InOrder st rs
    pub editions : st.editions + count_of tells_edition rs ≤ 32
    pub regulars : st.regulars + count_of tells_regular rs ≤ 128
    pub complexes : st.complexes + count_of tells_complex rs ≤ 32
    pub leggings : st.leggings + count_of tells_legging rs ≤ 16
    pub series : (x : ℕ) → carried st x + count_of (of_series x) rs ≤ 20

-- after the first records
module _ (st : SetProgress) (after : st.opened ≡ 17) (r : List ℕ) where
  opened-on : (onward st r).opened ≡ 17
  unfolding onward opened_after
  opened-on = rw after

  whole-on : (onward st r).whole ≡ st.whole
  unfolding onward is_whole
  whole-on = rw after

  next-is : is_next st r ≡ (kinds_of st.whole r && may_stand st r)
  unfolding is_next of_this
  next-is = rw (le-ltb st.opened 17 (omega arith)) (go st.whole)
    where
      go : (w : Bool) → ((if w then of_whole r else of_short r) && may_stand st r) ≡ (kinds_of w r && may_stand st r)
      go true = refl
      go false = refl

fine-none : (st : SetProgress) → Few st → Fine st []
unfolding all count_of keep carried
fine-none st f =
    record {
      kinds = refl;
      order = tt;
      editions = omega arith;
      regulars = omega arith;
      complexes = omega arith;
      leggings = omega arith;
      series = λ x. go (eqb st.part 4 && eqb st.key x);
    }
  where
    go : (t : Bool) → (if t then st.run else 0) + 0 ≤ 20
    go true = omega arith
    go false = omega arith

-- a series' generations in a row are not too many
run_on : (st : SetProgress) (r : List ℕ) (rs : List (List ℕ)) → st.run ≤ 20 → ((x : ℕ) → carried (onward st r) x + count_of (of_series x) rs ≤ 20) → run_with st r ≤ 20
unfolding run_with
run_on st r rs n h = go (tells_generation r) refl
  where
    other : (t : Bool) → (if t then st.run + 0 else 0) ≤ 20
    other true = omega arith
    other false = omega arith

    go : (g : Bool) → tells_generation r ≡ g → (if same_series st r then st.run + one_if g else one_if g) ≤ 20
    go false e = unfold one_if in (other (same_series st r))
    go true e =
        let k : carried (onward st r) (sort_key r) ≡ (if same_series st r then st.run + one_if true else one_if true) =
        unfold carried onward in (rw (gen-part r e, eq-eqb (sort_key r) (sort_key r) refl) (rw e)) in
        let l = h (sort_key r) in
        omega arith

module _ (st : SetProgress) (after : st.opened ≡ 17) (r : List ℕ) (rs : List (List ℕ)) (f : Few st) where
  fine_back : kinds_of st.whole r ≡ true → may_stand st r ≡ true → Fine (onward st r) rs → Fine st (r ∷ rs)
  unfolding onward all
  fine_back k s i =
      let o = order-back st r rs i.order in
      record {
        kinds = and_in (kinds_of st.whole r) (all (kinds_of st.whole) rs) k (ap (λ (w : Bool). all (kinds_of w) rs) (sym (whole-on st after r)) ∙ i.kinds);
        order = (s, o);
        editions = omega (arith, count-more tells_edition r rs, i.editions);
        regulars = omega (arith, count-more tells_regular r rs, i.regulars);
        complexes = omega (arith, count-more tells_complex r rs, i.complexes);
        leggings = omega (arith, count-more tells_legging r rs, i.leggings);
        series = λ x. series-back st r rs x s o f.run (i.series x);
      }

  fine-on : Fine st (r ∷ rs) → Few (onward st r) × Fine (onward st r) rs
  unfolding onward all
  fine-on h =
      let on : (x : ℕ) → carried (onward st r) x + count_of (of_series x) rs ≤ 20 = λ x. series-on st r rs x (h.series x) in
      let run = run_on st r rs f.run on in
      let e = count-more tells_edition r rs in
      let a = count-more tells_regular r rs in
      let b = count-more tells_complex r rs in
      let l = count-more tells_legging r rs in
      let z = h.editions in
      let y = h.regulars in
      let x = h.complexes in
      let w = h.leggings in (
        record { editions = omega arith; regulars = omega arith; complexes = omega arith; leggings = omega arith; run = run },
        record {
          kinds = ap (λ (v : Bool). all (kinds_of v) rs) (whole-on st after r) ∙ and_r (kinds_of st.whole r) (all (kinds_of st.whole) rs) h.kinds;
          order = order-on st r rs h.order.1;
          editions = omega arith;
          regulars = omega arith;
          complexes = omega arith;
          leggings = omega arith;
          series = on;
        },
      )

pub goes-fine : (rs : List (List ℕ)) (st : SetProgress) → st.opened ≡ 17 → Few st → goes_on st rs ≡ true → Fine st rs
unfolding goes_on
goes-fine [] st after f h = fine-none st f
goes-fine (r ∷ rs) st after f h =
    let a : (is_next st r && few (onward st r)) ≡ true = and_l (is_next st r && few (onward st r)) (goes_on (onward st r) rs) h in
    let n : (kinds_of st.whole r && may_stand st r) ≡ true = sym (next-is st after r) ∙ and_l (is_next st r) (few (onward st r)) a in
    let on = few-out (onward st r) (and_r (is_next st r) (few (onward st r)) a) in
    fine_back st after r rs f (and_l (kinds_of st.whole r) (may_stand st r) n) (and_r (kinds_of st.whole r) (may_stand st r) n)
    (goes-fine rs (onward st r) (opened-on st after r) on (and_r (is_next st r && few (onward st r)) (goes_on (onward st r) rs) h))

fine-goes : (rs : List (List ℕ)) (st : SetProgress) → st.opened ≡ 17 → Few st → Fine st rs → goes_on st rs ≡ true
unfolding goes_on all
fine-goes [] st after f h = rw after
fine-goes (r ∷ rs) st after f h =
    let k = and_l (kinds_of st.whole r) (all (kinds_of st.whole) rs) h.kinds in
    let n : is_next st r ≡ true = next-is st after r ∙ and_in (kinds_of st.whole r) (may_stand st r) k h.order.0 in
    let on = fine-on st after r rs f h in
    and_in (is_next st r && few (onward st r)) (goes_on (onward st r) rs) (and_in (is_next st r) (few (onward st r)) n (few-in (onward st r) on.0))
    (fine-goes rs (onward st r) (opened-on st after r) on.0 on.1)

-- The first of them -----------------------------------------------------------------------------

or-true : (b : Bool) → (b || true) ≡ true
or-true true = refl
or-true false = refl

all_so : {A : Type 0} (f : A → Bool) (l : List A) → ((x : A) → f x ≡ true) → all f l ≡ true
unfolding all
all_so f [] h = refl
all_so f (x ∷ l) h = and_in (f x) (all f l) (h x) (all_so f l h)

-- not too many of each series that there is are not too many of any
few-any : (F : ℕ → ℕ) (rs : List (List ℕ)) → all (λ r. not (tells_generation r) || leb (F (u8_at r 4)) 20) rs ≡ true → (x : ℕ) → (F x ≤ 20) ⊎ (count_of (of_series x) rs ≡ 0)
unfolding all
few-any F [] h x = inr (unfold count_of keep in refl)
few-any F (r ∷ rs) h x = go (tells_generation r) (eqb (u8_at r 4) x) refl refl (and_l (not (tells_generation r) || leb (F (u8_at r 4)) 20) _ h)
    (few-any F rs (and_r (not (tells_generation r) || leb (F (u8_at r 4)) 20) _ h) x)
  where
    none : of_series x r ≡ false → (F x ≤ 20) ⊎ (count_of (of_series x) rs ≡ 0) → (F x ≤ 20) ⊎ (count_of (of_series x) (r ∷ rs) ≡ 0)
    none e (inl a) = inl a
    none e (inr a) = inr (count-more (of_series x) r rs ∙ rw (e, a) (unfold one_if in refl))

    go : (g s : Bool) → tells_generation r ≡ g → eqb (u8_at r 4) x ≡ s → (not g || leb (F (u8_at r 4)) 20) ≡ true → (F x ≤ 20) ⊎ (count_of (of_series x) rs ≡ 0) →
        (F x ≤ 20) ⊎ (count_of (of_series x) (r ∷ rs) ≡ 0)
    go false s e f k i = none (unfold of_series in (rw e)) i
    go true false e f k i = none (unfold of_series in (rw (e, f))) i
    go true true e f k i = inl (leb-true (F x) 20 (ap (λ (y : ℕ). leb (F y) 20) (sym (eqb-true (u8_at r 4) x f)) ∙ k))

kind-part : (w : Bool) (r : List ℕ) → kinds_of w r ≡ true → 0 < part r
unfolding of_whole of_short
kind-part true r h = let n = eqb-false (part r) 0 (not-true (eqb (part r) 0) (and_l (not (eqb (part r) 0)) (not (eqb (kind_field r) 1)) h)) in omega arith
kind-part false r h = go (eqb (part r) 2) (eqb (part r) 3) refl refl h
  where
    go : (a b : Bool) → eqb (part r) 2 ≡ a → eqb (part r) 3 ≡ b → ((a && not (eqb (kind_field r) 9)) || b) ≡ true → 0 < part r
    go true b e f k = let z = eqb-true (part r) 2 e in omega arith
    go false true e f k = let z = eqb-true (part r) 3 f in omega arith
    go false false e f k = absurd (true≢false (sym k))

-- no record of a part has been read
pub record Blank (st : SetProgress) : Type 0 where
  pub part : st.part ≡ 0
  pub editions : st.editions ≡ 0
  pub regulars : st.regulars ≡ 0
  pub complexes : st.complexes ≡ 0
  pub leggings : st.leggings ≡ 0
  pub run : st.run ≡ 0

module _ (st : SetProgress) (b : Blank st) where
  pub blank-few : Few st
  blank-few =
      let e = b.editions in
      let r = b.regulars in
      let c = b.complexes in
      let l = b.leggings in
      let n = b.run in
      record { editions = omega arith; regulars = omega arith; complexes = omega arith; leggings = omega arith; run = omega arith }

  pub blank-carried : (x : ℕ) → carried st x ≡ 0
  unfolding carried
  blank-carried x = rw b.part

  module _ (after : st.opened ≡ 17) (rs : List (List ℕ)) where
    blank-order : all (kinds_of st.whole) rs ≡ true → in_order rs ≡ true → InOrder st rs
    blank-order = go rs
      where
        go : (l : List (List ℕ)) → all (kinds_of st.whole) l ≡ true → in_order l ≡ true → InOrder st l
        go [] k o = tt
        go (r ∷ l) k o =
            let p = kind-part st.whole r (and_l (kinds_of st.whole r) (all (kinds_of st.whole) l) (unfold all in k)) in
            let z = b.part in
            (unfold may_stand in (rw (lt-ltb st.part (part r) (omega arith)) refl), o)

    order-whole : InOrder st rs → in_order rs ≡ true
    order-whole = go rs
      where
        go : (l : List (List ℕ)) → InOrder st l → in_order l ≡ true
        go [] h = unfold in_order in refl
        go (r ∷ l) h = h.1

    abbrev counts : Bool
    counts =
        leb (count_of tells_edition rs) 32
        && leb (count_of tells_regular rs) 128
        && leb (count_of tells_complex rs) 32
        && leb (count_of tells_legging rs) 16

    abbrev all_few : Bool
    all_few = all (λ r. not (tells_generation r) || leb (count_of (of_series (u8_at r 4)) rs) 20) rs

    fine-few : Fine st rs → few_enough rs ≡ true
    unfolding few_enough
    fine-few h =
        let e = h.editions in
        let r = h.regulars in
        let c = h.complexes in
        let l = h.leggings in
        and_in counts all_few
        (rw (
          le-leb (count_of tells_edition rs) 32 (omega arith),
          le-leb (count_of tells_regular rs) 128 (omega arith),
          le-leb (count_of tells_complex rs) 32 (omega arith),
          le-leb (count_of tells_legging rs) 16 (omega arith),
        ))
        (all_so (λ r. not (tells_generation r) || leb (count_of (of_series (u8_at r 4)) rs) 20) rs
        (λ r. let x = h.series (u8_at r 4) in
        ap (λ (t : Bool). not (tells_generation r) || t) (le-leb (count_of (of_series (u8_at r 4)) rs) 20 (omega arith)) ∙ or-true (not (tells_generation r))))

    few-fine : all (kinds_of st.whole) rs ≡ true → in_order rs ≡ true → few_enough rs ≡ true → Fine st rs
    unfolding few_enough
    few-fine k o z =
        let c : counts ≡ true = and_l counts all_few z in
        let e = b.editions in
        let r = b.regulars in
        let x = b.complexes in
        let l = b.leggings in
        record {
          kinds = k;
          order = blank-order k o;
          editions = omega (arith, leb-true (count_of tells_edition rs) 32 (search (and_l, and_r, c) depth 6));
          regulars = omega (arith, leb-true (count_of tells_regular rs) 128 (search (and_l, and_r, c) depth 6));
          complexes = omega (arith, leb-true (count_of tells_complex rs) 32 (search (and_l, and_r, c) depth 6));
          leggings = omega (arith, leb-true (count_of tells_legging rs) 16 (search (and_l, and_r, c) depth 6));
          series = λ y. let n = blank-carried y in
              ⊎_elim (λ m. omega arith) (λ m. omega arith) (few-any (λ s. count_of (of_series s) rs) rs (and_r counts all_few z) y);
        }

    -- from there on the records are those of a set, where they are of its kinds, in order and few enough
    rest-is : goes_on st rs ≡ (all (kinds_of st.whole) rs && in_order rs && few_enough rs)
    rest-is =
        same_test (goes_on st rs) (all (kinds_of st.whole) rs && in_order rs && few_enough rs)
        (λ g. let h = goes-fine rs st after blank-few g in
        and_in (all (kinds_of st.whole) rs && in_order rs) (few_enough rs) (and_in (all (kinds_of st.whole) rs) (in_order rs) h.kinds (order-whole h.order)) (fine-few h))
        (λ z. fine-goes rs st after blank-few
        (few-fine (and_l (all (kinds_of st.whole) rs) (in_order rs) (and_l _ (few_enough rs) z))
        (and_r (all (kinds_of st.whole) rs) (in_order rs) (and_l _ (few_enough rs) z))
        (and_r (all (kinds_of st.whole) rs && in_order rs) (few_enough rs) z)))

-- The first records -----------------------------------------------------------------------------

-- kinds that are of no part
pub no_part : (r : List ℕ) → (kind_field r ≡ 80) ⊎ (kind_field r ≡ 81) ⊎ (kind_field r ≡ 5) ⊎ (kind_field r ≡ 4) → part r ≡ 0
unfolding part tells_edition tells_regular tells_complex tells_legging tells_generation
no_part r = ⊎_elim (λ e. rw e refl) (⊎_elim (λ e. rw e refl) (⊎_elim (λ e. rw e refl) (λ e. rw e refl)))

module _ (st : SetProgress) (b : Blank st) (r : List ℕ) where
  pub blank-on : part r ≡ 0 → Blank (onward st r)
  unfolding onward run_with one_if
  blank-on e =
      let s = sort-of r 0 e in
      let a = b.editions in
      let x = b.regulars in
      let c = b.complexes in
      let l = b.leggings in
      let n = b.run in
      record {
        part = e;
        editions = rw s.0 (omega arith);
        regulars = rw (or-false-l (tells_regular r) (tells_complex r) s.1) (omega arith);
        complexes = rw (or-false-r (tells_regular r) (tells_complex r) s.1) (omega arith);
        leggings = rw s.2 (omega arith);
        run = rw s.3 (go (same_series st r));
      }
    where
      go : (t : Bool) → (if t then st.run + 0 else 0) ≡ 0
      go true = let n = b.run in omega arith
      go false = refl

  module _ (early : st.opened < 17) where
    pub opened-more : (onward st r).opened ≡ st.opened + 1
    unfolding onward opened_after
    opened-more = rw (lt-ltb st.opened 17 early)

    whole-stays : (st.opened ≡ 0 → ⊥) → (onward st r).whole ≡ st.whole
    unfolding onward is_whole
    whole-stays n = rw (ne_eqb st.opened 0 n)

    opened : (rs : List (List ℕ)) → (opens st r ≡ true → part r ≡ 0) → goes_on st (r ∷ rs) ≡ (opens st r && goes_on (onward st r) rs)
    unfolding goes_on is_next
    opened rs p = rw (lt-ltb st.opened 17 early) (go (opens st r) refl)
      where
        go : (t : Bool) → opens st r ≡ t → (t && few (onward st r) && goes_on (onward st r) rs) ≡ (t && goes_on (onward st r) rs)
        go false e = refl
        go true e = rw (few-in (onward st r) (blank-few (onward st r) (blank-on (p e))))

-- the first record of a series, and the second one
module _ (st : SetProgress) (s : ℕ) (r : List ℕ) where
  opens-status : st.opened ≡ 2 * s + 1 → opens st r ≡ (eqb (kind_field r) 5 && eqb (u8_at r 4) s)
  unfolding opens
  opens-status e =
      let m : 4 + st.opened % 2 ≡ 5 = omega arith in
      let d : (st.opened - 1) / 2 ≡ s = omega arith in
      rw (ne_eqb st.opened 0 (λ z. omega arith), m, d)

  opens-away : st.opened ≡ 2 * s + 2 → opens st r ≡ (eqb (kind_field r) 4 && eqb (u8_at r 4) s)
  unfolding opens
  opens-away e =
      let m : 4 + st.opened % 2 ≡ 4 = omega arith in
      let d : (st.opened - 1) / 2 ≡ s = omega arith in
      rw (ne_eqb st.opened 0 (λ z. omega arith), m, d)

-- a set that ends too early
ends-early : (st : SetProgress) → st.opened < 17 → goes_on st [] ≡ false
unfolding goes_on
ends-early st h = rw (lt-ltb st.opened 17 h)

-- before the records of series s, `count` series being left
record Before (st : SetProgress) (s count : ℕ) : Type 0 where
  blank : Blank st
  opened : st.opened ≡ 2 * s + 1
  many : s + count ≡ 8

module _ (st : SetProgress) (s count : ℕ) (at : Before st s (suc count)) where
  early : st.opened < 17
  early = let e = at.opened in let m = at.many in omega arith

  status-part : (q : List ℕ) → opens st q ≡ true → part q ≡ 0
  status-part q h =
      no_part q (inr (inr (inl (eqb-true (kind_field q) 5 (and_l (eqb (kind_field q) 5) (eqb (u8_at q 4) s) (sym (opens-status st s q at.opened) ∙ h))))))

  status-goes : (q : List ℕ) (rs : List (List ℕ)) → goes_on st (q ∷ rs) ≡ ((eqb (kind_field q) 5 && eqb (u8_at q 4) s) && goes_on (onward st q) rs)
  status-goes q rs = opened st at.blank q early rs (status-part q) ∙ ap (λ (t : Bool). t && goes_on (onward st q) rs) (opens-status st s q at.opened)

  module _ (q : List ℕ) (is : (eqb (kind_field q) 5 && eqb (u8_at q 4) s) ≡ true) where
    after-status : Blank (onward st q)
    after-status = blank-on st at.blank q (status-part q (opens-status st s q at.opened ∙ is))

    away-opened : (onward st q).opened ≡ 2 * s + 2
    away-opened = let e = opened-more st at.blank q early in let f = at.opened in omega arith

    away-early : (onward st q).opened < 17
    away-early = let e = away-opened in let m = at.many in omega arith

    module _ (r : List ℕ) where
      away-part : opens (onward st q) r ≡ true → part r ≡ 0
      away-part h =
          no_part r (inr (inr (inr (eqb-true (kind_field r) 4 (and_l (eqb (kind_field r) 4) (eqb (u8_at r 4) s) (sym (opens-away (onward st q) s r away-opened) ∙ h))))))

      away-goes : (rs : List (List ℕ)) → goes_on (onward st q) (r ∷ rs) ≡ ((eqb (kind_field r) 4 && eqb (u8_at r 4) s) && goes_on (onward (onward st q) r) rs)
      away-goes rs =
          opened (onward st q) after-status r away-early rs away-part
          ∙ ap (λ (t : Bool). t && goes_on (onward (onward st q) r) rs) (opens-away (onward st q) s r away-opened)

      after-away : (eqb (kind_field r) 4 && eqb (u8_at r 4) s) ≡ true → Before (onward (onward st q) r) (suc s) count
      after-away k =
          let e = opened-more (onward st q) after-status r away-early in
          let f = away-opened in
          let m = at.many in
          record { blank = blank-on (onward st q) after-status r (away-part (opens-away (onward st q) s r away-opened ∙ k)); opened = omega arith; many = omega arith }

      whole_same : (onward (onward st q) r).whole ≡ st.whole
      whole_same =
          let f = away-opened in
          let g = at.opened in
          whole-stays (onward st q) after-status r away-early (λ z. omega arith) ∙ whole-stays st at.blank q early (λ z. omega arith)

-- the records of the series that are left, and then the others
series-goes : (count s : ℕ) (st : SetProgress) (rs : List (List ℕ)) → Before st s count → goes_on st rs ≡ series_then count s (kinds_of st.whole) rs
unfolding series_then
series-goes zero s st rs at = let e = at.opened in let m = at.many in rest-is st at.blank (omega arith) rs
series-goes (suc count) s st [] at = ends-early st (early st s count at)
series-goes (suc count) s st (q ∷ []) at = status-goes st s count at q [] ∙ go (eqb (kind_field q) 5 && eqb (u8_at q 4) s) refl
  where
    go : (t : Bool) → (eqb (kind_field q) 5 && eqb (u8_at q 4) s) ≡ t → (t && goes_on (onward st q) []) ≡ false
    go false e = refl
    go true e = ends-early (onward st q) (away-early st s count at q e)
series-goes (suc count) s st (q ∷ r ∷ rs) at =
    status-goes st s count at q (r ∷ rs) ∙ go (eqb (kind_field q) 5 && eqb (u8_at q 4) s) refl (λ e k. series-goes count (suc s) (onward (onward st q) r) rs (after-away st s count at q e r k))
  where
    deep : (e : (eqb (kind_field q) 5 && eqb (u8_at q 4) s) ≡ true) (t u : Bool) → eqb (kind_field r) 4 ≡ t → eqb (u8_at r 4) s ≡ u →
        ((eqb (kind_field r) 4 && eqb (u8_at r 4) s) ≡ true → goes_on (onward (onward st q) r) rs ≡ series_then count (suc s) (kinds_of (onward (onward st q) r).whole) rs) →
        ((t && u) && goes_on (onward (onward st q) r) rs) ≡ (t && u && series_then count (suc s) (kinds_of st.whole) rs)
    deep e false u f g ih = refl
    deep e true false f g ih = refl
    deep e true true f g ih = ih (rw (f, g)) ∙ ap (λ (w : Bool). series_then count (suc s) (kinds_of w) rs) (whole_same st s count at q e r)

    go : (t : Bool) → (eqb (kind_field q) 5 && eqb (u8_at q 4) s) ≡ t →
        ((eqb (kind_field q) 5 && eqb (u8_at q 4) s) ≡ true → (eqb (kind_field r) 4 && eqb (u8_at r 4) s) ≡ true → goes_on (onward (onward st q) r)
        rs ≡ series_then count (suc s) (kinds_of (onward (onward st q) r).whole) rs) →
        (t && goes_on (onward st q) (r ∷ rs)) ≡ (t && eqb (kind_field r) 4 && eqb (u8_at r 4) s && series_then count (suc s) (kinds_of st.whole) rs)
    go false e ih = refl
    go true e ih = away-goes st s count at q e r rs ∙ deep e (eqb (kind_field r) 4) (eqb (u8_at r 4) s) refl refl (ih e)

pub none-blank : Blank none_read
unfolding none_read
none-blank = record { part = refl; editions = refl; regulars = refl; complexes = refl; leggings = refl; run = refl }

-- the first record of all
module _ (r : List ℕ) (first : part r ≡ 0) where
  first-early : none_read.opened < 17
  unfolding none_read
  first-early = omega arith

  before-series : Before (onward none_read r) 0 8
  before-series =
      let e = opened-more none_read none-blank r first-early in
      let z : none_read.opened ≡ 0 = unfold none_read in refl in
      record { blank = blank-on none_read none-blank r first; opened = omega arith; many = refl }

  first_goes : (rs : List (List ℕ)) (w : Bool) → opens none_read r ≡ true → (onward none_read r).whole ≡ w → goes_on none_read (r ∷ rs) ≡ series_then 8 0 (kinds_of w) rs
  first_goes rs w o k =
      opened none_read none-blank r first-early rs (λ _. first)
      ∙ ap (λ (t : Bool). t && goes_on (onward none_read r) rs) o
      ∙ series-goes 8 0 (onward none_read r) rs before-series
      ∙ ap (λ (v : Bool). series_then 8 0 (kinds_of v) rs) k

pub set-goes : (rs : List (List ℕ)) → goes_on none_read rs ≡ is_set rs
unfolding is_set
set-goes [] = ends-early none_read (unfold none_read in (omega arith))
set-goes (r ∷ rs) =
    whether (kind_field r) 80
    (λ e. rw (eq-eqb (kind_field r) 80 e) (first_goes r (no_part r (inl e)) rs true (unfold opens none_read in (rw e)) (unfold onward is_whole none_read in (rw e))))
    (λ n. whether (kind_field r) 81
    (λ e. rw (n, eq-eqb (kind_field r) 81 e) (first_goes r (no_part r (inr (inl e))) rs false (unfold opens none_read in (rw e)) (unfold onward is_whole none_read in (rw e))))
    (λ m. rw (n, m) (unfold goes_on is_next opens none_read in (rw (n, m)))))
