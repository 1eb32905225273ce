-- A set's records: the first ones, which are of no part, and those after them, in order and few enough.
use Rattle.std.specs.Prelude.{if◌then◌else◌}
use mathlib.Core.Path.{◌≡◌, refl, sym, ap, ◌∙◌}
use mathlib.Core.Bool.{Bool, true, false, not, ◌&&◌, ◌||◌, true≢false}
use mathlib.Core.List.{List, [], ◌∷◌, ◌++◌}
use mathlib.Core.Logic.{◌⊎◌, inl, inr, ⊎_elim}
use Prim.Native.Nat.{ℕ, zero, suc, ◌≤◌, ◌<◌, ◌+◌, ◌-◌, ◌/◌, ◌%◌}
use native.Mathlib.Omega.{arith}
use lib.Dec.{eqb, ltb}
use lib.ListN.{length}
use borrow.Author.Tests.{eqb-true, eq-eqb, ne_eqb, lt-ltb, le-ltb, ltb-true, ltb-false}
use Rattle.rules.specs.Base.{keep}
use Rattle.rules.specs.Bytes.{u8_at, kind_field}
use Rattle.rules.proofs.Tests.{and_l, and_r}
use Rattle.sets.specs.Set.{part, sort_key, count_of, of_series, is_set, tells_edition, tells_regular, tells_complex, tells_legging}
use Rattle.sets.proofs.Parts.{sort, sort-of}
use Rattle.sets.proofs.Lists.{Each, keep_append, keep-none, each_more}
use Rattle.set_check.specs.declared.SetProgress.{SetProgress}
use Rattle.set_check.specs.Order.{none_read, opens, is_next, may_stand, same_series, onward, few, goes_on}
use Rattle.set_check.proofs.OrderLaws.{Few, few-out}
use Rattle.set_tables.proofs.Ordered.{count-more, InOrder, order-on, stand-out, Fine, Blank, blank-few, blank-on, opened-more, goes-fine, none-blank, no_part, set-goes}

-- one step of a set
module _ (st : SetProgress) (r : List ℕ) (rs : List (List ℕ)) (h : goes_on st (r ∷ rs) ≡ true) where
  step_both : (is_next st r && few (onward st r)) ≡ true
  unfolding goes_on
  step_both = and_l (is_next st r && few (onward st r)) (goes_on (onward st r) rs) h

  step-next : is_next st r ≡ true
  step-next = and_l (is_next st r) (few (onward st r)) step_both

  step-few : few (onward st r) ≡ true
  step-few = and_r (is_next st r) (few (onward st r)) step_both

  step-goes : goes_on (onward st r) rs ≡ true
  unfolding goes_on
  step-goes = and_r (is_next st r && few (onward st r)) (goes_on (onward st r) rs) h

  step_part : st.opened < 17 → part r ≡ 0
  unfolding is_next opens
  step_part early = go (eqb st.opened 0) (rw (lt-ltb st.opened 17 early) at step-next)
    where
      go : (z : Bool) → (if z then eqb (kind_field r) 80 || eqb (kind_field r) 81 else eqb (kind_field r) (4 + st.opened % 2) && eqb (u8_at r 4) ((st.opened - 1) / 2)) ≡ true → part r ≡ 0
      go true k = first (eqb (kind_field r) 80) refl k
        where
          first : (t : Bool) → eqb (kind_field r) 80 ≡ t → (t || eqb (kind_field r) 81) ≡ true → part r ≡ 0
          first true e f = no_part r (inl (eqb-true (kind_field r) 80 e))
          first false e f = no_part r (inr (inl (eqb-true (kind_field r) 81 f)))
      go false k =
          let e = eqb-true (kind_field r) (4 + st.opened % 2) (and_l (eqb (kind_field r) (4 + st.opened % 2)) (eqb (u8_at r 4) ((st.opened - 1) / 2)) k) in
          half (st.opened % 2) (omega arith) e
        where
          half : (x : ℕ) → x < 2 → kind_field r ≡ 4 + x → part r ≡ 0
          half zero l e = no_part r (inr (inr (inr e)))
          half (suc zero) l e = no_part r (inr (inr (inl e)))
          half (suc (suc x)) l e = absurd (omega arith)

-- the records after the first ones, and the standing before them
pub record Tail (rs : List (List ℕ)) : Type 0 where
  pub front : List (List ℕ)
  pub tail : List (List ℕ)
  pub split : rs ≡ front ++ tail
  pub none : Each (λ r. part r ≡ 0) front
  pub before : SetProgress
  pub blank : Blank before
  pub fine : Fine before tail

tail_of : (rs : List (List ℕ)) (st : SetProgress) → Blank st → st.opened ≤ 17 → goes_on st rs ≡ true → Tail rs
tail_of [] st b s h = record {
  front = [];
  tail = [];
  split = refl;
  none = tt;
  before = st;
  blank = b;
  fine = goes-fine [] st (ended (ltb st.opened 17) refl (unfold goes_on in h)) (blank-few st b) h;
}
  where
    ended : (t : Bool) → ltb st.opened 17 ≡ t → not t ≡ true → st.opened ≡ 17
    ended true e k = absurd (true≢false (sym k))
    ended false e k = let l = ltb-false st.opened 17 e in omega arith
tail_of (r ∷ rs) st b s h = go (ltb st.opened 17) refl (λ b' s' h'. tail_of rs (onward st r) b' s' h')
  where
    go : (t : Bool) → ltb st.opened 17 ≡ t → (Blank (onward st r) → (onward st r).opened ≤ 17 → goes_on (onward st r) rs ≡ true → Tail rs) → Tail (r ∷ rs)
    go false e ih =
        let l = ltb-false st.opened 17 e in
        record { front = []; tail = r ∷ rs; split = refl; none = tt; before = st; blank = b; fine = goes-fine (r ∷ rs) st (omega arith) (blank-few st b) h }
    go true e ih =
        let early = ltb-true st.opened 17 e in
        let p = step_part st r rs h early in
        let k = opened-more st b r early in
        let t = ih (blank-on st b r p) (omega arith) (step-goes st r rs h) in
        record { front = r ∷ t.front; tail = t.tail; split = ap (λ (x : List (List ℕ)). r ∷ x) t.split; none = (p, t.none); before = t.before; blank = t.blank; fine = t.fine }

none-goes : (rs : List (List ℕ)) → is_set rs ≡ true → goes_on none_read rs ≡ true
none-goes rs h = set-goes rs ∙ h

pub set-tail : (rs : List (List ℕ)) → is_set rs ≡ true → Tail rs
set-tail rs h = tail_of rs none_read none-blank (unfold none_read in (omega arith)) (none-goes rs h)

-- Counts ----------------------------------------------------------------------------------------

-- a set has its 17 first records
long : (rs : List (List ℕ)) (st : SetProgress) → Blank st → st.opened ≤ 17 → goes_on st rs ≡ true → 17 ≤ st.opened + length rs
long [] st b s h = go (ltb st.opened 17) refl (unfold goes_on in h)
  where
    go : (t : Bool) → ltb st.opened 17 ≡ t → not t ≡ true → 17 ≤ st.opened + 0
    go true e k = absurd (true≢false (sym k))
    go false e k = let l = ltb-false st.opened 17 e in omega arith
long (r ∷ rs) st b s h = go (ltb st.opened 17) refl (λ b' s' h'. long rs (onward st r) b' s' h')
  where
    go : (t : Bool) → ltb st.opened 17 ≡ t →
        (Blank (onward st r) → (onward st r).opened ≤ 17 → goes_on (onward st r) rs ≡ true → 17 ≤ (onward st r).opened + length rs) → 17 ≤ st.opened +
        suc (length rs)
    go false e ih = let l = ltb-false st.opened 17 e in omega arith
    go true e ih =
        let early = ltb-true st.opened 17 e in
        let k = opened-more st b r early in
        let i = ih (blank-on st b r (step_part st r rs h early)) (omega arith) (step-goes st r rs h) in
        omega arith

pub set_long : (rs : List (List ℕ)) → is_set rs ≡ true → 17 ≤ length rs
set_long rs h = let z : none_read.opened ≡ 0 = unfold none_read in refl in omega (arith, long rs none_read none-blank (omega arith) (none-goes rs h))

-- how many records of each part
pub record Counts (st : SetProgress) (rs : List (List ℕ)) : Type 0 where
  pub editions : st.editions + count_of tells_edition rs ≤ 32
  pub regulars : st.regulars + count_of tells_regular rs ≤ 128
  pub complexes : st.complexes + count_of tells_complex rs ≤ 32

no-counts : (st : SetProgress) → Few st → Counts st []
unfolding count_of keep
no-counts st f = let a = f.editions in let b = f.regulars in let c = f.complexes in record { editions = omega arith; regulars = omega arith; complexes = omega arith }

more-counts : (st : SetProgress) (r : List ℕ) (rs : List (List ℕ)) → Counts (onward st r) rs → Counts st (r ∷ rs)
unfolding onward
more-counts st r rs c =
    record {
      editions = omega (arith, count-more tells_edition r rs, c.editions);
      regulars = omega (arith, count-more tells_regular r rs, c.regulars);
      complexes = omega (arith, count-more tells_complex r rs, c.complexes);
    }

goes-counts : (rs : List (List ℕ)) (st : SetProgress) → Few st → goes_on st rs ≡ true → Counts st rs
goes-counts [] st f h = no-counts st f
goes-counts (r ∷ rs) st f h = more-counts st r rs (goes-counts rs (onward st r) (few-out (onward st r) (step-few st r rs h)) (step-goes st r rs h))

pub set-counts : (rs : List (List ℕ)) → is_set rs ≡ true → (count_of tells_edition rs ≤ 32) × (count_of tells_regular rs ≤ 128) × (count_of tells_complex rs ≤ 32)
set-counts rs h =
    let c = goes-counts rs none_read (blank-few none_read none-blank) (none-goes rs h) in
    let e = c.editions in
    let r = c.regulars in
    let x = c.complexes in (omega arith, omega arith, omega arith)

series-none : (x : ℕ) (r : List ℕ) → part r ≡ 0 → of_series x r ≡ false
unfolding of_series
series-none x r e = rw (sort-of r 0 e).3

pub set-series : (rs : List (List ℕ)) → is_set rs ≡ true → (x : ℕ) → count_of (of_series x) rs ≤ 20
unfolding count_of
set-series rs h x =
    let t = set-tail rs h in
    let k : keep (of_series x) rs ≡ keep (of_series x) t.tail =
    ap (keep (of_series x)) t.split
    ∙ keep_append (of_series x) t.front t.tail
    ∙ ap (λ (l : List (List ℕ)). l ++ keep (of_series x) t.tail) (keep-none (of_series x) t.front (each_more (λ r. part r ≡ 0) (λ r. of_series x r ≡ false) (series-none x) t.front t.none)) in
    let n = ap length k in
    let f = t.fine.series x in
    omega arith

-- Legging orders --------------------------------------------------------------------------------

-- none of these tells place n
abbrev pub Untold : (n : ℕ) → List (List ℕ) → Type 0
Untold n = Each (λ r. (tells_legging r && eqb (sort_key r) n) ≡ false)

-- each place is told once
abbrev pub Alone : List (List ℕ) → Type 0
Alone [] = Unit {0}
Alone (r ∷ rs) = (tells_legging r ≡ true → Untold (sort_key r) rs) × Alone rs

-- within a part that is not the generations' marks rise
stand-risen : (st : SetProgress) (r : List ℕ) → may_stand st r ≡ true → st.part ≡ part r → (st.part ≡ 4 → ⊥) → st.key < sort_key r
unfolding may_stand same_series
stand-risen st r h e n = go (ltb st.key (sort_key r)) refl (rw (le-ltb st.part (part r) (omega arith), eq-eqb st.part (part r) e, ne_eqb st.part 4 n) at h)
  where
    go : (t : Bool) → ltb st.key (sort_key r) ≡ t → (t || false) ≡ true → st.key < sort_key r
    go true f k = ltb-true st.key (sort_key r) f
    go false f k = absurd (true≢false (sym k))

leg-part : (r : List ℕ) → tells_legging r ≡ true → part r ≡ 3
leg-part r e = eqb-true (part r) 3 (sym (sort r).2 ∙ e)

abbrev Passed : SetProgress → ℕ → Type 0
Passed st n = (3 < st.part) ⊎ ((st.part ≡ 3) × (n ≤ st.key))

passed_on : (st : SetProgress) (n : ℕ) (r : List ℕ) → may_stand st r ≡ true → Passed st n → (3 < part r) ⊎ ((part r ≡ 3) × (n < sort_key r))
passed_on st n r h p =
    ⊎_elim (λ l. ⊎_elim (λ k. inl (omega arith)) (λ k. inl (omega arith)) p)
    (λ l. let e = l.0 in ⊎_elim (λ k. inl (omega arith)) (λ k. let i = k.0 in let j = k.1 in let m = stand-risen st r h e (λ z. omega arith) in inr (omega arith, omega arith)) p) (stand-out st r h)

passed-after : (st : SetProgress) (n : ℕ) (r : List ℕ) → (3 < part r) ⊎ ((part r ≡ 3) × (n < sort_key r)) → Passed (onward st r) n
unfolding onward
passed-after st n r = ⊎_elim (λ l. inl l) (λ l. let i = l.0 in let j = l.1 in inr (i, omega arith))

untold-one : (n : ℕ) (r : List ℕ) → (3 < part r) ⊎ ((part r ≡ 3) × (n < sort_key r)) → (tells_legging r && eqb (sort_key r) n) ≡ false
untold-one n r p = go (tells_legging r) refl
  where
    go : (t : Bool) → tells_legging r ≡ t → (t && eqb (sort_key r) n) ≡ false
    go false e = refl
    go true e = let k = leg-part r e in ne_eqb (sort_key r) n (λ z. ⊎_elim (λ l. omega arith) (λ l. let j = l.1 in omega arith) p)

untold : (n : ℕ) (rs : List (List ℕ)) (st : SetProgress) → InOrder st rs → Passed st n → Untold n rs
untold n [] st h p = tt
untold n (r ∷ rs) st h p =
    let q = passed_on st n r h.0 p in
    (untold-one n r q, untold n rs (onward st r) (order-on st r rs h.1) (passed-after st n r q))

passed_here : (st : SetProgress) (r : List ℕ) → tells_legging r ≡ true → Passed (onward st r) (sort_key r)
unfolding onward
passed_here st r t = inr (leg-part r t, omega arith)

alone : (rs : List (List ℕ)) (st : SetProgress) → InOrder st rs → Alone rs
alone [] st h = tt
alone (r ∷ rs) st h = (λ t. untold (sort_key r) rs (onward st r) (order-on st r rs h.1) (passed_here st r t), alone rs (onward st r) (order-on st r rs h.1))

alone-front : (front tail : List (List ℕ)) → Each (λ r. part r ≡ 0) front → Alone tail → Alone (front ++ tail)
alone-front [] tail h a = a
alone-front (r ∷ front) tail h a = (λ t. let e = leg-part r t in let z = h.0 in absurd (omega arith), alone-front front tail h.1 a)

pub set-alone : (rs : List (List ℕ)) → is_set rs ≡ true → Alone rs
set-alone rs h = let t = set-tail rs h in rw t.split (alone-front t.front t.tail t.none (alone t.tail t.before t.fine.order))
