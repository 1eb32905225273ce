-- The tables that are told by place or by series, and what the first record and the last one tell.
use Rattle.std.specs.Prelude.{if◌then◌else◌}
use mathlib.Core.Path.{◌≡◌, refl, sym, ap, ap₂, ◌∙◌}
use mathlib.Core.Bool.{true, false, ◌&&◌}
use mathlib.Core.List.{List, [], ◌∷◌, ◌++◌, map, append_assoc, append-nil}
use Prim.Native.Nat.{ℕ, zero, suc, ◌≤◌, ◌<◌, ◌+◌, ◌*◌, ◌-◌}
use native.Mathlib.Decide.{ℕ_discrete}
use native.Mathlib.Omega.{arith}
use lib.Dec.{eqb}
use lib.ListN.{length, get_or, set, take, drop, replicate, length-set, length-map, length-replicate, get_or-replicate}
use lib.Seq.{drop-drop, get_or-drop, get_or-set_same, get_or-set_other}
use borrow.Author.Tests.{eqb-true, eq-eqb, ne_eqb, leb-true}
use Rattle.rules.specs.declared.Legging.{Legging}
use Rattle.rules.specs.declared.Listed.{Listed}
use Rattle.rules.specs.declared.Generations.{Generations}
use Rattle.rules.specs.Base.{held, all, keep}
use Rattle.rules.specs.Words.{within, is_series, is_side, place_of, no_legging, not_listed, no_generations}
use Rattle.rules.specs.Bytes.{kind_field, u8_at, u32_at}
use Rattle.rules.specs.Generation.{one_more}
use Rattle.rules.proofs.Tests.{and_l, and_r}
use Rattle.sets.specs.Set.{count_of, part, sort_key, of_series, tells_regular, tells_complex, tells_legging, tells_generation, has_place}
use Rattle.sets.specs.Set.{legging_told, listed_told, generation_told, generations_told, reached_told, upward}
use Rattle.sets.proofs.Parts.{sort}
use Rattle.sets.proofs.ReadBack.{upward-is}
use Rattle.set_tables.specs.Told.{row_in, ReadableSet, legging_of, listed_of}
use Rattle.set_tables.proofs.Parted.{Untold, Alone, set-alone, set-series}

-- one row set, and the others as they were
set_told : {A : Type 0} (l : List A) (n : ℕ) (x d : A) (f : ℕ → A) (i : ℕ) → n < length l → x ≡ f n → ((i ≡ n → ⊥) → get_or l i d ≡ f i) → get_or (set l n x) i d ≡ f i
set_told l n x d f i h e k = elim (ℕ_discrete i n) [ yes p ↦ rw p (get_or-set_same l n x d h ∙ e) | no p ↦ get_or-set_other l n i x d p ∙ k p ]

-- what stands at a place is not the default
get_d_any : {A : Type 0} (l : List A) (n : ℕ) (d e : A) → n < length l → get_or l n d ≡ get_or l n e
get_d_any [] n d e h = absurd (omega arith)
get_d_any (x ∷ l) zero d e h = refl
get_d_any (x ∷ l) (suc n) d e h = get_d_any l n d e (omega arith)

-- The id reached --------------------------------------------------------------------------------

module _ (r : List ℕ) (left rest : List (List ℕ)) (e : left ≡ r ∷ rest) where
  pub reached-found : kind_field r ≡ 84 → u32_at r 4 ≡ reached_told left
  unfolding reached_told
  reached-found k = sym (ap reached_told e ∙ rw (eq-eqb (kind_field r) 84 k))

  pub reached-skip : (kind_field r ≡ 84 → ⊥) → reached_told rest ≡ reached_told left
  unfolding reached_told
  reached-skip n = sym (ap reached_told e ∙ rw (ne_eqb (kind_field r) 84 n))

pub reached-none : (left : List (List ℕ)) → left ≡ [] → 0 ≡ reached_told left
unfolding reached_told
reached-none left e = sym (ap reached_told e)

-- Series ----------------------------------------------------------------------------------------

-- the first s rows are told, and the records of the others are left
pub record Listing (rs : List (List ℕ)) (l : List Listed) (left : List (List ℕ)) (s : ℕ) : Type 0 where
  pub long : length l ≡ 8
  pub rows : left ≡ drop (2 * s + 1) rs
  pub told : (i : ℕ) → i < s → get_or l i not_listed ≡ listed_told rs i

module _ (rs : List (List ℕ)) where
  pub listing_start : (l : List Listed) (all left : List (List ℕ)) → all ≡ rs → left ≡ drop 1 all → length l ≡ 8 → Listing rs l left 0
  listing_start l all left a e n = record { long = n; rows = e ∙ ap (drop 1) a; told = λ i h. absurd (omega arith) }

  module _ (l : List Listed) (left : List (List ℕ)) (s : ℕ) (g : Listing rs l left s) (h : s < 8) (q r : List ℕ) (next after : List (List ℕ)) where
    pub listing-next : q ≡ get_or left 0 [] → next ≡ drop 1 left → r ≡ get_or next 0 [] → after ≡ drop 1 next →
        (x : Listed) → x ≡ listed_of q r → Listing rs (set l s x) after (s + 1)
    listing-next a b c d x e =
        let n = g.long in
        let one : next ≡ drop (2 * s + 2) rs = b ∙ ap (drop 1) g.rows ∙ drop-drop 1 (2 * s + 1) rs ∙ ap (λ (k : ℕ). drop k rs) (plus-one s) in
        let status : q ≡ get_or rs (2 * s + 1) [] = a ∙ ap (λ (w : List (List ℕ)). get_or w 0 []) g.rows ∙ get_or-drop (2 * s + 1) rs 0 [] ∙ ap (λ (k : ℕ). get_or rs k []) (none-more (2 * s + 1)) in
        let away : r ≡ get_or rs (2 * s + 2) [] = c ∙ ap (λ (w : List (List ℕ)). get_or w 0 []) one ∙ get_or-drop (2 * s + 2) rs 0 [] ∙ ap (λ (k : ℕ). get_or rs k []) (none-more (2 * s + 2)) in
        let y : x ≡ listed_told rs s = e ∙ ap₂ listed_of status away ∙ (unfold listed_of listed_told in refl) in
        record {
          long = length-set l s x ∙ n;
          rows = d ∙ ap (drop 1) one ∙ drop-drop 1 (2 * s + 2) rs ∙ ap (λ (k : ℕ). drop k rs) (two-more s);
          told = λ i lt. set_told l s x not_listed (listed_told rs) i (omega arith) y (λ p. g.told i (below i lt p));
        }
      where
        below : (i : ℕ) → i < s + 1 → (i ≡ s → ⊥) → i < s
        below i lt p = omega arith

        plus-one : (k : ℕ) → 2 * k + 1 + 1 ≡ 2 * k + 2
        plus-one k = omega arith

        none-more : (k : ℕ) → k + 0 ≡ k
        none-more k = omega arith

        two-more : (k : ℕ) → 2 * k + 2 + 1 ≡ 2 * (k + 1) + 1
        two-more k = omega arith

  pub listing-end : (l : List Listed) (left : List (List ℕ)) (s : ℕ) → Listing rs l left s → 8 ≤ s → l ≡ upward (listed_told rs) 0 8
  listing-end l left s g h =
      let n = g.long in
      sym (ap (upward (listed_told rs) 0) (sym n) ∙ upward-is (listed_told rs) not_listed 0 l
      (λ i lt. let z : 0 + i ≡ i = omega arith in ap (listed_told rs) z ∙ sym (g.told i (omega arith))))

-- Legging orders --------------------------------------------------------------------------------

-- what the records from there on tell of a place; if nothing, it is as it was
pub told_or : Legging → List (List ℕ) → (n : ℕ) → Legging
told_or d [] n = d
told_or d (r ∷ rs) n = if tells_legging r && eqb (sort_key r) n then legging_of r else told_or d rs n

told_none : (rs : List (List ℕ)) (n : ℕ) → told_or no_legging rs n ≡ legging_told rs n
unfolding told_or legging_told legging_of
told_none [] n = refl
told_none (r ∷ rs) n = ap (λ (l : Legging). if tells_legging r && eqb (sort_key r) n then legging_of r else l) (told_none rs n)

told-kept : (d : Legging) (rs : List (List ℕ)) (n : ℕ) → Untold n rs → told_or d rs n ≡ d
unfolding told_or
told-kept d [] n u = refl
told-kept d (r ∷ rs) n u = rw u.0 (told-kept d rs n u.1)

leg-sort-key : (r : List ℕ) → tells_legging r ≡ true → sort_key r ≡ place_of (u8_at r 8) (u8_at r 9)
unfolding sort_key
leg-sort-key r e =
    let p : part r ≡ 3 = eqb-true (part r) 3 (sym (sort r).2 ∙ e) in
    let k : kind_field r ≡ 82 = eqb-true (kind_field r) 82 (unfold tells_legging in e) in
    rw (k, p)

leg-placed : (r : List ℕ) → tells_legging r ≡ true → has_place r ≡ true → place_of (u8_at r 8) (u8_at r 9) < 16
unfolding has_place tells_regular tells_complex tells_legging is_series is_side within place_of
leg-placed r e h =
    let k : kind_field r ≡ 82 = eqb-true (kind_field r) 82 e in
    let z : (is_series (u8_at r 8) && is_side (u8_at r 9) && held (u32_at r 14)) ≡ true = rw k at h in
    let a = leb-true (u8_at r 8) 7 (search (and_l, and_r, z) depth 6) in
    let b = leb-true (u8_at r 9) 1 (search (and_l, and_r, z) depth 6) in
    omega arith

pub record Legged (rs : List (List ℕ)) (l : List Legging) (left : List (List ℕ)) : Type 0 where
  pub long : length l ≡ 16
  pub alone : Alone left
  pub placed : all has_place left ≡ true
  pub told : (n : ℕ) → told_or (get_or l n no_legging) left n ≡ legging_told rs n

pub legged-start : (m : List ℕ) → ReadableSet m → (left : List (List ℕ)) → left ≡ row_in m → Legged (row_in m) (replicate 16 no_legging) left
legged-start m t left e =
    record {
      long = length-replicate 16 no_legging;
      alone = rw e (set-alone (row_in m) t.ordered);
      placed = ap (all has_place) e ∙ t.placed;
      told = λ n. ap (λ (rs : List (List ℕ)). told_or (get_or (replicate 16 no_legging) n no_legging) rs n) e
          ∙ ap (λ (d : Legging). told_or d (row_in m) n) (free n 16) ∙ told_none (row_in m) n;
    }
  where
    free : (n k : ℕ) → get_or (replicate k no_legging) n no_legging ≡ no_legging
    free n zero = refl
    free zero (suc k) = refl
    free (suc n) (suc k) = free n k

module _ (all_rows : List (List ℕ)) (l : List Legging) (r : List ℕ) (left rest : List (List ℕ)) (g : Legged all_rows l left) (e : left ≡ r ∷ rest) where
  alone-both : (tells_legging r ≡ true → Untold (sort_key r) rest) × Alone rest
  alone-both = rw e at g.alone

  placed-both : (has_place r && all has_place rest) ≡ true
  unfolding all
  placed-both = sym (ap (all has_place) e) ∙ g.placed

  left_both : (n : ℕ) → (if tells_legging r && eqb (sort_key r) n then legging_of r else told_or (get_or l n no_legging) rest n) ≡ legging_told all_rows n
  unfolding told_or
  left_both n = sym (ap (λ (rs : List (List ℕ)). told_or (get_or l n no_legging) rs n) e) ∙ g.told n

  pub legged-skip : tells_legging r ≡ false → Legged all_rows l rest
  legged-skip t =
      record {
        long = g.long;
        alone = alone-both.1;
        placed = and_r (has_place r) (all has_place rest) placed-both;
        told = λ n. rw t at (left_both n);
      }

  module _ (t : tells_legging r ≡ true) where
    pub legged-room : (n : ℕ) → n ≡ place_of (u8_at r 8) (u8_at r 9) → n < 16
    legged-room n p = let z = leg-placed r t (and_l (has_place r) (all has_place rest) placed-both) in omega arith

    pub legged-put : (n : ℕ) (x : Legging) → n ≡ place_of (u8_at r 8) (u8_at r 9) → x ≡ legging_of r → Legged all_rows (set l n x) rest
    legged-put n x p y =
        let k : sort_key r ≡ n = leg-sort-key r t ∙ sym p in
        let o = legged-room n p in
        let q = g.long in
        record {
          long = length-set l n x ∙ q;
          alone = alone-both.1;
          placed = and_r (has_place r) (all has_place rest) placed-both;
          told = λ i. elim (ℕ_discrete i n) [
            | yes z ↦
                let u : Untold i rest = rw (k, ← z) at (alone-both.0 t) in
                let v : (tells_legging r && eqb (sort_key r) i) ≡ true = rw (t, eq-eqb (sort_key r) i (k ∙ sym z)) in
                told-kept (get_or (set l n x) i no_legging) rest i u ∙ ap (λ (j : ℕ). get_or (set l n x) j no_legging) z ∙ get_or-set_same l n x no_legging (omega arith) ∙ y ∙ (rw v at (left_both i))
            | no z ↦
                let v : (tells_legging r && eqb (sort_key r) i) ≡ false = rw (t, ne_eqb (sort_key r) i (λ w. z (sym w ∙ k))) in
                ap (λ (d : Legging). told_or d rest i) (get_or-set_other l n i x no_legging z) ∙ (rw v at (left_both i))
          ];
        }

pub legged-end : (rs : List (List ℕ)) (l : List Legging) (left : List (List ℕ)) → Legged rs l left → left ≡ [] → l ≡ upward (legging_told rs) 0 16
legged-end rs l left g e =
    let n = g.long in
    sym (ap (upward (legging_told rs) 0) (sym n) ∙ upward-is (legging_told rs) no_legging 0 l
    (λ i lt. let z : 0 + i ≡ i = omega arith in
    ap (legging_told rs) z ∙ sym (g.told i) ∙ ap (λ (w : List (List ℕ)). told_or (get_or l i no_legging) w i) e ∙ (unfold told_or in refl)))

-- Generations -----------------------------------------------------------------------------------

-- a series' numbers, each behind the ones before it
pub pushed : (old more : List ℕ) → List ℕ
pushed l [] = l
pushed l (x ∷ xs) = pushed (one_more x l) xs

pushed-all : (k : ℕ) (ys xs : List ℕ) → length xs ≤ k → pushed (replicate k 0 ++ ys) xs ≡ replicate (k - length xs) 0 ++ (ys ++ xs)
unfolding pushed one_more
pushed-all k ys [] h = let z : k ≡ k - 0 = omega arith in ap₂ (λ (j : ℕ) (l : List ℕ). replicate j 0 ++ l) z (sym (append-nil ys))
pushed-all zero ys (x ∷ xs) h = absurd (omega arith)
pushed-all (suc k) ys (x ∷ xs) h =
    let z : suc k - suc (length xs) ≡ k - length xs = omega arith in
    ap (λ (l : List ℕ). pushed l xs) (append_assoc (replicate k 0) ys (x ∷ [])) ∙ pushed-all k (ys ++ (x ∷ [])) xs (omega arith)
    ∙ ap₂ (λ (j : ℕ) (l : List ℕ). replicate j 0 ++ l) (sym z) (append_assoc ys (x ∷ []) xs)

-- the numbers that records tell of a series
abbrev numbers : (series : ℕ) → List (List ℕ) → List ℕ
numbers s rs = map generation_told (keep (of_series s) rs)

pushed_none : (rs : List (List ℕ)) (s : ℕ) → count_of (of_series s) rs ≤ 20 → pushed (replicate 20 0) (numbers s rs) ≡ (generations_told rs s).messages
unfolding generations_told count_of
pushed_none rs s h =
    let n = length-map (keep (of_series s) rs) generation_told in
    ap (λ (l : List ℕ). pushed l (numbers s rs)) (sym (append-nil (replicate 20 0))) ∙ pushed-all 20 [] (numbers s rs) (omega arith)

gen-placed : (r : List ℕ) → tells_generation r ≡ true → has_place r ≡ true → u8_at r 4 < 8
unfolding has_place tells_regular tells_complex tells_legging tells_generation is_series within
gen-placed r e h =
    let k : kind_field r ≡ 83 = eqb-true (kind_field r) 83 e in
    let z : (is_series (u8_at r 4) && held (u32_at r 5)) ≡ true = rw k at h in
    let a = leb-true (u8_at r 4) 7 (search (and_l, and_r, z) depth 6) in
    omega arith

pub record Numbered (rs : List (List ℕ)) (l : List Generations) (left : List (List ℕ)) : Type 0 where
  pub long : length l ≡ 8
  pub placed : all has_place left ≡ true
  pub told : (s : ℕ) → s < 8 → pushed (get_or l s no_generations).messages (numbers s left) ≡ (generations_told rs s).messages

pub numbered-start : (m : List ℕ) → ReadableSet m → (left : List (List ℕ)) → left ≡ row_in m → Numbered (row_in m) (replicate 8 no_generations) left
numbered-start m t left e =
    record {
      long = length-replicate 8 no_generations;
      placed = ap (all has_place) e ∙ t.placed;
      told = λ s h. ap (λ (rs : List (List ℕ)). pushed (get_or (replicate 8 no_generations) s no_generations).messages (numbers s rs)) e
          ∙ ap (λ (g : Generations). pushed g.messages (numbers s (row_in m))) (get_or-replicate 8 s no_generations no_generations h)
          ∙ pushed_none (row_in m) s (set-series (row_in m) t.ordered s);
    }

module _ (rows : List (List ℕ)) (l : List Generations) (q : List ℕ) (left others : List (List ℕ)) (g : Numbered rows l left) (e : left ≡ q ∷ others) where
  has_both : (has_place q && all has_place others) ≡ true
  unfolding all
  has_both = sym (ap (all has_place) e) ∙ g.placed

  numbers-both : (s : ℕ) → s < 8 → pushed (get_or l s no_generations).messages
      (map generation_told (if of_series s q then q ∷ keep (of_series s) others else keep (of_series s) others)) ≡ (generations_told rows s).messages
  unfolding keep
  numbers-both s h = sym (ap (λ (rs : List (List ℕ)). pushed (get_or l s no_generations).messages (numbers s rs)) e) ∙ g.told s h

  numbers-one : (s : ℕ) → s < 8 → of_series s q ≡ true → pushed (one_more (generation_told q) (get_or l s no_generations).messages) (numbers s others) ≡ (generations_told rows s).messages
  unfolding pushed
  numbers-one s h v = rw v at (numbers-both s h)

  pub numbered-skip : tells_generation q ≡ false → Numbered rows l others
  numbered-skip t =
      record {
        long = g.long;
        placed = and_r (has_place q) (all has_place others) has_both;
        told = λ s h. let z : of_series s q ≡ false = unfold of_series in (rw t) in rw z at (numbers-both s h);
      }

  module _ (t : tells_generation q ≡ true) where
    pub numbered-room : (n : ℕ) → n ≡ u8_at q 4 → n < 8
    numbered-room n z = let a = gen-placed q t (and_l (has_place q) (all has_place others) has_both) in omega arith

    pub numbered-put : (n number : ℕ) (d x : Generations) → n ≡ u8_at q 4 → number ≡ generation_told q → x.messages ≡ one_more number (get_or l n d).messages → Numbered rows (set l n x) others
    numbered-put n number d x z w made =
        let o = numbered-room n z in
        let k = g.long in
        let y : x.messages ≡ one_more (generation_told q) (get_or l n no_generations).messages =
        made ∙ ap₂ (λ (i : ℕ) (j : Generations). one_more i j.messages) w (get_d_any l n d no_generations (omega arith)) in
        record {
          long = length-set l n x ∙ k;
          placed = and_r (has_place q) (all has_place others) has_both;
          told = λ s h. elim (ℕ_discrete s n) [
            | yes w ↦
                let v : of_series s q ≡ true = unfold of_series in (rw (t, eq-eqb (u8_at q 4) s (sym z ∙ sym w))) in
                let u : get_or (set l n x) s no_generations ≡ x = ap (λ (j : ℕ). get_or (set l n x) j no_generations) w ∙ get_or-set_same l n x no_generations (omega arith) in
                ap (λ (i : Generations). pushed i.messages (numbers s others)) u
                ∙ ap (λ (i : List ℕ). pushed i (numbers s others)) (y ∙ ap (λ (j : ℕ). one_more (generation_told q) (get_or l j no_generations).messages) (sym w))
                ∙ numbers-one s h v
            | no w ↦
                let v : of_series s q ≡ false = unfold of_series in (rw (t, ne_eqb (u8_at q 4) s (λ j. w (sym j ∙ sym z)))) in
                ap (λ (i : Generations). pushed i.messages (numbers s others)) (get_or-set_other l n s x no_generations w) ∙ (rw v at (numbers-both s h))
          ];
        }

pub numbered-end : (rs : List (List ℕ)) (l : List Generations) (left : List (List ℕ)) → Numbered rs l left → left ≡ [] → l ≡ upward (generations_told rs) 0 8
numbered-end rs l left g e =
    let n = g.long in
    sym (ap (upward (generations_told rs) 0) (sym n) ∙ upward-is (generations_told rs) no_generations 0 l
    (λ i lt. let z : 0 + i ≡ i = omega arith in
    let y : (get_or l i no_generations).messages ≡ (generations_told rs i).messages =
    sym (ap (λ (w : List (List ℕ)). pushed (get_or l i no_generations).messages (numbers i w)) e ∙ (unfold pushed keep in refl)) ∙ g.told i (omega arith) in
    ap (generations_told rs) z ∙ ap (λ (x : List ℕ). record { messages = x }) (sym y)))

-- One number more -------------------------------------------------------------------------------

-- the oldest number comes last, and the new one in its place
pub turned : (old l : List ℕ) (number : ℕ) → length old ≡ 20 → l ≡ drop 1 old ++ take 1 old → set l 19 number ≡ one_more number old
unfolding one_more
turned [] l number n e = absurd (omega arith)
turned (x ∷ old) l number n e = rw e (last old 19 (omega arith))
  where
    last : (xs : List ℕ) (k : ℕ) → length xs ≡ k → set (xs ++ (x ∷ [])) k number ≡ xs ++ (number ∷ [])
    last [] zero h = refl
    last [] (suc k) h = absurd (omega arith)
    last (y ∷ xs) zero h = absurd (omega arith)
    last (y ∷ xs) (suc k) h = ap (λ (z : List ℕ). y ∷ z) (last xs k (omega arith))
