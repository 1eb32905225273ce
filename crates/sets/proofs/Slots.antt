-- Legging orders by place: their records rise, and tell the places.
use Rattle.std.specs.Prelude.{if◌then◌else◌}
use mathlib.Core.Path.{◌≡◌, refl, sym, ◌∙◌}
use mathlib.Core.Bool.{Bool, true, false, ◌&&◌}
use mathlib.Core.List.{List, [], ◌∷◌, ◌++◌, append_assoc}
use Prim.Native.Nat.{ℕ, zero, suc, ◌≤◌, ◌<◌, ◌+◌, ◌-◌, ◌*◌}
use native.Mathlib.Omega.{arith}
use lib.ListN.{length, get_or}
use borrow.Author.Tests.{eq-eqb, eqb-true, ne_eqb}
use Rattle.rules.specs.declared.Legging.{Legging}
use Rattle.rules.specs.declared.Venue.{Venue}
use Rattle.rules.specs.Base.{held}
use Rattle.rules.specs.Words.{is_id, is_price, is_quantity, no_legging, place_of}
use Rattle.rules.specs.Places.{blank_legging}
use Rattle.rules.specs.Sound.{legging_sound, leggings_sound}
use Rattle.rules.proofs.Tests.{and_l, and_r}
use Rattle.wire.proofs.Encoding.{id-fits, price-fits, quantity-fits}
use Rattle.sets.specs.Set.{legging_record, legging_records, legging_told, sort_key, tells_legging}
use Rattle.sets.proofs.Lists.{Each, Rising, rising-lower}
use Rattle.sets.proofs.Fine.{Good, good, legging-fine}
use Rattle.sets.proofs.Records.{LeggingTells, legging-tells}

-- a legging place of a sound venue: an order whose fields are in range, or free
pub record Placed (l : Legging) : Type 0 where
  pub full : held l.quantity ≡ true → (is_id l.parent ≡ true) × (is_price l.price ≡ true) × (is_quantity l.quantity ≡ true)
  pub free : held l.quantity ≡ false → l ≡ no_legging

blank_none : (l : Legging) → blank_legging l ≡ true → l ≡ no_legging
unfolding blank_legging
blank_none l z =
    let a = eqb-true l.parent 0 (search (and_l, and_r, z) depth 4) in
    let b = eqb-true l.price 0 (search (and_l, and_r, z) depth 4) in
    let c = eqb-true l.quantity 0 (search (and_l, and_r, z) depth 4) in
    rw (a, b, c)

placed : (v : Venue) (n : ℕ) (l : Legging) → legging_sound v n l ≡ true → Placed l
unfolding legging_sound
placed v n l z = record {
  full = λ e. let h = rw e at z in ((search (and_l, and_r, h) depth 8), (search (and_l, and_r, h) depth 8), (search (and_l, and_r, h) depth 8));
  free = λ e. blank_none l (rw e at z);
}

pub all_placed : (v : Venue) (n : ℕ) (ls : List Legging) → leggings_sound v n ls ≡ true → Each Placed ls
unfolding leggings_sound
all_placed v n [] h = tt
all_placed v n (l ∷ ls) h =
    (placed v n l (and_l (legging_sound v n l) (leggings_sound v (suc n) ls) h), all_placed v (suc n) ls (and_r (legging_sound v n l) (leggings_sound v (suc n) ls) h))

-- One place -----------------------------------------------------------------------------------

-- the record of a place; none where it is free
abbrev pub slot : (s d : ℕ) → Legging → List (List ℕ)
slot s d l = if held l.quantity then legging_record s d l ∷ [] else []

-- no record from a later place on tells a place
pub told_none : (n low : ℕ) (rs : List (List ℕ)) → n < low → Rising sort_key low rs → legging_told rs n ≡ no_legging
unfolding legging_told
told_none n low [] lt h = refl
told_none n low (r ∷ rs) lt h = rw (ne_eqb (sort_key r) n (λ e. omega arith), and_no (tells_legging r)) (told_none n (suc (sort_key r)) rs (omega arith) h.1)
  where
    and_no : (b : Bool) → (b && false) ≡ false
    and_no true = refl
    and_no false = refl

module _ (s d : ℕ) (a : s ≤ 7) (b : d ≤ 1) (l : Legging) (p : Placed l) (rest : List (List ℕ)) where
  slot-good : Each (Good 3) rest → Each (Good 3) (slot s d l ++ rest)
  slot-good h = go (held l.quantity) refl
    where
      go : (t : Bool) → held l.quantity ≡ t → Each (Good 3) ((if t then legging_record s d l ∷ [] else []) ++ rest)
      go true e = let f = p.full e in (good 3 (place_of s d) (legging_record s d l) (legging-fine s d l a b f.0 f.1 f.2 e), h)
      go false e = h

  -- its mark, and what it tells
  slot-sort-key : held l.quantity ≡ true → sort_key (legging_record s d l) ≡ place_of s d
  slot-sort-key e = let f = p.full e in (legging-fine s d l a b f.0 f.1 f.2 e).marked

  slot-tells : held l.quantity ≡ true → LeggingTells s d l
  slot-tells e = let f = p.full e in legging-tells s d l (omega arith) (omega arith) (id-fits l.parent f.0) (price-fits l.price f.1) (quantity-fits l.quantity f.2)

  slot-rises : Rising sort_key (suc (place_of s d)) rest → Rising sort_key (place_of s d) (slot s d l ++ rest)
  slot-rises h = go (held l.quantity) refl
    where
      go : (t : Bool) → held l.quantity ≡ t → Rising sort_key (place_of s d) ((if t then legging_record s d l ∷ [] else []) ++ rest)
      go true e = rw (slot-sort-key e) ((omega arith, h))
      go false e = rising-lower sort_key (place_of s d) (suc (place_of s d)) rest (omega arith) h

  slot-other : (n : ℕ) → (place_of s d ≡ n → ⊥) → legging_told (slot s d l ++ rest) n ≡ legging_told rest n
  unfolding legging_told tells_legging
  slot-other n ne = go (held l.quantity) refl
    where
      go : (t : Bool) → held l.quantity ≡ t → legging_told ((if t then legging_record s d l ∷ [] else []) ++ rest) n ≡ legging_told rest n
      go true e = rw (slot-sort-key e, (slot-tells e).kind, ne_eqb (place_of s d) n ne)
      go false e = refl

  slot-here : Rising sort_key (suc (place_of s d)) rest → legging_told (slot s d l ++ rest) (place_of s d) ≡ l
  unfolding legging_told tells_legging
  slot-here h = go (held l.quantity) refl
    where
      go : (t : Bool) → held l.quantity ≡ t → legging_told ((if t then legging_record s d l ∷ [] else []) ++ rest) (place_of s d) ≡ l
      go true e = let t = slot-tells e in rw (slot-sort-key e, t.kind, eq-eqb (place_of s d) (place_of s d) refl, t.parent, t.price, t.quantity)
      go false e = told_none (place_of s d) (suc (place_of s d)) rest (omega arith) h ∙ sym (p.free e)

-- All places ----------------------------------------------------------------------------------

module _ (s : ℕ) (l k : Legging) (ls : List Legging) where
  pub two-slots : legging_records s (l ∷ k ∷ ls) ≡ slot s 0 l ++ (slot s 1 k ++ legging_records (suc s) ls)
  unfolding legging_records
  two-slots = append_assoc (slot s 0 l) (slot s 1 k) (legging_records (suc s) ls)

pub leggings-good : (s : ℕ) (ls : List Legging) → 2 * s + length ls ≤ 16 → Each Placed ls → Each (Good 3) (legging_records s ls)
unfolding legging_records
leggings-good s [] le h = tt
leggings-good s (l ∷ []) le h = tt
leggings-good s (l ∷ k ∷ ls) le h =
    rw (two-slots s l k ls) (slot-good s 0 (omega arith) (omega arith) l h.0 _ (slot-good s 1 (omega arith) (omega arith) k h.1.0 _ (leggings-good (suc s) ls (omega arith) h.1.1)))

-- places 2s and 2s + 1
pub places_of : (s : ℕ) → (place_of s 0 ≡ 2 * s) × (place_of s 1 ≡ 2 * s + 1)
unfolding place_of
places_of s = (omega arith, refl)

pub leggings-rise : (s : ℕ) (ls : List Legging) → 2 * s + length ls ≤ 16 → Each Placed ls → Rising sort_key (2 * s) (legging_records s ls)
unfolding legging_records
leggings-rise s [] le h = tt
leggings-rise s (l ∷ []) le h = tt
leggings-rise s (l ∷ k ∷ ls) le h =
    let p = places_of s in
    let z : suc (place_of s 0) ≡ place_of s 1 = omega arith in
    let y : suc (place_of s 1) ≡ 2 * suc s = omega arith in
    rw (two-slots s l k ls, ← p.0)
    (slot-rises s 0 (omega arith) (omega arith) l h.0 _
    (rw z (slot-rises s 1 (omega arith) (omega arith) k h.1.0 _ (rw y (leggings-rise (suc s) ls (omega arith) h.1.1)))))

pub leggings-told : (s i : ℕ) (ls : List Legging) → 2 * s + length ls ≤ 16 → Each Placed ls → (m : ℕ) → length ls ≡ 2 * m → legging_told (legging_records s ls) (2 * s + i) ≡ get_or ls i no_legging
leggings-told s i [] le h m e = unfold legging_records legging_told in refl
leggings-told s i (l ∷ []) le h m e = absurd (omega arith)
leggings-told s i (l ∷ k ∷ ls) le h m e = rw (two-slots s l k ls) (go i (λ j. leggings-told (suc s) j ls (omega arith) h.1.1 (m - 1) (omega arith)))
  where
    rest : List (List ℕ)
    rest = legging_records (suc s) ls

    rises : Rising sort_key (suc (place_of s 1)) rest
    rises = let p = places_of s in let y : suc (place_of s 1) ≡ 2 * suc s = omega arith in rw y (leggings-rise (suc s) ls (omega arith) h.1.1)

    second : Rising sort_key (suc (place_of s 0)) (slot s 1 k ++ rest)
    second = let p = places_of s in let z : suc (place_of s 0) ≡ place_of s 1 = omega arith in rw z (slot-rises s 1 (omega arith) (omega arith) k h.1.0 rest rises)

    go : (i : ℕ) → ((j : ℕ) → legging_told rest (2 * suc s + j) ≡ get_or ls j no_legging) → legging_told (slot s 0 l ++ (slot s 1 k ++ rest)) (2 * s + i) ≡ get_or (l ∷ k ∷ ls) i no_legging
    go zero ih = let p = places_of s in let z : 2 * s + 0 ≡ place_of s 0 = omega arith in rw z (slot-here s 0 (omega arith) (omega arith) l h.0 _ second)
    go (suc zero) ih =
        let p = places_of s in
        let z : 2 * s + 1 ≡ place_of s 1 = omega arith in
        rw z (slot-other s 0 (omega arith) (omega arith) l h.0 (slot s 1 k ++ rest) (place_of s 1) (λ q. omega arith) ∙ slot-here s 1 (omega arith) (omega arith) k h.1.0 rest rises)
    go (suc (suc j)) ih =
        let p = places_of s in
        let z : 2 * s + suc (suc j) ≡ 2 * suc s + j = omega arith in
        rw z (slot-other s 0 (omega arith) (omega arith) l h.0 (slot s 1 k ++ rest) (2 * suc s + j) (λ q. omega arith) ∙ slot-other s 1
        (omega arith) (omega arith) k h.1.0 rest (2 * suc s + j) (λ q. omega arith) ∙ ih j)
