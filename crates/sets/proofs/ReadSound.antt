-- What is read from any memory is sound: its books have the declared lengths, since a set has no record too many.
use Rattle.std.specs.Prelude.{if◌then◌else◌}
use mathlib.Core.Path.{◌≡◌, refl, ap}
use mathlib.Core.Bool.{Bool, true, false, not, ◌&&◌, false≢true}
use mathlib.Core.List.{List, [], ◌∷◌, map}
use Prim.Native.Nat.{ℕ, zero, suc, ◌≤◌, ◌<◌, ◌+◌}
use native.Mathlib.Omega.{arith}
use lib.Dec.{eqb}
use lib.ListN.{get_or, length, length-append, length-map, length-replicate}
use borrow.Author.Tests.{eqb-true, ne_eqb}
use Rattle.rules.specs.declared.Generations.{Generations}
use Rattle.rules.specs.Base.{all, keep}
use Rattle.rules.specs.Words.{no_complex, no_edition, no_generations, no_regular}
use Rattle.rules.specs.Bytes.{kind_field, u16_at, u32_at, u8_at}
use Rattle.rules.specs.Records.{FourBytes}
use Rattle.rules.specs.Generation.{generations_of}
use Rattle.rules.specs.Sound.{follows, sound}
use Rattle.rules.proofs.Tests.{and_l, and_r}
use Rattle.demands.specs.Soundness.{Shaped, SoundAt}
use Rattle.demands.proofs.Calls.{fresh-sound}
use Rattle.sets.specs.Set.{Held, ReadSet, broken, carries, complex_told, edition_told, few_enough, generations_told, has_place, held_in, in_order, is_set, joined, legging_told, listed_told}
use Rattle.sets.specs.Set.{not_read, number_told, of_series, of_short, of_whole, part, places, read_row, read_set, regular_told, row, series_then}
use Rattle.sets.specs.Set.{tells_complex, tells_edition, tells_generation, tells_legging, tells_regular, upward, venue_told}
use Rattle.sets.specs.Promises.{AllBytes, ReadsSound}
use Rattle.sets.proofs.Lists.{Each}
use Rattle.sets.proofs.Rows.{held_out}
use Rattle.sets.proofs.Counts.{Few, few-out}
use Rattle.sets.proofs.PartsKept.{Only, complexes-only, editions-only, leggings-only, regulars-only, series-only}
use Rattle.sets.proofs.Spelled.{Clean}
use Rattle.sets.proofs.WriteBack.{bytes_take, cleans}

-- After the series ----------------------------------------------------------------------------

-- what stands after the first record and the series' has few enough of each, and all that tells of the later parts
record Tail (rs : List (List ℕ)) : Type 0 where
  tail : List (List ℕ)
  few : few_enough tail ≡ true
  same : (k : ℕ) (f : List ℕ → Bool) → Only (suc k) f → keep f rs ≡ keep f tail

passed : (r : List ℕ) (rs : List (List ℕ)) → part r ≡ 0 → Tail rs → Tail (r ∷ rs)
unfolding keep
passed r rs e t = record { tail = t.tail; few = t.few; same = λ k f only. rw (only r 0 e (ne_eqb 0 (suc k) (λ z. omega arith))) (t.same k f only) }

-- kinds 80, 81, 5 and 4 are of no later part
part80 : (r : List ℕ) → kind_field r ≡ 80 → part r ≡ 0
unfolding part tells_edition tells_regular tells_complex tells_legging tells_generation
part80 r k = rw k

part81 : (r : List ℕ) → kind_field r ≡ 81 → part r ≡ 0
unfolding part tells_edition tells_regular tells_complex tells_legging tells_generation
part81 r k = rw k

part5 : (r : List ℕ) → kind_field r ≡ 5 → part r ≡ 0
unfolding part tells_edition tells_regular tells_complex tells_legging tells_generation
part5 r k = rw k

part4 : (r : List ℕ) → kind_field r ≡ 4 → part r ≡ 0
unfolding part tells_edition tells_regular tells_complex tells_legging tells_generation
part4 r k = rw k

series-tail : (count s : ℕ) (of : List ℕ → Bool) (rs : List (List ℕ)) → series_then count s of rs ≡ true → Tail rs
unfolding series_then
series-tail zero s of rs h = record { tail = rs; few = and_r (all of rs && in_order rs) (few_enough rs) h; same = λ k f only. refl }
series-tail (suc count) s of [] h = absurd (false≢true h)
series-tail (suc count) s of (q ∷ []) h = absurd (false≢true h)
series-tail (suc count) s of (q ∷ r ∷ rs) h =
    let a = eqb-true (kind_field q) 5 (search (and_l, and_r, h) depth 6) in
    let b = eqb-true (kind_field r) 4 (search (and_l, and_r, h) depth 6) in
    let rest = and_r (eqb (kind_field q) 5 && eqb (u8_at q 4) s && eqb (kind_field r) 4 && eqb (u8_at r 4) s) (series_then count (suc s) of rs) h in
    passed q (r ∷ rs) (part5 q a) (passed r rs (part4 r b) (series-tail count (suc s) of rs rest))

set-tail : (rs : List (List ℕ)) → is_set rs ≡ true → Tail rs
unfolding is_set
set-tail [] h = absurd (false≢true h)
set-tail (r ∷ rs) h = go (eqb (kind_field r) 80) refl (eqb (kind_field r) 81) refl h
  where
    go : (a : Bool) → eqb (kind_field r) 80 ≡ a → (b : Bool) → eqb (kind_field r) 81 ≡ b →
        (if a then series_then 8 0 of_whole rs else if b then series_then 8 0 of_short rs else false) ≡ true → Tail (r ∷ rs)
    go true e b f k = passed r rs (part80 r (eqb-true (kind_field r) 80 e)) (series-tail 8 0 of_whole rs k)
    go false e true f k = passed r rs (part81 r (eqb-true (kind_field r) 81 f)) (series-tail 8 0 of_short rs k)
    go false e false f k = absurd (false≢true k)

-- Few enough ----------------------------------------------------------------------------------

set-few : (rs : List (List ℕ)) → is_set rs ≡ true → Few rs
set-few rs h =
    let t = set-tail rs h in
    let few = few-out t.tail t.few in
    record {
      editions = rw (t.same 0 tells_edition editions-only) few.editions;
      regulars = rw (t.same 1 tells_regular regulars-only) few.regulars;
      complexes = rw (t.same 1 tells_complex complexes-only) few.complexes;
      leggings = rw (t.same 2 tells_legging leggings-only) few.leggings;
      generations = λ s. rw (t.same 3 (of_series s) (series-only s)) (few.generations s);
    }

-- The declared lengths ------------------------------------------------------------------------

places-length : {A : Type 0} (count : ℕ) (none : A) (l : List A) → length l ≤ count → length (places count none l) ≡ count
unfolding places
places-length count none l le = simp (length-append, length-replicate) (omega arith)

upward-length : {A : Type 0} (f : ℕ → A) (n count : ℕ) → length (upward f n count) ≡ count
unfolding upward
upward-length f n zero = refl
upward-length f n (suc count) = ap suc (upward-length f (suc n) count)

upward-each : {A : Type 0} (P : A → Type 0) (f : ℕ → A) (none : A) → ((i : ℕ) → P (f i)) → P none → (n count i : ℕ) → P (get_or (upward f n count) i none)
unfolding upward
upward-each P f none each p n zero i = p
upward-each P f none each p n (suc count) zero = each n
upward-each P f none each p n (suc count) (suc i) = upward-each P f none each p (suc n) count i

twenty : (rs : List (List ℕ)) → Few rs → (s : ℕ) → length (generations_told rs s).messages ≡ 20
unfolding generations_told
twenty rs few s = let le = few.generations s in simp (length-append, length-replicate, length-map) (omega arith)

told-shaped : (rs : List (List ℕ)) → is_set rs ≡ true → Shaped (venue_told rs)
unfolding venue_told generations_of
told-shaped rs h =
    let few = set-few rs h in
    record {
      regular = places-length 128 no_regular (map regular_told (keep tells_regular rs)) (simp length-map few.regulars);
      complex = places-length 32 no_complex (map complex_told (keep tells_complex rs)) (simp length-map few.complexes);
      legging = upward-length (legging_told rs) 0 16;
      series = upward-length (listed_told rs) 0 8;
      editions = places-length 32 no_edition (map edition_told (keep tells_edition rs)) (simp length-map few.editions);
      generations = upward-length (generations_told rs) 0 8;
      twenty = λ s. upward-each (λ (g : Generations). length g.messages ≡ 20) (generations_told rs) no_generations (twenty rs few) refl 0 8 s;
    }

-- What is read --------------------------------------------------------------------------------

row-sound : (rs : List (List ℕ)) → SoundAt (suc (read_row rs).message) (read_row rs).venue
unfolding read_row not_read
row-sound rs = go (is_set rs) (all has_place rs && carries (number_told rs) (venue_told rs)) refl refl
  where
    told-sound : is_set rs ≡ true → carries (number_told rs) (venue_told rs) ≡ true → SoundAt (suc (number_told rs)) (venue_told rs)
    told-sound e c = unfold carries in (record {
      venue = record { shaped = told-shaped rs e; is = and_l (sound (venue_told rs)) (follows (suc (number_told rs)) (venue_told rs)) c };
      next = and_r (sound (venue_told rs)) (follows (suc (number_told rs)) (venue_told rs)) c;
    })

    go : (a b : Bool) → is_set rs ≡ a → (all has_place rs && carries (number_told rs) (venue_told rs)) ≡ b →
        let r : ReadSet = if not a then not_read 16 else if not b then not_read 9 else record { number = 0; venue = venue_told rs; message = number_told rs } in
        SoundAt (suc r.message) r.venue
    go true true e f = told-sound e (and_r (all has_place rs) (carries (number_told rs) (venue_told rs)) f)
    go true false e f = fresh-sound
    go false b e f = fresh-sound

byte_fits : (r : List ℕ) → AllBytes r → (i : ℕ) → get_or r i 0 < 256
byte_fits [] h i = omega arith
byte_fits (x ∷ r) h zero = h.0
byte_fits (x ∷ r) h (suc i) = byte_fits r h.1 i

word_fits : (r : List ℕ) → AllBytes r → (i : ℕ) → FourBytes (u32_at r i)
unfolding u32_at u16_at u8_at
word_fits r h i =
    let a = byte_fits r h i in
    let b = byte_fits r h (i + 1) in
    let c = byte_fits r h (i + 2) in
    let d = byte_fits r h (i + 2 + 1) in
    omega arith

first-bytes : (rs : List (List ℕ)) → Each Clean rs → AllBytes (get_or rs 0 [])
first-bytes [] c = tt
first-bytes (r ∷ rs) c = c.0.bytes

row_fits : (rs : List (List ℕ)) → Each Clean rs → FourBytes (read_row rs).message
unfolding read_row not_read number_told
row_fits rs c = go (is_set rs) (all has_place rs && carries (u32_at (get_or rs 0 []) 4) (venue_told rs))
  where
    go : (a b : Bool) →
        let r : ReadSet = if not a then not_read 16 else if not b then not_read 9 else record { number = 0; venue = venue_told rs; message = u32_at (get_or rs 0 []) 4 } in
        FourBytes r.message
    go true true = word_fits (get_or rs 0 []) (first-bytes rs c) 4
    go true false = omega arith
    go false b = omega arith

pub reads-sound : ReadsSound
unfolding read_set not_read held_in
reads-sound = record { sound = λ memory. held-sound (held_in memory); number = λ memory b. held_fits memory b (held_in memory) refl }
  where
    held-sound : (h : Held) → let r : ReadSet = elim h as (λ _. ReadSet) [ broken ↦ not_read 16 | row rs ↦ read_row rs ] in SoundAt (suc r.message) r.venue
    held-sound broken = fresh-sound
    held-sound (row rs) = row-sound rs

    held_fits : (memory : List ℕ) → AllBytes memory → (h : Held) → held_in memory ≡ h → let r : ReadSet = elim h as
        (λ _. ReadSet) [ broken ↦ not_read 16 | row rs ↦ read_row rs ] in FourBytes r.message
    held_fits memory b broken e = omega arith
    held_fits memory b (row rs) e =
        let held = held_out (length memory) memory rs e in
        row_fits rs (cleans rs held.well (rw held.bytes at (bytes_take (length (joined rs)) memory b)))
