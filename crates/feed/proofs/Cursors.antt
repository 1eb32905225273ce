-- What stands on a line from a position on, from what the code has found of its bytes.
use Rattle.std.specs.Prelude.{Some, None, nat_eq}
use Rattle.std.specs.Cmp.Lexicographic.{pointwise}
use mathlib.Core.Path.{◌≡◌, refl, sym, ap, ap₂, ◌∙◌}
use mathlib.Core.Bool.{Bool, true, false, ◌&&◌}
use mathlib.Core.List.{List, [], ◌∷◌}
use Prim.Native.Nat.{ℕ, zero, suc, ◌+◌, ◌-◌, ◌<◌, ◌≤◌}
use native.Mathlib.Omega.{arith}
use lib.Dec.{leb, ltb, eqb}
use lib.ListN.{length, take, drop, length-drop}
use lib.Seq.{drop-drop}
use borrow.Author.Tests.{eqb-true, eqb-false, eq-eqb, ne_eqb, leb-true, leb-false, le-leb, lt-leb, lt-ltb, le-ltb, ltb-true, ltb-false, not-true}
use Rattle.rules.specs.Bytes.{u16_at, u32_at, length_field}
use Rattle.rules.specs.Refusals.{torn}
use Rattle.rules.proofs.RefusalsLaws.{whole}
use Rattle.rules.proofs.Tests.{or-false-l, or-false-r}
use Rattle.wire.proofs.Numbers.{u16-here, u32-here}
use Rattle.reader.specs.declared.Head.TheVariants.{Message}
use Rattle.reader.specs.Head.{head_of, head_at}
use Rattle.reader.proofs.Heads.{head-end, head-torn, head-message}
use Rattle.feed.specs.Feed.{number_of, message_in, behind, faulty, faultless, faultless_from, same}
use Rattle.feed.specs.declared.Line.{Line}
use Rattle.feed.specs.Requirements.{MessageThere, LinesLeft}
use Rattle.feed.specs.Cursors.{left_of, part_length, ready, stop_of, part_of, advance_of}

-- Numbers -------------------------------------------------------------------------------------

pub number-none : (l : List ℕ) (at : ℕ) → length l - at < 4 → 0 ≡ number_of (drop at l)
unfolding number_of
number-none l at h = let k = length-drop at l in rw (lt-ltb (length (drop at l)) 4 (omega arith))

pub number-here : (l : List ℕ) (at : ℕ) → 4 ≤ length l - at → u32_at l at ≡ number_of (drop at l)
unfolding number_of
number-here l at h = let k = length-drop at l in rw (le-ltb (length (drop at l)) 4 (omega arith)) (u32-here at l)

number-some : (bs : List ℕ) → 0 < number_of bs → 4 ≤ length bs
unfolding number_of
number-some bs h = go (leb 4 (length bs)) refl
  where
    go : (t : Bool) → leb 4 (length bs) ≡ t → 4 ≤ length bs
    go true e = leb-true 4 (length bs) e
    go false e = let z = leb-false 4 (length bs) e in let y = rw (lt-ltb (length bs) 4 z) at h in absurd (omega arith)

pub number-ahead : (l : List ℕ) (at : ℕ) → 0 < number_of (drop at l) → at + 4 ≤ length l
number-ahead l at h = let k = length-drop at l in let z = number-some (drop at l) h in omega arith

-- Faults --------------------------------------------------------------------------------------

-- what is not faulty has a whole message, and a number above the last
pub fine-whole : (last : ℕ) (bs : List ℕ) → faulty last bs ≡ false → torn (drop 4 bs) ≡ false
unfolding faulty
fine-whole last bs e = or-false-r (leb (number_of bs) last) (torn (drop 4 bs)) e

pub fine-above : (last : ℕ) (bs : List ℕ) → faulty last bs ≡ false → last < number_of bs
unfolding faulty
fine-above last bs e = leb-false (number_of bs) last (or-false-l (leb (number_of bs) last) (torn (drop 4 bs)) e)

pub fine-in : (last : ℕ) (bs : List ℕ) → last < number_of bs → torn (drop 4 bs) ≡ false → faulty last bs ≡ false
unfolding faulty
fine-in last bs h t = rw (lt-leb (number_of bs) last h) t

-- and all of it is there
pub fine-length : (last : ℕ) (bs : List ℕ) → faulty last bs ≡ false → (4 ≤ length_field (drop 4 bs)) × (4 + length_field (drop 4 bs) ≤ length bs)
fine-length last bs e =
    let w = whole (drop 4 bs) (fine-whole last bs e) in
    let a = w.0 in
    let b = w.1 in
    let k = length-drop 4 bs in
    let n = number-some bs (let z = fine-above last bs e in omega arith) in
    (a, omega arith)

-- a line that is ready and not at its end
pub ready-fine : (last : ℕ) (bs : List ℕ) → ready last bs ≡ true → 0 < length bs → faulty last bs ≡ false
unfolding ready
ready-fine last bs e h = not-true (faulty last bs) (rw (ne_eqb (length bs) 0 (λ z. omega arith)) at e)

pub ready-some : (last : ℕ) (bs : List ℕ) → ready last bs ≡ true → 0 < number_of bs → faulty last bs ≡ false
ready-some last bs e h = let z = number-some bs h in ready-fine last bs e (omega arith)

-- the same, of the bytes from a position on
module _ (l : List ℕ) (at : ℕ) where
  pub field-here : length_field (drop 4 (drop at l)) ≡ u16_at l (at + 4)
  unfolding length_field
  field-here = ap (λ (x : List ℕ). u16_at x 0) (drop-drop 4 at l) ∙ sym (u16-here (at + 4) l)

  pub message-here : (n : ℕ) → n ≡ u16_at l (at + 4) → take (at + 4 + n - (at + 4)) (drop (at + 4) l) ≡ message_in (drop at l)
  unfolding message_in
  message-here n e =
      let z : at + 4 + n - (at + 4) ≡ length_field (drop 4 (drop at l)) = (let g = field-here in omega arith) in
      ap₂ take z (sym (drop-drop 4 at l))

-- behind a number that is not faulty stands a whole message
pub message-there : (l : Line) (last : ℕ) → faulty last (left_of l) ≡ false → MessageThere l
message-there l last e =
    let f = fine-length last (left_of l) e in
    let a = f.0 in
    let b = f.1 in
    let k = length-drop l.at l.bytes.now in
    let g = field-here l.bytes.now l.at in
    let p = number-ahead l.bytes.now l.at (let z = fine-above last (left_of l) e in omega arith) in
    record { head = omega arith; whole = omega arith }

-- 21's test of a part -------------------------------------------------------------------------

part-faulty : (last : ℕ) (bs : List ℕ) → faulty last bs ≡ true → None ≡ part_length last bs
unfolding part_length
part-faulty last bs e = rw e

part-fine : (last : ℕ) (bs : List ℕ) → faulty last bs ≡ false → Some (length_field (drop 4 bs)) ≡ part_length last bs
unfolding part_length
part-fine last bs e = rw e

pub part_low : (last : ℕ) (bs : List ℕ) → number_of bs ≤ last → None ≡ part_length last bs
part_low last bs h = part-faulty last bs (unfold faulty in (rw (le-leb (number_of bs) last h) refl))

-- what stands behind a number above the last
module _ (l : List ℕ) (at last : ℕ) (h : last < number_of (drop at l)) where
  abbrev ts : List ℕ
  ts = drop 4 (drop at l)

  here : head_at l (at + 4) ≡ head_of ts
  here = ap head_of (sym (drop-drop 4 at l))

  faulty-as : (t : Bool) → torn ts ≡ t → faulty last (drop at l) ≡ t
  unfolding faulty
  faulty-as t e = rw (lt-leb (number_of (drop at l)) last h) e

  pub part-head : (n : ℕ) → head_at l (at + 4) ≡ Message n → Some n ≡ part_length last (drop at l)
  part-head n m = go (torn ts) refl (eqb (length ts) 0) refl
    where
      go : (t : Bool) → torn ts ≡ t → (z : Bool) → eqb (length ts) 0 ≡ z → Some n ≡ part_length last (drop at l)
      go t e true f = let q = here in let r = head-end ts (eqb-true (length ts) 0 f) in let z : ◌≡◌ {A = ℕ} 0 1 = cc in absurd (omega arith)
      go true e false f = let q = here in let r = head-torn ts (let y = eqb-false (length ts) 0 f in omega arith) e in let z : ◌≡◌ {A = ℕ} 0 1 = cc in absurd (omega arith)
      go false e z f =
          let w = whole ts e in
          let a = w.0 in
          let b = w.1 in
          let q = here in
          let r = head-message ts (omega arith) e in
          let k : n ≡ length_field ts = cc in
          ap Some k ∙ part-fine last (drop at l) (faulty-as false e)

  pub part-not : ((n : ℕ) → head_at l (at + 4) ≡ Message n → ⊥) → None ≡ part_length last (drop at l)
  part-not m = go (torn ts) refl
    where
      go : (t : Bool) → torn ts ≡ t → None ≡ part_length last (drop at l)
      go true e = part-faulty last (drop at l) (faulty-as true e)
      go false e =
          let w = whole ts e in
          let a = w.0 in
          let b = w.1 in
          absurd (m _ (here ∙ head-message ts (omega arith) e))

-- its answer tells which
pub part-none : (last : ℕ) (bs : List ℕ) → None ≡ part_length last bs → faulty last bs ≡ true
part-none last bs e = go (faulty last bs) refl
  where
    go : (t : Bool) → faulty last bs ≡ t → faulty last bs ≡ true
    go true f = f
    go false f = let k = part-fine last bs f in let z : ◌≡◌ {A = ℕ} 0 1 = cc in absurd (omega arith)

pub part-some : (last : ℕ) (bs : List ℕ) (n : ℕ) → Some n ≡ part_length last bs → (faulty last bs ≡ false) × (n ≡ length_field (drop 4 bs))
part-some last bs n e = go (faulty last bs) refl
  where
    go : (t : Bool) → faulty last bs ≡ t → (faulty last bs ≡ false) × (n ≡ length_field (drop 4 bs))
    go true f = let k = part-faulty last bs f in let z : ◌≡◌ {A = ℕ} 0 1 = cc in absurd (omega arith)
    go false f = let k = part-fine last bs f in (f, cc)

-- A line, part by part ------------------------------------------------------------------------

pub faultless-none : (fuel last : ℕ) (bs : List ℕ) → length bs ≡ 0 → faultless_from fuel last bs ≡ true
unfolding faultless_from
faultless-none zero last bs e = refl
faultless-none (suc fuel) last bs e = rw (eq-eqb (length bs) 0 e, faultless_from)

pub faultless-not : (fuel last : ℕ) (bs : List ℕ) → 0 < length bs → faulty last bs ≡ true → faultless_from (suc fuel) last bs ≡ false
unfolding faultless_from
faultless-not fuel last bs h e = rw (ne_eqb (length bs) 0 (λ z. omega arith), e, faultless_from)

pub faultless-on : (fuel last : ℕ) (bs : List ℕ) → 0 < length bs → faulty last bs ≡ false → faultless_from (suc fuel) last bs ≡ faultless_from fuel (number_of bs) (behind bs)
unfolding faultless_from
faultless-on fuel last bs h e = rw (ne_eqb (length bs) 0 (λ z. omega arith), e, faultless_from)

pub behind-here : (l : List ℕ) (at n : ℕ) → n ≡ length_field (drop 4 (drop at l)) → behind (drop at l) ≡ drop (at + (4 + n)) l
unfolding behind
behind-here l at n e = rw (sym e) (drop-drop (4 + n) at l)

-- Bytes compared ------------------------------------------------------------------------------

-- what `==` of two slices of bytes answers
pub same-pointwise : (a b : List ℕ) → pointwise nat_eq a b ≡ same a b
unfolding same
same-pointwise [] [] = refl
same-pointwise [] (y ∷ b) = refl
same-pointwise (x ∷ a) [] = refl
same-pointwise (x ∷ a) (y ∷ b) = ap (λ (t : Bool). eqb x y && t) (same-pointwise a b)

-- What comes up -------------------------------------------------------------------------------

-- one of the lines has a number above the last, so there is a next one
pub next_fits : (last : ℕ) (m s : Line) → LinesLeft m s last → number_of (left_of m) < 4294967296 → number_of (left_of s) < 4294967296 → last < 4294967295
next_fits last m s w x y = go (ltb m.at (length m.bytes.now)) refl
  where
    go : (t : Bool) → ltb m.at (length m.bytes.now) ≡ t → last < 4294967295
    go true e =
        let z = ltb-true m.at (length m.bytes.now) e in
        let j = length-drop m.at m.bytes.now in
        let f = fine-above last (left_of m) (ready-fine last (left_of m) w.main (omega arith)) in
        omega arith
    go false e =
        let z = ltb-false m.at (length m.bytes.now) e in
        let left = w.left in
        let j = length-drop s.at s.bytes.now in
        let f = fine-above last (left_of s) (ready-fine last (left_of s) w.spare (omega arith)) in
        omega arith

module _ (n : ℕ) (m s : List ℕ) where
  pub stop-neither : (number_of m ≡ n → ⊥) → (number_of s ≡ n → ⊥) → 20 ≡ stop_of n m s
  unfolding stop_of
  stop-neither a b = rw (ne_eqb (number_of m) n a, ne_eqb (number_of s) n b)

  pub stop-spare : (number_of m ≡ n → ⊥) → number_of s ≡ n → 0 ≡ stop_of n m s
  unfolding stop_of
  stop-spare a b = rw (ne_eqb (number_of m) n a, eq-eqb (number_of s) n b)

  pub stop-main : number_of m ≡ n → (number_of s ≡ n → ⊥) → 0 ≡ stop_of n m s
  unfolding stop_of
  stop-main a b = rw (eq-eqb (number_of m) n a, ne_eqb (number_of s) n b)

  pub stop-same : number_of m ≡ n → number_of s ≡ n → same (message_in m) (message_in s) ≡ true → 0 ≡ stop_of n m s
  unfolding stop_of
  stop-same a b c = rw (eq-eqb (number_of m) n a, eq-eqb (number_of s) n b, c)

  pub stop-differ : number_of m ≡ n → number_of s ≡ n → same (message_in m) (message_in s) ≡ false → 19 ≡ stop_of n m s
  unfolding stop_of
  stop-differ a b c = rw (eq-eqb (number_of m) n a, eq-eqb (number_of s) n b, c)

  pub part-main : number_of m ≡ n → message_in m ≡ part_of n m s
  unfolding part_of
  part-main a = rw (eq-eqb (number_of m) n a)

  pub part-spare : (number_of m ≡ n → ⊥) → message_in s ≡ part_of n m s
  unfolding part_of
  part-spare a = rw (ne_eqb (number_of m) n a)

  -- where nothing stops it and main does not have it, the spare has it
  pub spare-has : (number_of m ≡ n → ⊥) → stop_of n m s ≡ 0 → number_of s ≡ n
  spare-has a e = go (eqb (number_of s) n) refl
    where
      go : (t : Bool) → eqb (number_of s) n ≡ t → number_of s ≡ n
      go true f = eqb-true (number_of s) n f
      go false f = let z = stop-neither a (eqb-false (number_of s) n f) in absurd (omega arith)

pub advance-not : (n : ℕ) (bs : List ℕ) → (number_of bs ≡ n → ⊥) → advance_of n bs ≡ 0
unfolding advance_of
advance-not n bs e = rw (ne_eqb (number_of bs) n e)

pub advance-is : (n : ℕ) (bs : List ℕ) → number_of bs ≡ n → advance_of n bs ≡ 4 + length_field (drop 4 bs)
unfolding advance_of
advance-is n bs e = rw (eq-eqb (number_of bs) n e)

-- how far a line is tested
pub record Tested (l : List ℕ) (last at : ℕ) : Type 0 where
  pub fuel : ℕ
  pub enough : length l - at ≤ fuel
  pub within : at ≤ length l
  pub is : faultless l ≡ faultless_from fuel last (drop at l)

pub tested-start : (l : List ℕ) → Tested l 0 0
unfolding faultless
tested-start l = record { fuel = length l; enough = omega arith; within = omega arith; is = refl }

module _ (l : List ℕ) (last at : ℕ) (g : Tested l last at) where
  pub tested-end : length l ≤ at → true ≡ faultless l
  tested-end h = let k = length-drop at l in sym (g.is ∙ faultless-none g.fuel last (drop at l) (omega arith))

  module _ (ahead : at < length l) where
    some_left : 0 < length (drop at l)
    some_left = let k = length-drop at l in omega arith

    pub tested-not : faulty last (drop at l) ≡ true → false ≡ faultless l
    tested-not e = sym (g.is ∙ go g.fuel g.enough)
      where
        go : (f : ℕ) → length l - at ≤ f → faultless_from f last (drop at l) ≡ false
        go zero h = absurd (omega arith)
        go (suc f) h = faultless-not f last (drop at l) some_left e

    module _ (n x : ℕ) (e : faulty last (drop at l) ≡ false) (n-is : n ≡ length_field (drop 4 (drop at l))) (x-is : x ≡ number_of (drop at l)) where
      pub part-within : at + (4 + n) ≤ length l
      part-within =
          let w = (fine-length last (drop at l) e).1 in
          let k = length-drop at l in
          omega arith

      pub tested-on : Tested l x (at + (4 + n))
      tested-on = go g.fuel g.enough g.is
        where
          go : (f : ℕ) → length l - at ≤ f → faultless l ≡ faultless_from f last (drop at l) → Tested l x (at + (4 + n))
          go zero h i = absurd (omega arith)
          go (suc f) h i = record {
            fuel = f;
            enough = omega arith;
            within = part-within;
            is = i ∙ faultless-on f last (drop at l) some_left e ∙ ap₂ (faultless_from f) (sym x-is) (behind-here l at n n-is);
          }
