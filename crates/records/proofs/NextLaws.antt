-- The sheet reads back: each record's bytes give the record, and the zeros after them end the sheet.
use mathlib.Core.Path.{◌≡◌, refl, sym, ap, subst, ◌∙◌}
use mathlib.Core.Bool.{Bool, true, false}
use mathlib.Core.List.{List, [], ◌∷◌, ◌++◌, append_assoc}
use Prim.Native.Nat.{ℕ, zero, suc, ◌+◌, ◌≤◌, ◌<◌, min}
use native.Mathlib.Omega.{arith}
use lib.Dec.{eqb, leb, ltb}
use lib.IntN.{ℤ}
use lib.ListN.{length, drop, drop_of_length-le}
use lib.Seq.{drop-drop}
use borrow.Author.Tests.{ne_eqb, eqb-true, eqb-false, leb-true, leb-false, ltb-true, ltb-false}
use Rattle.rules.specs.Bytes.{u8_at, u16_at, u32_at, as_signed, as_unsigned, length_field, kind_field, bytes, u16, u32, i32}
use Rattle.rules.specs.Records.{Report, encode, encode_all, sheet, record_of, records_from, records, TwoBytes, FourBytes, FourSigned, Fits, ForAll}
use Rattle.std.specs.Prelude.{Option, Some, None}
use Rattle.records.specs.declared.Found.{Found}
use Rattle.records.specs.Next.{next_record, records_at}
use Rattle.records.specs.Seen.{Seen, seen, pasted, ◌plus◌}
use Rattle.wire.proofs.Numbers.{u16-past, u16-drop, u16-here, u32-here}
use Rattle.records.proofs.SeenLaws.{plus-in, pasted-from}
use Rattle.rules.proofs.Reading.{half, word, signed_back, signed-small, record-back, reads-back}
use Rattle.rules.proofs.CallsLaws.{sheet-length}

-- Read after write ---------------------------------------------------------------------------

module _ (l : List ℕ) (at : ℕ) where
  pub u16-read : (x : ℕ) → TwoBytes x → at + 2 ≤ length l → u16_at (pasted l at (u16 x)) at ≡ x
  unfolding bytes u16_at u8_at
  u16-read x h f =
      u16-here at (pasted l at (u16 x)) ∙ ap (λ (m : List ℕ). u16_at m 0) (pasted-from l (u16 x) at (omega arith)) ∙ half x h

  pub u32-read : (x : ℕ) → FourBytes x → at + 4 ≤ length l → u32_at (pasted l at (u32 x)) at ≡ x
  unfolding bytes u32_at u16_at u8_at
  u32-read x h f =
      u32-here at (pasted l at (u32 x)) ∙ ap (λ (m : List ℕ). u32_at m 0) (pasted-from l (u32 x) at (omega arith)) ∙ word x h

  pub i32-read : (z : ℤ) → FourSigned z → at + 4 ≤ length l → as_signed (u32_at (pasted l at (i32 z)) at) ≡ z
  i32-read z h f = ap as_signed (u32-read (as_unsigned z) (signed-small z h) f) ∙ signed_back z h

  pub record-read : (r : Report) → Fits r → at + length (encode r) ≤ length l → record_of (drop at (seen l at plus encode r).memory) ≡ r
  unfolding seen
  record-read r h f =
      ap (λ (w : Seen). record_of (drop at w.memory)) (plus-in l (encode r) at f)
      ∙ ap record_of (pasted-from l (encode r) at (omega arith))
      ∙ record-back r h (drop (at + length (encode r)) l)

-- Sheets --------------------------------------------------------------------------------------

pub encode_all-append : (a b : List Report) → encode_all (a ++ b) ≡ encode_all a ++ encode_all b
unfolding encode_all
encode_all-append [] b = refl
encode_all-append (r ∷ a) b = ap (λ (x : List ℕ). encode r ++ x) (encode_all-append a b) ∙ sym (append_assoc (encode r) (encode_all a) (encode_all b))

-- Record by record ----------------------------------------------------------------------------

module _ (m : List ℕ) (at : ℕ) where
  pub next-none : u16_at m at ≡ 0 → next_record m at ≡ None
  unfolding next_record
  next-none e = rw e

  pub next-found : (end : ℕ) → (u16_at m at ≡ 0 → ⊥) → end ≡ min (at + u16_at m at) (length m) → next_record m at ≡ Some (record { kind = u16_at m (at + 2); end = end })
  unfolding next_record
  next-found end n e = rw (ne_eqb (u16_at m at) 0 n, e)

  front_length : length_field (drop at m) ≡ u16_at m at
  unfolding length_field
  front_length = sym (u16-here at m)

  -- the sheet ends here
  ends_at : u16_at m at ≡ 0 → (fuel : ℕ) → records_from fuel (drop at m) ≡ []
  unfolding records_from
  ends_at z zero = refl
  ends_at z (suc fuel) = rw (front_length ∙ z, records_from)

  -- or goes on after a record
  after-at : (u16_at m at ≡ 0 → ⊥) → (fuel : ℕ) → records_from (suc fuel) (drop at m) ≡ record_of (drop at m) ∷ records_from fuel (drop (at + u16_at m at) m)
  unfolding records_from
  after-at n fuel =
      rw (front_length, ne_eqb (u16_at m at) 0 n, records_from, front_length)
      (ap (λ (l : List ℕ). record_of (drop at m) ∷ records_from fuel l) (drop-drop (u16_at m at) at m))

-- what `Some r` says of the record at a position and of those after it
pub record Follows (m : List ℕ) (at : ℕ) (r : Found) : Type 0 where
  pub kind-is : kind_field (drop at m) ≡ r.kind
  pub further : at < r.end
  pub inside : r.end ≤ length m
  pub rest-is : (fuel : ℕ) → records_from (suc fuel) (drop at m) ≡ record_of (drop at m) ∷ records_from fuel (drop r.end m)

module _ (m : List ℕ) (at : ℕ) where
  drop-end : (n : ℕ) → drop n m ≡ drop (min n (length m)) m
  drop-end n = go (leb n (length m)) refl
    where
      go : (t : Bool) → leb n (length m) ≡ t → drop n m ≡ drop (min n (length m)) m
      go true b = let h = leb-true n (length m) b in let e : n ≡ min n (length m) = omega arith in ap (λ (k : ℕ). drop k m) e
      go false b =
          let h = leb-false n (length m) b in
          drop_of_length-le m {i = n} (omega arith) ∙ sym (drop_of_length-le m {i = min n (length m)} (omega arith))

  -- a length other than 0 stands within the memory
  within-at : (u16_at m at ≡ 0 → ⊥) → at < length m
  within-at n = go (ltb at (length m)) refl
    where
      go : (t : Bool) → ltb at (length m) ≡ t → at < length m
      go true b = ltb-true _ _ b
      go false b = absurd (n (u16-past m at (ltb-false _ _ b)))

  end_is : (end : ℕ) → (u16_at m at ≡ 0 → ⊥) → end ≡ min (at + u16_at m at) (length m) → Follows m at (record { kind = u16_at m (at + 2); end = end })
  unfolding kind_field
  end_is end n e = record {
    kind-is = u16-drop at m 2;
    further = (let h = within-at n in omega (arith, n));
    inside = omega arith;
    rest-is = λ fuel. after-at m at n fuel ∙ ap (λ (l : List ℕ). record_of (drop at m) ∷ records_from fuel l) (drop-end (at + u16_at m at) ∙ ap (λ (k : ℕ). drop k m) (sym e));
  }

  pub next-follows : (r : Found) → next_record m at ≡ Some r → Follows m at r
  next-follows r e = go (eqb (u16_at m at) 0) refl
    where
      go : (t : Bool) → eqb (u16_at m at) 0 ≡ t → Follows m at r
      go true b = let z : ◌≡◌ {A = ℕ} 0 1 = (let q = next-none m at (eqb-true _ _ b) in cc) in absurd (omega arith)
      go false b =
          let n = eqb-false (u16_at m at) 0 b in
          let q = next-found m at _ n refl in
          let k : record { kind = u16_at m (at + 2); end = min (at + u16_at m at) (length m) } ≡ r = cc in
          subst (λ (x : Found). Follows m at x) k (end_is _ n refl)

  pub next-ends : next_record m at ≡ None → (fuel : ℕ) → records_from fuel (drop at m) ≡ []
  next-ends e = go (eqb (u16_at m at) 0) refl
    where
      go : (t : Bool) → eqb (u16_at m at) 0 ≡ t → (fuel : ℕ) → records_from fuel (drop at m) ≡ []
      go true b = ends_at m at (eqb-true _ _ b)
      go false b = let z : ◌≡◌ {A = ℕ} 0 1 = (let q = next-found m at _ (eqb-false _ _ b) refl in cc) in absurd (omega arith)

-- a reader who goes from record to record meets the records of the memory
pub walked : (fuel : ℕ) (m : List ℕ) (at : ℕ) → records_at fuel m at ≡ records_from fuel (drop at m)
unfolding records_at records_from
walked zero m at = refl
walked (suc fuel) m at = go (next_record m at) refl (λ end. walked fuel m end)
  where
    go : (x : Option Found) → next_record m at ≡ x → ((end : ℕ) → records_at fuel m end ≡ records_from fuel (drop end m)) →
        records_at (suc fuel) m at ≡ records_from (suc fuel) (drop at m)
    go (Some r) e rest =
        rw (e, records_at) (ap (λ (l : List Report). record_of (drop at m) ∷ l) (rest r.end) ∙ sym ((next-follows m at r e).rest-is fuel))
    go None e rest = rw (e, records_at) (sym (next-ends m at e (suc fuel)))

pub walks-back : (room : ℕ) (rs : List Report) → ForAll Fits rs → length (encode_all rs) ≤ room → records_at room (sheet room rs) 0 ≡ rs
unfolding records
walks-back room rs h le =
    walked room (sheet room rs) 0 ∙ ap (λ (k : ℕ). records_from k (sheet room rs)) (sym (sheet-length room rs le)) ∙ reads-back room rs h le
