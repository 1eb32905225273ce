-- Bytes in the place of others, one by one; and a part lent and put back.
use mathlib.Core.Path.{◌≡◌, sym, ap, ◌∙◌}
use mathlib.Core.List.{List, ◌++◌, append_assoc}
use Prim.Native.Nat.{ℕ, ◌+◌, ◌-◌, ◌≤◌, ◌<◌}
use native.Mathlib.Omega.{arith}
use lib.ListN.{length, get_or, take, drop, length-drop, get_or-append}
use lib.Seq.{get_or-take, get_or-drop, drop-drop, length-take-le, ext_get_or}
use borrow.Rule.Slice.PartMut.{put_mid}
use Rattle.records.specs.Seen.{pasted}
use Rattle.records.proofs.SeenLaws.{pasted_below, pasted-from, pasted_above}

module _ (l bs : List ℕ) (at : ℕ) (inside : at ≤ length l) where
  pub byte-below : (k : ℕ) → k < at → get_or (pasted l at bs) k 0 ≡ get_or l k 0
  byte-below k h = sym (get_or-take at (pasted l at bs) k 0 h) ∙ ap (λ (x : List ℕ). get_or x k 0) (pasted_below l bs at inside) ∙ get_or-take at l k 0 h

  pub byte-in : (k : ℕ) → k < length bs → get_or (pasted l at bs) (at + k) 0 ≡ get_or bs k 0
  byte-in k h =
      sym (get_or-drop at (pasted l at bs) k 0) ∙ ap (λ (x : List ℕ). get_or x k 0) (pasted-from l bs at inside) ∙ get_or-append bs (drop (at + length bs) l) 0 k h

  pub byte_above : (k : ℕ) → at + length bs ≤ k → get_or (pasted l at bs) k 0 ≡ get_or l k 0
  byte_above k h =
      let n : ℕ = at + length bs in
      let e : n + (k - n) ≡ k = omega arith in
      ap (λ (i : ℕ). get_or (pasted l at bs) i 0) (sym e) ∙ sym (get_or-drop n (pasted l at bs) (k - n) 0)
      ∙ ap (λ (x : List ℕ). get_or x (k - n) 0) (pasted_above l bs at inside) ∙ get_or-drop n l (k - n) 0 ∙ ap (λ (i : ℕ). get_or l i 0) e

-- a part put back
pub part-back : (l ys : List ℕ) (a k : ℕ) → k ≡ length ys → put_mid a k l ys ≡ pasted l a ys
unfolding pasted
part-back l ys a k e =
    ap (λ (x : List ℕ). take a l ++ (ys ++ x)) (drop-drop k a l ∙ ap (λ (n : ℕ). drop (a + n) l) e) ∙ sym (append_assoc (take a l) ys (drop (a + length ys) l))

pub part_length : (l : List ℕ) (a k : ℕ) → a + k ≤ length l → length (take k (drop a l)) ≡ k
part_length l a k h = length-take-le k (drop a l) (omega (arith, length-drop a l))

-- a part by its bytes
pub same-part : (l m : List ℕ) (a k : ℕ) → a + k ≤ length l → a + k ≤ length m → ((i : ℕ) → i < k → get_or l (a + i) 0 ≡ get_or m (a + i) 0) → take k (drop a l) ≡ take k (drop a m)
same-part l m a k h g each =
    ext_get_or 0 (take k (drop a l)) (take k (drop a m)) (part_length l a k h ∙ sym (part_length m a k g))
    (λ i j. let n = part_length l a k h in
    get_or-take k (drop a l) i 0 (omega arith) ∙ get_or-drop a l i 0 ∙ each i (omega arith) ∙ sym (get_or-drop a m i 0) ∙ sym (get_or-take k (drop a m) i 0 (omega arith)))
