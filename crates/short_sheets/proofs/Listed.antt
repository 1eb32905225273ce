-- The messages of the list: where each stands in its bytes, and that it is whole.
use mathlib.Core.Path.{◌≡◌, refl, ap, ap₂, ◌∙◌, subst}
use mathlib.Core.Bool.{Bool, ◌&&◌, true, false}
use mathlib.Core.List.{List, [], ◌∷◌, ◌++◌}
use Prim.Native.Nat.{ℕ, zero, suc, ◌+◌, ◌-◌, ◌*◌, ◌≤◌, ◌<◌}
use native.Mathlib.Omega.{arith}
use lib.Dec.{eqb, leb}
use lib.ListN.{get_or, length, take, drop, get_or-append}
use borrow.Author.Tests.{eqb-true, eqb-false, leb-true}
use Rattle.rules.specs.Bytes.{length_field, u16_at, u8_at}
use Rattle.rules.specs.Opened.{opened-rules}
use Rattle.rules.proofs.Tests.{and_l, and_r}
use Rattle.records.specs.Seen.{Seen, ◌plus◌}
use Rattle.text.specs.Lines.{decimal, digits}
use Rattle.short_sheets.specs.Short.{list, message_at, messages_of}

-- where each message starts, and the end
abbrev pub starts : List ℕ
starts = 0 ∷ 6 ∷ 12 ∷ 30 ∷ 48 ∷ 69 ∷ 87 ∷ 95 ∷ 99 ∷ 104 ∷ 117 ∷ 123 ∷ 129 ∷ []

abbrev pub bytes : List ℕ
bytes = messages_of (0 ∷ 1 ∷ 2 ∷ 3 ∷ 4 ∷ 5 ∷ 6 ∷ 7 ∷ 8 ∷ 9 ∷ 10 ∷ 11 ∷ [])

-- the message at p stands between two starts, its length field tells its length, and its place is printed in two digits at most
abbrev Stood : (p : ℕ) → Type 0
Stood p =
    let m = message_at p in
    let from = get_or starts p 0 in
    let end = get_or starts (p + 1) 0 in
    ((leb from end && leb end 129 && leb 4 (length m) && leb (length m) 21 && leb (length (decimal (suc p))) 2 && eqb (length_field m) (length m)) ≡ true) × (take (end - from) (drop from bytes) ≡ m)

-- a fact of each of `count` numbers from one on
abbrev Each : (P : ℕ → Type 0) (from count : ℕ) → Type 0
Each P from zero = Unit {0}
Each P from (suc count) = P from × Each P (suc from) count

each_at : (P : ℕ → Type 0) (from count p : ℕ) → Each P from count → from ≤ p → p < from + count → P p
each_at P from zero p x low high = absurd (omega arith)
each_at P from (suc count) p x low high = go (eqb from p) refl (λ h. each_at P (suc from) count p x.1 h (omega arith))
  where
    go : (b : Bool) → eqb from p ≡ b → (suc from ≤ p → P p) → P p
    go true e later = subst P (eqb-true from p e) x.0
    go false e later = let h = eqb-false from p e in later (omega arith)

stood : Each Stood 0 12
unfolding list message_at messages_of opened-rules decimal digits
stood = (
  (refl, refl),
  (
    (refl, refl),
    (
      (refl, refl),
      (
        (refl, refl),
        (
          (refl, refl),
          ((refl, refl), ((refl, refl), ((refl, refl), ((refl, refl), ((refl, refl), ((refl, refl), ((refl, refl), tt))))))),
        ),
      ),
    ),
  ),
)

pub record Listed (p : ℕ) : Type 0 where
  pub in_order : get_or starts p 0 ≤ get_or starts (p + 1) 0
  pub within : get_or starts (p + 1) 0 ≤ 129
  pub some_bytes : 4 ≤ length (message_at p)
  pub few_bytes : length (message_at p) ≤ 21
  pub two_digits : length (decimal (suc p)) ≤ 2
  pub tells : length_field (message_at p) ≡ length (message_at p)
  pub is : take (get_or starts (p + 1) 0 - get_or starts p 0) (drop (get_or starts p 0) bytes) ≡ message_at p

pub listed : (p : ℕ) → p < 12 → Listed p
listed p h =
    let x = each_at Stood 0 12 p stood (omega arith) (omega arith) in
    let m = message_at p in
    let t = leb (get_or starts p 0) (get_or starts (p + 1) 0) in
    let u = leb (get_or starts (p + 1) 0) 129 in
    let v = leb 4 (length m) in
    let w = leb (length m) 21 in
    let y = leb (length (decimal (suc p))) 2 in
    let d = and_l (t && u && v && w && y) _ x.0 in
    let a = and_l (t && u && v && w) y d in
    let b = and_l (t && u && v) w a in
    let c = and_l (t && u) v b in
    record {
      in_order = leb-true _ _ (and_l t u c);
      within = leb-true _ _ (and_r t u c);
      some_bytes = leb-true _ _ (and_r (t && u) v b);
      few_bytes = leb-true _ _ (and_r (t && u && v) w a);
      two_digits = leb-true _ _ (and_r (t && u && v && w) y d);
      tells = eqb-true _ _ (and_r (t && u && v && w && y) _ x.0);
      is = x.1;
    }

-- its length field tells its length whatever comes after it
pub tells_first : (p : ℕ) (rest : List ℕ) → Listed p → length_field (message_at p ++ rest) ≡ length (message_at p)
unfolding length_field u16_at u8_at
tells_first p rest l =
    let h = l.some_bytes in
    ap₂ (λ (x y : ℕ). x + 256 * y) (get_or-append (message_at p) rest 0 0 (omega arith)) (get_or-append (message_at p) rest 0 1 (omega arith)) ∙ l.tells

-- the part of the bytes between its start and the next one
pub message-is : (w x : Seen) (p : ℕ) → Listed p → x ≡ w plus take (get_or starts (p + 1) 0 - get_or starts p 0) (drop (get_or starts p 0) bytes) → x ≡ w plus message_at p
message-is w x p l e = e ∙ ap (λ (bs : List ℕ). w plus bs) l.is
