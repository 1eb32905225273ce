-- Laws of text typed into a lent slice, and of a number's digits.
use mathlib.Core.Path.{◌≡◌, refl, sym, ap, ap₂, ◌∙◌}
use mathlib.Core.Bool.{Bool, true, false, true≢false}
use mathlib.Core.List.{List, [], ◌∷◌, ◌++◌}
use Prim.Native.Nat.{ℕ, zero, suc, ◌+◌, ◌-◌, ◌/◌, ◌%◌, ◌≤◌, ◌<◌}
use native.Mathlib.Omega.{arith}
use native.Mathlib.Numerals.{add-one}
use lib.Dec.{eqb, leb, ltb}
use lib.ListN.{length, get_or, set, take, drop, drop_of_length-le}
use lib.Seq.{set_split, append_snoc, drop-cons}
use borrow.Author.Tests.{lt-ltb, le-ltb, leb-true, ltb-true, ltb-false, eqb-true, eqb-false, ne_eqb}
use Rattle.rules.specs.Words.{within}
use Rattle.rules.proofs.Ranges.{inside}
use Rattle.rules.proofs.Tests.{and_l, and_r}
use Rattle.rules.specs.Bytes.{as_signed}
use Rattle.rules.specs.Records.{cause_number, cause_of}
use Rattle.records.specs.Seen.{Seen, seen, pasted, ◌plus◌}
use Rattle.records.proofs.SeenLaws.{plus-in, plus-out, pasted-nil, pasted-pasted, pasted_length}
use Rattle.text.specs.Lines.{decimal, digits, signed_text, word, words}
use Rattle.text.specs.Typing.{◌types◌}

-- One byte ------------------------------------------------------------------------------------

pub types-in : (l : List ℕ) (at b : ℕ) → at < length l → seen (set l at b) (at + 1) ≡ seen l at types (b ∷ [])
unfolding ◌types◌ pasted
types-in l at b h =
    ap (λ (x : List ℕ). seen x (at + 1)) (set_split l at b h ∙ sym (append_snoc (take at l) b (drop (suc at) l)) ∙ ap (λ (k : ℕ). take at l ++ (b ∷ []) ++ drop k l) (sym (add-one at)))
    ∙ sym (plus-in l (b ∷ []) at (omega arith))

pub types-out : (l : List ℕ) (at b : ℕ) → length l ≤ at → seen l (length l + 1) ≡ seen l at types (b ∷ [])
unfolding ◌types◌
types-out l at b h = ap (seen l) (add-one (length l)) ∙ sym (plus-out l (b ∷ []) at (omega arith))

-- Text after text -----------------------------------------------------------------------------

pub types-append : (w : Seen) (a b : List ℕ) → w types (a ++ b) ≡ w types a types b
unfolding ◌types◌
types-append w [] b = refl
types-append w (x ∷ a) b = types-append (w plus (x ∷ [])) a b

-- x is what typing a leaves of w
pub record Typed (w : Seen) (a : List ℕ) (x : Seen) : Type 0 where
  pub is : x ≡ w types a

pub typed : (w x : Seen) (a : List ℕ) → x ≡ w types a → Typed w a x
typed w x a e = record { is = e }

-- the text under another name
pub typed-as : (w x : Seen) (a b : List ℕ) → x ≡ w types a → a ≡ b → x ≡ w types b
typed-as w x a b e q = e ∙ ap (λ (y : List ℕ). w types y) q

-- what two calls typed, one after the other
infixl 5 ◌then◌
pub ◌then◌ : {w x y : Seen} {a b : List ℕ} → Typed w a x → Typed x b y → Typed w (a ++ b) y
◌then◌ {w} {x} {y} {a} {b} p q = record { is = q.is ∙ ap (λ (z : Seen). z types b) p.is ∙ sym (types-append w a b) }

-- text that fits stands from the position on
pub types-fits : (l : List ℕ) (at : ℕ) (bs : List ℕ) → at + length bs ≤ length l → seen l at types bs ≡ seen (pasted l at bs) (at + length bs)
unfolding ◌types◌
types-fits l at [] h = let e : at ≡ at + 0 = omega arith in ap₂ seen (sym (pasted-nil l at)) e
types-fits l at (b ∷ bs) h =
    let k : at + 1 ≤ length l = omega arith in
    let p : length (pasted l at (b ∷ [])) ≡ length l = pasted_length l (b ∷ []) at k in
    let e : at + 1 + length bs ≡ at + suc (length bs) = omega arith in
    ap (λ (w : Seen). w types bs) (plus-in l (b ∷ []) at k)
    ∙ types-fits (pasted l at (b ∷ [])) (at + 1) bs (omega arith)
    ∙ ap₂ seen (pasted-pasted l (b ∷ []) bs at k) e

-- Digits --------------------------------------------------------------------------------------

pub decimal-small : (n : ℕ) → n < 10 → decimal n ≡ (48 + n) ∷ []
unfolding decimal digits
decimal-small zero h = refl
decimal-small (suc n) h = rw (lt-ltb (suc n) 10 h, digits)

-- as much fuel as the number is enough
fuels : (f g n : ℕ) → n ≤ f → n ≤ g → digits f n ≡ digits g n
unfolding digits
fuels zero zero n h k = refl
fuels zero (suc g) n h k = rw (lt-ltb n 10 (omega arith), digits)
fuels (suc f) zero n h k = rw (lt-ltb n 10 (omega arith), digits)
fuels (suc f) (suc g) n h k = go (ltb n 10) refl (λ i. fuels f g (n / 10) (omega arith) (omega arith))
  where
    go : (t : Bool) → ltb n 10 ≡ t → (10 ≤ n → digits f (n / 10) ≡ digits g (n / 10)) → digits (suc f) n ≡ digits (suc g) n
    go true e rest = rw (e, digits)
    go false e rest = rw (e, digits) (ap (λ (x : List ℕ). x ++ ((48 + n % 10) ∷ [])) (rest (ltb-false n 10 e)))

pub decimal-more : (n : ℕ) → 10 ≤ n → decimal n ≡ decimal (n / 10) ++ ((48 + n % 10) ∷ [])
unfolding decimal digits
decimal-more zero h = absurd (omega arith)
decimal-more (suc n) h = rw (le-ltb (suc n) 10 h, digits) (ap (λ (x : List ℕ). x ++ ((48 + suc n % 10) ∷ [])) (fuels n (suc n / 10) (suc n / 10) (omega arith) (omega arith)))

-- a signed_text number by its bits
pub signed-small : (x : ℕ) → x < 2147483648 → signed_text (as_signed x) ≡ decimal x
unfolding signed_text as_signed
signed-small x h = rw (lt-ltb x 2147483648 h)

pub signed-large : (x : ℕ) → 2147483648 ≤ x → signed_text (as_signed x) ≡ 45 ∷ decimal (4294967295 - x + 1)
unfolding signed_text as_signed
signed-large x h = rw (le-ltb x 2147483648 h, add-one)

-- Fields --------------------------------------------------------------------------------------

-- what is left to type, after one field more
pub words_more : (w x y : Seen) (fields : List ℕ) (i : ℕ) → i < length fields → x types words (drop i fields) ≡ w → y ≡ x types word (get_or fields i 0) →
    y types words (drop (i + 1) fields) ≡ w
unfolding words
words_more w x y fields i h e q =
    let f = get_or fields i 0 in
    rw add-one
    (ap (λ (z : Seen). z types words (drop (suc i) fields)) q
    ∙ sym (types-append x (word f) (words (drop (suc i) fields)))
    ∙ ap (λ (l : List ℕ). x types words l) (sym (drop-cons fields i 0 h))
    ∙ e)

-- and after the last
pub words-end : (w x : Seen) (fields : List ℕ) (i : ℕ) → length fields ≤ i → x types words (drop i fields) ≡ w → x ≡ w
unfolding words ◌types◌
words-end w x fields i h e = ap (λ (l : List ℕ). x types words l) (sym (drop_of_length-le fields {i = i} h)) ∙ e

-- A cause's number ----------------------------------------------------------------------------

pub cause-none : (n : ℕ) → n ≡ 0 → cause_number (cause_of n) ≡ 10
unfolding cause_of
cause-none n e = rw e

pub cause-large : (n : ℕ) → 8 < n → cause_number (cause_of n) ≡ 10
unfolding cause_of
cause-large n h =
    rw (
      ne_eqb n 1 (λ e. omega arith),
      ne_eqb n 2 (λ e. omega arith),
      ne_eqb n 3 (λ e. omega arith),
      ne_eqb n 4 (λ e. omega arith),
      ne_eqb n 5 (λ e. omega arith),
      ne_eqb n 6 (λ e. omega arith),
      ne_eqb n 7 (λ e. omega arith),
      ne_eqb n 8 (λ e. omega arith),
    )

pub cause-same : (n : ℕ) → 0 < n → n ≤ 8 → cause_number (cause_of n) ≡ n
unfolding cause_of
cause-same zero h k = absurd (omega arith)
cause-same (suc zero) h k = refl
cause-same (suc (suc zero)) h k = refl
cause-same (suc (suc (suc zero))) h k = refl
cause-same (suc (suc (suc (suc zero)))) h k = refl
cause-same (suc (suc (suc (suc (suc zero))))) h k = refl
cause-same (suc (suc (suc (suc (suc (suc zero)))))) h k = refl
cause-same (suc (suc (suc (suc (suc (suc (suc zero))))))) h k = refl
cause-same (suc (suc (suc (suc (suc (suc (suc (suc n)))))))) h k = let e : n ≡ 0 = omega arith in rw e

-- the number is a cause's, or it is none
pub cause-in : (n : ℕ) → within 1 8 n ≡ true → cause_number (cause_of n) ≡ n
unfolding within
cause-in n e = cause-same n (leb-true 1 n (and_l _ _ e)) (leb-true n 8 (and_r (leb 1 n) _ e))

pub cause-out : (n : ℕ) → within 1 8 n ≡ false → cause_number (cause_of n) ≡ 10
cause-out n e = go (ltb 8 n) refl (eqb n 0) refl
  where
    go : (s : Bool) → ltb 8 n ≡ s → (t : Bool) → eqb n 0 ≡ t → cause_number (cause_of n) ≡ 10
    go true f t g = cause-large n (ltb-true 8 n f)
    go false f true g = cause-none n (eqb-true n 0 g)
    go false f false g =
        let a = ltb-false 8 n f in
        let b = eqb-false n 0 g in
        absurd (true≢false (sym (inside 1 8 n (omega (arith, b)) a) ∙ e))
