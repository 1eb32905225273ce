-- Refusals: what an accepted message has passed, what a message that is not torn has, and that a refusal is at most 14 and neither 9 nor 10.
use Rattle.std.specs.Prelude.{Result, Ok, Err}
use mathlib.Core.Path.{◌≡◌, refl, sym}
use mathlib.Core.Bool.{Bool, true, false, not, ◌&&◌, ◌||◌}
use mathlib.Core.Logic.{◌≢◌}
use mathlib.Core.List.{List}
use Prim.Native.Nat.{ℕ, ◌≤◌, ◌<◌}
use native.Mathlib.Omega.{arith}
use lib.Dec.{eqb, ltb}
use lib.ListN.{length}
use borrow.Author.Tests.{eqb-false, eqb-true, le-ltb, ltb-false, ne_eqb}
use Rattle.rules.specs.declared.Venue.{Venue}
use Rattle.rules.specs.declared.Message.{Message}
use Rattle.rules.specs.declared.Message.TheVariants.{Order, TwoLeg, Cancel, Away, Status, Sweep, Increment, Percent, LimitedSweep}
use Rattle.rules.specs.declared.Refusal.{Refusal}
use Rattle.rules.specs.declared.Refusal.TheVariants.{Torn, NoKind, WrongLength, OutOfRange, EqualRatios}
use Rattle.rules.specs.Words.{within, is_id, is_series, is_status, is_away, one_to_one}
use Rattle.rules.specs.Settings.{is_increment, is_percent, is_edition}
use Rattle.rules.specs.Bytes.{u8_at, length_field, kind_field}
use Rattle.rules.specs.Messages.{two_leg_at, message_of}
use Rattle.rules.specs.Refusals.{torn, is_kind, is_length, regular_in_range, two_leg_in_range, far_of, in_range, equal_ratios, decoded, complex_in_range, refusal_number}
use Rattle.rules.specs.Refusals.{off_increment, edition_too_low, in_use, no_edition_left, id_too_low, on_closed, full, unknown, refusal_of, refusal}
use Rattle.rules.proofs.Tests.{and_in, not-out, or-false-l, or-false-r}
use Rattle.rules.proofs.Cases.{if-by}

-- What a message that is taken brings: its fields in range, and of a complex order that it may rest.
unfoldable pub well_formed : Message → Bool
well_formed (Order o) = regular_in_range o
well_formed (TwoLeg c) = complex_in_range c
well_formed (Cancel id) = is_id id
well_formed (Away s bid offer) = is_series s && is_away bid && is_away offer
well_formed (Status s x) = is_series s && is_status x
well_formed Sweep = true
well_formed (Increment s i e) = is_series s && is_increment i && is_edition e
well_formed (Percent x e) = is_percent x && is_edition e
well_formed (LimitedSweep n) = within 1 32 n

-- ratios that differ are not one to one
uneven : (r s : ℕ) → eqb r s ≡ false → (eqb r 1 && eqb s 1) ≡ false
uneven r s e = go (eqb r 1) refl (eqb s 1) refl
  where
    go : (a : Bool) → eqb r 1 ≡ a → (b : Bool) → eqb s 1 ≡ b → (a && b) ≡ false
    go false x b y = refl
    go true x false y = refl
    go true x true y = let p = eqb-true r 1 x in let q = eqb-true s 1 y in absurd (eqb-false r s e (omega arith))

-- kind 2 brings an order that is one to one, and kind 10 one whose ratios differ
well-two : (k : ℕ) (bs : List ℕ) → eqb k 2 ≡ true → two_leg_in_range (far_of k) (two_leg_at bs 1 1) ≡ true → complex_in_range (two_leg_at bs 1 1) ≡ true
unfolding complex_in_range far_of one_to_one two_leg_at
well-two k bs e r = let x = eqb-true k 2 e in and_in _ true (rw (ne_eqb k 10 (λ y. omega arith)) at r) refl

well-ten : (k : ℕ) (bs : List ℕ) (r s : ℕ) → eqb k 10 ≡ true → eqb r s ≡ false → two_leg_in_range (far_of k) (two_leg_at bs r s) ≡ true → complex_in_range (two_leg_at bs r s) ≡ true
unfolding complex_in_range far_of one_to_one two_leg_at
well-ten k bs r s e n h = rw (uneven r s n, n) (and_in _ true (rw e at h) refl)

taken-well : (bs : List ℕ) → in_range (kind_field bs) (message_of bs) ≡ true → equal_ratios bs ≡ false → well_formed (message_of bs) ≡ true
unfolding message_of equal_ratios well_formed in_range
taken-well bs =
    let k = kind_field bs in
    if-by Q (eqb k 1) (λ _ r _. r) (λ _. if-by Q (eqb k 2) (λ e r _. well-two k bs e r) (λ _. if-by Q (eqb k 3) (λ _ r _. r) (λ _. if-by Q (eqb k 4) (λ _ r _. r)
    (λ _. if-by Q (eqb k 5) (λ _ r _. r) (λ _. if-by Q (eqb k 6) (λ _ r _. r) (λ _. if-by Q (eqb k 7) (λ _ r _. r) (λ _. if-by Q (eqb k 8) (λ _ r _. r)
    (λ _. if-by Q (eqb k 9) (λ _ r _. r) (λ _. if-by Q (eqb k 10) (λ e r n. well-ten k bs (u8_at bs 21) (u8_at bs 22) e (rw e at n) r) (λ _ r _. r))))))))))
  where
    Q : Message → Type 0
    Q m = in_range (kind_field bs) m ≡ true → (eqb (kind_field bs) 10 && eqb (u8_at bs 21) (u8_at bs 22)) ≡ false → well_formed m ≡ true

-- the refusals 1 to 4, and 14, by their cases
module _ {ℓ} (Q : Result Message Refusal → Type ℓ) (bs : List ℕ) where
  pub decoded-by : (torn bs ≡ true → Q (Err Torn)) →
      (torn bs ≡ false → is_kind (kind_field bs) ≡ false → Q (Err NoKind)) →
      (torn bs ≡ false → is_length (kind_field bs) (length_field bs) ≡ false → Q (Err WrongLength)) →
      (torn bs ≡ false → in_range (kind_field bs) (message_of bs) ≡ false → Q (Err OutOfRange)) →
      (torn bs ≡ false → equal_ratios bs ≡ true → Q (Err EqualRatios)) →
      (torn bs ≡ false → is_length (kind_field bs) (length_field bs) ≡ true → well_formed (message_of bs) ≡ true → Q (Ok (message_of bs))) →
      Q (decoded bs)
  unfolding decoded
  decoded-by r1 r2 r3 r4 r14 taken =
      if-by Q (torn bs) r1 (λ a. if-by Q (not (is_kind (kind_field bs))) (λ b. r2 a (not-out _ b))
      (λ _. if-by Q (not (is_length (kind_field bs) (length_field bs))) (λ c. r3 a (not-out _ c))
      (λ c. if-by Q (not (in_range (kind_field bs) (message_of bs))) (λ d. r4 a (not-out _ d))
      (λ d. if-by Q (equal_ratios bs) (r14 a) (λ e. taken a (was _ c) (taken-well bs (was _ d) e))))))
    where
      was : (b : Bool) → not b ≡ false → b ≡ true
      was true e = refl
      was false e = sym e

-- the refusals of the venue: 4, 11 to 13 and 5 to 8
module _ {ℓ} (Q : ℕ → Type ℓ) (v : Venue) (m : Message) where
  pub refusal_of-by : Q 4 → Q 11 → Q 12 → Q 13 → Q 5 → Q 6 → Q 7 → Q 8 →
      (off_increment v m ≡ false → edition_too_low v m ≡ false → in_use v m ≡ false → no_edition_left v m ≡ false →
      id_too_low v m ≡ false → on_closed v m ≡ false → full v m ≡ false → unknown v m ≡ false → Q 0) →
      Q (refusal_of v m)
  unfolding refusal_of
  refusal_of-by r4 r11 r12 r13 r5 r6 r7 r8 none =
      if-by Q (off_increment v m) (λ _. r4) (λ w. if-by Q (edition_too_low v m) (λ _. r11) (λ x. if-by Q (in_use v m) (λ _. r12) (λ y. if-by Q (no_edition_left v m) (λ _. r13)
      (λ z. if-by Q (id_too_low v m) (λ _. r5)
      (λ a. if-by Q (on_closed v m) (λ _. r6) (λ b. if-by Q (full v m) (λ _. r7) (λ c. if-by Q (unknown v m) (λ _. r8) (none w x y z a b c))))))))

-- what an accepted message has passed
pub record Passed (v : Venue) (m : Message) : Type 0 where
  pub range : well_formed m ≡ true
  pub stepped : off_increment v m ≡ false
  pub rising : edition_too_low v m ≡ false
  pub unused : in_use v m ≡ false
  pub place : no_edition_left v m ≡ false
  pub fresh-id : id_too_low v m ≡ false
  pub series-open : on_closed v m ≡ false
  pub room : full v m ≡ false
  pub known : unknown v m ≡ false

-- the refusal of what was decoded
abbrev of : Venue → Result Message Refusal → ℕ
of v x = elim x [ Ok m ↦ refusal_of v m | Err r ↦ refusal_number r ]

pub accepted : (v : Venue) (bs : List ℕ) → refusal v bs ≡ 0 → Passed v (message_of bs)
unfolding refusal
accepted v bs =
    decoded-by (λ x. of v x ≡ 0 → Passed v (message_of bs)) bs
    (λ _ h. absurd (omega arith)) (λ _ _ h. absurd (omega arith)) (λ _ _ h. absurd (omega arith)) (λ _ _ h. absurd (omega arith)) (λ _ _ h. absurd (omega arith))
    (λ _ _ r. refusal_of-by (λ x. x ≡ 0 → Passed v (message_of bs)) v (message_of bs)
    (λ h. absurd (omega arith)) (λ h. absurd (omega arith)) (λ h. absurd (omega arith)) (λ h. absurd (omega arith))
    (λ h. absurd (omega arith)) (λ h. absurd (omega arith)) (λ h. absurd (omega arith)) (λ h. absurd (omega arith))
    (λ w x y z a b c d _. record { range = r; stepped = w; rising = x; unused = y; place = z; fresh-id = a; series-open = b; room = c; known = d }))

pub accepted-length : (v : Venue) (bs : List ℕ) → refusal v bs ≡ 0 → is_length (kind_field bs) (length_field bs) ≡ true
unfolding refusal
accepted-length v bs =
    decoded-by (λ x. of v x ≡ 0 → is_length (kind_field bs) (length_field bs) ≡ true) bs
    (λ _ h. absurd (omega arith)) (λ _ _ h. absurd (omega arith)) (λ _ _ h. absurd (omega arith)) (λ _ _ h. absurd (omega arith)) (λ _ _ h. absurd (omega arith)) (λ _ l _ _. l)

pub refusal-small : (v : Venue) (bs : List ℕ) → refusal v bs ≤ 14
unfolding refusal
refusal-small v bs =
    decoded-by (λ x. of v x ≤ 14) bs (λ _. omega arith) (λ _ _. omega arith) (λ _ _. omega arith) (λ _ _. omega arith) (λ _ _. omega arith)
    (λ _ _ _. refusal_of-by (λ x. x ≤ 14) v (message_of bs) (omega arith) (omega arith) (omega arith) (omega arith) (omega arith) (omega arith) (omega arith) (omega arith)
    (λ _ _ _ _ _ _ _ _. omega arith))

-- and is none of 9 and 10, which are a call's
pub refusal-own : (v : Venue) (bs : List ℕ) (k : ℕ) → 8 < k → k < 11 → refusal v bs ≢ k
unfolding refusal
refusal-own v bs k low high =
    decoded-by (λ x. of v x ≢ k) bs (λ _ e. omega arith) (λ _ _ e. omega arith) (λ _ _ e. omega arith) (λ _ _ e. omega arith) (λ _ _ e. omega arith)
    (λ _ _ _. refusal_of-by (λ x. x ≢ k) v (message_of bs) (λ e. omega arith) (λ e. omega arith) (λ e. omega arith) (λ e. omega arith)
    (λ e. omega arith) (λ e. omega arith) (λ e. omega arith) (λ e. omega arith)
    (λ _ _ _ _ _ _ _ _ e. omega arith))

-- a message that is not torn has its length
pub not-torn : (v : Venue) (bs : List ℕ) → eqb (refusal v bs) 1 ≡ false → torn bs ≡ false
unfolding refusal
not-torn v bs =
    decoded-by (λ x. eqb (of v x) 1 ≡ false → torn bs ≡ false) bs
    (λ _ h. absurd (eqb-false 1 1 h refl)) (λ a _ _. a) (λ a _ _. a) (λ a _ _. a) (λ a _ _. a) (λ a _ _ _. a)

pub whole : (bs : List ℕ) → torn bs ≡ false → (4 ≤ length_field bs) × (length_field bs ≤ length bs)
unfolding torn
whole bs h =
    let x = or-false-l (ltb (length bs) 4 || ltb (length_field bs) 4) (ltb (length bs) (length_field bs)) h in (
      ltb-false (length_field bs) 4 (or-false-r (ltb (length bs) 4) _ x),
      ltb-false (length bs) (length_field bs) (or-false-r (ltb (length bs) 4 || ltb (length_field bs) 4) (ltb (length bs) (length_field bs)) h),
    )

pub whole_in : (bs : List ℕ) → (4 ≤ length_field bs) × (length_field bs ≤ length bs) → torn bs ≡ false
unfolding torn
whole_in bs h =
    let a = h.0 in
    let b = h.1 in
    rw (le-ltb (length bs) 4 (omega arith), le-ltb (length_field bs) 4 a, le-ltb (length bs) (length_field bs) b)
