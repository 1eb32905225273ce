-- The message in front: what comes after a message that is not torn is not read.
use Rattle.std.specs.Prelude.{if◌then◌else◌, Result, Ok, Err}
use mathlib.Core.Path.{◌≡◌, refl, sym, ap, ◌∙◌}
use mathlib.Core.Bool.{Bool, true, false, not, ◌&&◌}
use mathlib.Core.List.{List, ◌++◌}
use Prim.Native.Nat.{ℕ, suc, ◌+◌, ◌≤◌, ◌<◌}
use native.Mathlib.Omega.{arith}
use lib.Dec.{eqb}
use lib.Seq.{length-take-le}
use lib.ListN.{length, take, drop, length-append, get_or-append, take-append-drop}
use borrow.Author.Tests.{eqb-true}
use Rattle.rules.specs.declared.Venue.{Venue}
use Rattle.rules.specs.declared.Message.{Message}
use Rattle.rules.specs.declared.Message.TheVariants.{Order, TwoLeg, Cancel, Away, Status, Sweep, Increment, Percent, LimitedSweep}
use Rattle.rules.specs.declared.Refusal.{Refusal}
use Rattle.rules.specs.declared.Refusal.TheVariants.{NoKind, WrongLength, OutOfRange, EqualRatios}
use Rattle.rules.specs.Bytes.{u8_at, u16_at, u32_at, length_field, kind_field}
use Rattle.rules.specs.Messages.{length_of, order_at, two_leg_at, message_of}
use Rattle.rules.specs.Effects.{nothing}
use Rattle.rules.specs.Refusals.{torn, is_kind, is_length, in_range, equal_ratios, decoded, refusal_of, refusal, refusal_number}
use Rattle.rules.specs.Step.{accept, answered, step}
use Rattle.rules.specs.Calls.{one_from, one}
use Rattle.rules.proofs.RefusalsLaws.{accepted-length, whole, whole_in}

-- a whole message: its length field says at least 4 bytes, and they are there
abbrev Whole : List ℕ → Type 0
Whole m = (4 ≤ length_field m) × (length_field m ≤ length m)

-- bytes that are there stay what they are where others follow
module _ (m rest : List ℕ) where
  u8-same : (i : ℕ) → i < length m → u8_at (m ++ rest) i ≡ u8_at m i
  unfolding u8_at
  u8-same i h = get_or-append m rest 0 i h

  u16-same : (i : ℕ) → i + 1 < length m → u16_at (m ++ rest) i ≡ u16_at m i
  unfolding u16_at
  u16-same i h = rw (u8-same i (omega arith), u8-same (i + 1) h)

  u32-same : (i : ℕ) → i + 3 < length m → u32_at (m ++ rest) i ≡ u32_at m i
  unfolding u32_at
  u32-same i h = rw (u16-same i (omega arith), u16-same (i + 2) (omega arith))

  order_same : (x : ℕ) → 18 ≤ length m → order_at x (m ++ rest) ≡ order_at x m
  unfolding order_at
  order_same x h = rw (u32-same 4 (omega arith), u8-same 8 (omega arith), u8-same 9 (omega arith), u32-same 10 (omega arith), u32-same 14 (omega arith))

  complex-same : (r s : ℕ) → 21 ≤ length m → two_leg_at (m ++ rest) r s ≡ two_leg_at m r s
  unfolding two_leg_at
  complex-same r s h =
      rw (
        u32-same 4 (omega arith),
        u8-same 8 (omega arith),
        u8-same 9 (omega arith),
        u8-same 10 (omega arith),
        u8-same 11 (omega arith),
        u8-same 12 (omega arith),
        u32-same 13 (omega arith),
        u32-same 17 (omega arith),
      )

  pub length-same : 2 ≤ length m → length_field (m ++ rest) ≡ length_field m
  unfolding length_field
  length-same h = u16-same 0 (omega arith)

  kind-same : 4 ≤ length m → kind_field (m ++ rest) ≡ kind_field m
  unfolding kind_field
  kind-same h = u16-same 2 (omega arith)

  message-same : 4 ≤ length m → (4 ≤ length_of (kind_field m)) × (length_of (kind_field m) ≤ length m) → message_of (m ++ rest) ≡ message_of m
  unfolding message_of length_of
  message-same h le = rw (kind-same h) (go (eqb k 1) (eqb k 2) (eqb k 3) (eqb k 4) (eqb k 5) (eqb k 6) (eqb k 7) (eqb k 8) (eqb k 9) (eqb k 10) (eqb k 11) le)
    where
      k : ℕ
      k = kind_field m

      go : (a b c d e f g h i j x : Bool) →
          (let n : ℕ = if a then 18 else if b then 21 else if c then 8 else if d then 13 else if e then 6 else if f then 4 else if g then 10 else if h then 9
          else if i then 22 else if j then 23 else if x then 5 else 0 in
          (4 ≤ n) × (n ≤ length m)) →
          ◌≡◌ {A = Message}
          (if a then Order (order_at (u32_at (m ++ rest) 14) (m ++ rest)) else if b then TwoLeg (two_leg_at (m ++ rest) 1 1) else if c then Cancel (u32_at (m ++ rest) 4)
          else if d then Away (u8_at (m ++ rest) 4) (u32_at (m ++ rest) 5) (u32_at (m ++ rest) 9)
          else if e then Status (u8_at (m ++ rest) 4) (u8_at (m ++ rest) 5) else if f then Sweep
          else if g then Increment (u8_at (m ++ rest) 4) (u8_at (m ++ rest) 5) (u32_at (m ++ rest) 6)
          else if h then Percent (u8_at (m ++ rest) 4) (u32_at (m ++ rest) 5)
          else if i then Order (order_at (u32_at (m ++ rest) 18) (m ++ rest))
          else if j then TwoLeg (two_leg_at (m ++ rest) (u8_at (m ++ rest) 21) (u8_at (m ++ rest) 22))
          else LimitedSweep (u8_at (m ++ rest) 4))
          (if a then Order (order_at (u32_at m 14) m) else if b then TwoLeg (two_leg_at m 1 1) else if c then Cancel (u32_at m 4)
          else if d then Away (u8_at m 4) (u32_at m 5) (u32_at m 9)
          else if e then Status (u8_at m 4) (u8_at m 5) else if f then Sweep
          else if g then Increment (u8_at m 4) (u8_at m 5) (u32_at m 6) else if h then Percent (u8_at m 4) (u32_at m 5)
          else if i then Order (order_at (u32_at m 18) m) else if j then TwoLeg (two_leg_at m (u8_at m 21) (u8_at m 22)) else LimitedSweep (u8_at m 4))
      go true b c d e f g h i j x le = let q = le.1 in rw (u32-same 14 (omega arith), order_same (u32_at m 14) q)
      go false true c d e f g h i j x le = rw (complex-same 1 1 le.1)
      go false false true d e f g h i j x le = let q = le.1 in rw (u32-same 4 (omega arith))
      go false false false true e f g h i j x le = let q = le.1 in rw (u8-same 4 (omega arith), u32-same 5 (omega arith), u32-same 9 (omega arith))
      go false false false false true f g h i j x le = let q = le.1 in rw (u8-same 4 (omega arith), u8-same 5 (omega arith))
      go false false false false false true g h i j x le = refl
      go false false false false false false true h i j x le = let q = le.1 in rw (u8-same 4 (omega arith), u8-same 5 (omega arith), u32-same 6 (omega arith))
      go false false false false false false false true i j x le = let q = le.1 in rw (u8-same 4 (omega arith), u32-same 5 (omega arith))
      go false false false false false false false false true j x le = let q = le.1 in rw (u32-same 18 (omega arith), order_same (u32_at m 18) (omega arith))
      go false false false false false false false false false true x le = let q = le.1 in rw (complex-same _ _ (omega arith), u8-same 21 (omega arith), u8-same 22 (omega arith))
      go false false false false false false false false false false true le = let q = le.1 in rw (u8-same 4 (omega arith))
      go false false false false false false false false false false false le = let q = le.0 in absurd (omega arith)

  module _ (w : Whole m) where
    four : 4 ≤ length m
    four = let a = w.0 in let b = w.1 in omega arith

    still-whole : Whole (m ++ rest)
    still-whole = (
      rw (length-same (omega (arith, four))) w.0,
      rw (length-same (omega (arith, four)), length-append m rest) (let b = w.1 in omega arith),
    )

    fits-kind : is_length (kind_field m) (length_field m) ≡ true → message_of (m ++ rest) ≡ message_of m
    unfolding is_length
    fits-kind e =
        let l = eqb-true (length_field m) (length_of (kind_field m)) e in
        let b = w.1 in
        let a = w.0 in
        message-same four (omega arith, omega arith)

    ratios-same : is_length (kind_field m) (length_field m) ≡ true → equal_ratios (m ++ rest) ≡ equal_ratios m
    unfolding equal_ratios is_length
    ratios-same e = rw (kind-same four) (go (eqb (kind_field m) 10) refl)
      where
        go : (b : Bool) → eqb (kind_field m) 10 ≡ b → (b && eqb (u8_at (m ++ rest) 21) (u8_at (m ++ rest) 22)) ≡ (b && eqb (u8_at m 21) (u8_at m 22))
        go true x =
            let l = eqb-true (length_field m) (length_of (kind_field m)) e in
            let y : length_of (kind_field m) ≡ 23 = rw (eqb-true (kind_field m) 10 x) (unfold length_of in refl) in
            let b = w.1 in
            rw (u8-same 21 (omega arith), u8-same 22 (omega arith))
        go false x = refl

    decoded-same : decoded (m ++ rest) ≡ decoded m
    unfolding decoded
    decoded-same =
        rw (whole_in (m ++ rest) still-whole, whole_in m w, kind-same four, length-same (omega (arith, four)))
        (go (is_length (kind_field m) (length_field m)) refl)
      where
        go : (b : Bool) → is_length (kind_field m) (length_field m) ≡ b →
            ◌≡◌ {A = Result Message Refusal}
            (if not (is_kind (kind_field m)) then Err NoKind else if not b then Err WrongLength
            else if not (in_range (kind_field m) (message_of (m ++ rest))) then Err OutOfRange else if equal_ratios (m ++ rest) then Err EqualRatios else Ok (message_of (m ++ rest)))
            (if not (is_kind (kind_field m)) then Err NoKind else if not b then Err WrongLength
            else if not (in_range (kind_field m) (message_of m)) then Err OutOfRange else if equal_ratios m then Err EqualRatios else Ok (message_of m))
        go true e = rw (fits-kind e, ratios-same e)
        go false e = refl

    refusal-same : (v : Venue) → refusal v (m ++ rest) ≡ refusal v m
    unfolding refusal
    refusal-same v = ap (λ (d : Result Message Refusal). elim d as (λ _. ℕ) [ Ok x ↦ refusal_of v x | Err r ↦ refusal_number r ]) decoded-same

    pub step_same : (v : Venue) (number : ℕ) → step v number (m ++ rest) ≡ step v number m
    unfolding step
    step_same v number = rw (refusal-same v) (go (eqb (refusal v m) 0) refl)
      where
        go : (b : Bool) → eqb (refusal v m) 0 ≡ b →
            answered number (refusal v m) (if b then accept number (message_of (m ++ rest)) v else nothing v) ≡ answered number (refusal v m) (if b then accept number (message_of m) v else nothing v)
        go true e = rw (fits-kind (accepted-length v m (eqb-true (refusal v m) 0 e)))
        go false e = refl

-- so the message in front alone does the same
pub length_front : (bs : List ℕ) (n : ℕ) → 2 ≤ n → n ≤ length bs → length_field (take n bs) ≡ length_field bs
length_front bs n a b =
    let l = length-take-le n bs b in
    sym (length-same (take n bs) (drop n bs) (omega arith)) ∙ ap length_field (take-append-drop n bs)

front-whole : (bs : List ℕ) → Whole bs → Whole (take (length_field bs) bs)
front-whole bs w =
    let a = w.0 in
    let b = w.1 in
    let l : length (take (length_field bs) bs) ≡ length_field bs = length-take-le (length_field bs) bs b in
    let f = length_front bs (length_field bs) (omega arith) b in
    (omega arith, omega arith)

pub front-step : (v : Venue) (number : ℕ) (bs : List ℕ) → Whole bs → step v number bs ≡ step v number (take (length_field bs) bs)
front-step v number bs w =
    ap (step v number) (sym (take-append-drop (length_field bs) bs))
    ∙ step_same (take (length_field bs) bs) (drop (length_field bs) bs) (front-whole bs w) v number

-- "The second reads one message and nothing after it"
pub reads-one : (v : Venue) (before room : ℕ) (bs : List ℕ) → torn bs ≡ false → one v before room bs ≡ one v before room (take (length_field bs) bs)
unfolding one one_from
reads-one v before room bs h = rw (front-step v (suc before) bs (whole bs h))
