-- Closing gaps: where each order comes from, and that no best price, size, find by id or sum changes, hence no verdict.
use Rattle.std.specs.Prelude.{if◌then◌else◌}
use mathlib.Core.Path.{◌≡◌, refl, sym, ap, ◌∙◌}
use mathlib.Core.Bool.{Bool, true, false, ◌&&◌, true≢false}
use mathlib.Core.List.{List, [], ◌∷◌, ◌++◌}
use Prim.Native.Nat.{ℕ, zero, suc, ◌+◌, ◌-◌, ◌≤◌, ◌<◌}
use native.Mathlib.Omega.{arith}
use lib.Dec.{eqb}
use lib.IntN.{ℤ}
use native.Mathlib.Decide.{dec_lt}
use lib.ListN.{length, get_or, replicate, length-append, length-replicate, get_or-eq_default}
use Rattle.rules.specs.declared.Regular.{Regular}
use Rattle.rules.specs.declared.Complex.{Complex}
use Rattle.rules.specs.declared.Legging.{Legging}
use Rattle.rules.specs.declared.Venue.{Venue}
use Rattle.rules.specs.Base.{held, keep}
use Rattle.rules.specs.Words.{no_regular, no_complex, with_regular, with_complex, legging_at, status_of, is_complex_of}
use Rattle.rules.specs.Settings.{figure_now, increment, percent}
use Rattle.rules.specs.Prices.{better_of, shown_size, shows_at, best_in, size_in, best_regular, best_size, clear_price, away, market_best, taken1, taken2, in_band, shows_for}
use Rattle.rules.specs.Standing.{find_complex, parent_of, both_open, displayed_no_worse, pairs, verdict_of, verdict, other_clear, other_size}
use Rattle.rules.specs.Places.{holds_regular, holds_complex, packed, close_gaps}
use Rattle.rules.proofs.Tests.{free-none}

-- Places --------------------------------------------------------------------------------------

module _ {A : Type 0} (holds : A → Bool) (none : A) where
  -- the place in l of the i-th held one
  unfoldable pub from : List A → ℕ → ℕ
  from [] i = i
  from (x ∷ l) zero = if holds x then 0 else suc (from l 0)
  from (x ∷ l) (suc i) = if holds x then suc (from l i) else suc (from l (suc i))

  pub from_at : (l : List A) (i : ℕ) → get_or (keep holds l) i none ≡ get_or l (from l i) none
  unfolding keep from
  from_at [] i = refl
  from_at (x ∷ l) zero = go (holds x) (from_at l 0)
    where
      go : (b : Bool) → get_or (keep holds l) 0 none ≡ get_or l (from l 0) none →
          get_or (if b then x ∷ keep holds l else keep holds l) 0 none ≡ get_or (x ∷ l) (if b then 0 else suc (from l 0)) none
      go true h = refl
      go false h = h
  from_at (x ∷ l) (suc i) = go (holds x) (from_at l i) (from_at l (suc i))
    where
      go : (b : Bool) → get_or (keep holds l) i none ≡ get_or l (from l i) none → get_or (keep holds l) (suc i) none ≡ get_or l (from l (suc i)) none →
          get_or (if b then x ∷ keep holds l else keep holds l) (suc i) none ≡ get_or (x ∷ l) (if b then suc (from l i) else suc (from l (suc i))) none
      go true h k = h
      go false h k = k

  pub from-rises : (l : List A) (i j : ℕ) → i < j → from l i < from l j
  unfolding from
  from-rises [] i j h = h
  from-rises (x ∷ l) i zero h = absurd (omega arith)
  from-rises (x ∷ l) zero (suc j) h = go (holds x) (from-rises l 0 (suc j) h)
    where
      go : (b : Bool) → from l 0 < from l (suc j) → (if b then 0 else suc (from l 0)) < (if b then suc (from l j) else suc (from l (suc j)))
      go true k = omega arith
      go false k = omega arith
  from-rises (x ∷ l) (suc i) (suc j) h = go (holds x) (from-rises l i j (omega arith)) (from-rises l (suc i) (suc j) h)
    where
      go : (b : Bool) → from l i < from l j → from l (suc i) < from l (suc j) →
          (if b then suc (from l i) else suc (from l (suc i))) < (if b then suc (from l j) else suc (from l (suc j)))
      go true k m = omega arith
      go false k m = omega arith

  -- where the held one at place j of l goes
  unfoldable pub to : List A → ℕ → ℕ
  to [] j = j
  to (x ∷ l) zero = 0
  to (x ∷ l) (suc j) = if holds x then suc (to l j) else to l j

  pub to_at : (l : List A) (j : ℕ) → holds (get_or l j none) ≡ true → get_or (keep holds l) (to l j) none ≡ get_or l j none
  unfolding keep to
  to_at [] j h = refl
  to_at (x ∷ l) zero h = rw h
  to_at (x ∷ l) (suc j) h = go (holds x) (to_at l j h)
    where
      go : (b : Bool) → get_or (keep holds l) (to l j) none ≡ get_or l j none →
          get_or (if b then x ∷ keep holds l else keep holds l) (if b then suc (to l j) else to l j) none ≡ get_or l j none
      go true h = h
      go false h = h

  pub length-keep : (l : List A) → length (keep holds l) ≤ length l
  unfolding keep
  length-keep [] = omega arith
  length-keep (x ∷ l) = go (holds x) (length-keep l)
    where
      go : (b : Bool) → length (keep holds l) ≤ length l → length (if b then x ∷ keep holds l else keep holds l) ≤ suc (length l)
      go true h = omega arith
      go false h = omega arith

  -- what stands at a place is what the i-th held one was, or nothing
  free-after : (k : List A) (m i : ℕ) → get_or (k ++ replicate m none) i none ≡ get_or k i none
  free-after [] zero i = refl
  free-after [] (suc m) zero = refl
  free-after [] (suc m) (suc i) = free-after [] m i
  free-after (x ∷ k) m zero = refl
  free-after (x ∷ k) m (suc i) = free-after k m i

  pub packed-at : (l : List A) (i : ℕ) → get_or (packed holds none l) i none ≡ get_or l (from l i) none
  unfolding packed
  packed-at l i = free-after (keep holds l) (length l - length (keep holds l)) i ∙ from_at l i

  pub packed-to : (l : List A) (j : ℕ) → holds (get_or l j none) ≡ true → get_or (packed holds none l) (to l j) none ≡ get_or l j none
  unfolding packed
  packed-to l j h = free-after (keep holds l) (length l - length (keep holds l)) (to l j) ∙ to_at l j h

  pub length-packed : (l : List A) → length (packed holds none l) ≡ length l
  unfolding packed
  length-packed l = simp (length-append, length-replicate) (let h = length-keep l in omega arith)

  -- no gap: a place before a held one is held
  keep-holds : (l : List A) (i : ℕ) → i < length (keep holds l) → holds (get_or (keep holds l) i none) ≡ true
  unfolding keep
  keep-holds [] i h = absurd (omega arith)
  keep-holds (x ∷ l) i h = go (holds x) refl (λ j. keep-holds l j) i h
    where
      go : (b : Bool) → holds x ≡ b → ((j : ℕ) → j < length (keep holds l) → holds (get_or (keep holds l) j none) ≡ true) →
          (i : ℕ) → i < length (if b then x ∷ keep holds l else keep holds l) →
          holds (get_or (if b then x ∷ keep holds l else keep holds l) i none) ≡ true
      go true e ih zero h = e
      go true e ih (suc i) h = ih i (omega arith)
      go false e ih i h = ih i h

  pub packed-dense : holds none ≡ false → (l : List A) (i j : ℕ) → i < j → holds (get_or (packed holds none l) j none) ≡ true →
      holds (get_or (packed holds none l) i none) ≡ true
  unfolding packed
  packed-dense free l i j lt h =
      let m = length l - length (keep holds l) in
      let h' = rw (free-after (keep holds l) m j) at h in
      rw (free-after (keep holds l) m i) (keep-holds l i (go (dec_lt j (length (keep holds l))) h'))
    where
      go : Dec (j < length (keep holds l)) → holds (get_or (keep holds l) j none) ≡ true → i < length (keep holds l)
      go (yes q) t = omega arith
      go (no q) t = absurd (true≢false (sym t ∙ ap holds (get_or-eq_default (keep holds l) none (omega arith)) ∙ free))

  -- and a free place is all zero
  pub packed-free : (l : List A) (i : ℕ) → holds (get_or (packed holds none l) i none) ≡ false → get_or (packed holds none l) i none ≡ none
  unfolding packed
  packed-free l i h =
      let m = length l - length (keep holds l) in
      free-after (keep holds l) m i ∙ go (dec_lt i (length (keep holds l))) (rw (free-after (keep holds l) m i) at h)
    where
      go : Dec (i < length (keep holds l)) → holds (get_or (keep holds l) i none) ≡ false → get_or (keep holds l) i none ≡ none
      go (yes q) t = absurd (true≢false (sym (keep-holds l i q) ∙ t))
      go (no q) t = get_or-eq_default (keep holds l) none (omega arith)

  -- where there is no gap and free places are all zero, closing gaps changes nothing
  all_none : (l : List A) → ((i : ℕ) → get_or l i none ≡ none) → l ≡ replicate (length l) none
  all_none [] h = refl
  all_none (x ∷ l) h = rw (h 0, ← all_none l (λ i. h (suc i)))

  keep-none : holds none ≡ false → (l : List A) → ((i : ℕ) → get_or l i none ≡ none) → keep holds l ≡ []
  unfolding keep
  keep-none free [] h = refl
  keep-none free (x ∷ l) h = rw (h 0, free) (keep-none free l (λ i. h (suc i)))

  pub packed-id : holds none ≡ false → (l : List A) →
      ((i j : ℕ) → i < j → holds (get_or l j none) ≡ true → holds (get_or l i none) ≡ true) →
      ((i : ℕ) → holds (get_or l i none) ≡ false → get_or l i none ≡ none) → packed holds none l ≡ l
  unfolding packed keep
  packed-id free [] d z = refl
  packed-id free (x ∷ l) d z = go (holds x) refl (packed-id free l (λ i j q. d (suc i) (suc j) (omega arith)) (λ i. z (suc i)))
    where
      none_after : holds x ≡ false → (i : ℕ) → get_or l i none ≡ none
      none_after e i = case (holds (get_or l i none)) refl
        where
          case : (b : Bool) → holds (get_or l i none) ≡ b → get_or l i none ≡ none
          case true t = absurd (true≢false (sym (d 0 (suc i) (omega arith) t) ∙ e))
          case false t = z (suc i) t

      go : (b : Bool) → holds x ≡ b → keep holds l ++ replicate (length l - length (keep holds l)) none ≡ l →
          (if b then x ∷ keep holds l else keep holds l) ++ replicate (suc (length l) - length (if b then x ∷ keep holds l else keep holds l)) none ≡ x ∷ l
      go true e ih = ap (λ (t : List A). x ∷ t) (rw (same_rest (length l) (length (keep holds l))) ih)
        where
          same_rest : (a b : ℕ) → suc a - suc b ≡ a - b
          same_rest a b = omega arith
      go false e ih = rw (keep-none free l (none_after e), z 0 e, whole (suc (length l))) (ap (λ (t : List A). none ∷ t) (sym (all_none l (none_after e))))
        where
          whole : (a : ℕ) → a - 0 ≡ a
          whole a = omega arith

  -- Sums and searches: whatever passes over free places is the same over the packed list
  module _ {B : Type 0} (f : List A → B) (g : A → B → B) (cons : (x : A) (l : List A) → f (x ∷ l) ≡ g x (f l))
      (skip : (x : A) (r : B) → holds x ≡ false → g x r ≡ r) (free : holds none ≡ false) where
    over-free : (m : ℕ) → f (replicate m none) ≡ f []
    over-free zero = refl
    over-free (suc m) = cons none (replicate m none) ∙ skip none _ free ∙ over-free m

    over-keep : (l : List A) (m : ℕ) → f (keep holds l ++ replicate m none) ≡ f l
    unfolding keep
    over-keep [] m = over-free m
    over-keep (x ∷ l) m = go (holds x) refl (over-keep l m)
      where
        go : (b : Bool) → holds x ≡ b → f (keep holds l ++ replicate m none) ≡ f l →
            f ((if b then x ∷ keep holds l else keep holds l) ++ replicate m none) ≡ f (x ∷ l)
        go true e ih = cons x _ ∙ ap (g x) ih ∙ sym (cons x l)
        go false e ih = ih ∙ sym (cons x l ∙ skip x (f l) e)

    pub over-packed : (l : List A) → f (packed holds none l) ≡ f l
    unfolding packed
    over-packed l = over-keep l (length l - length (keep holds l))

-- The venue -----------------------------------------------------------------------------------

not-shown : (s d : ℕ) (o : Regular) → held o.quantity ≡ false → shows_at s d o ≡ false
unfolding shows_at shown_size
not-shown s d o e = let z : o.quantity - o.reserve ≡ 0 = (let q = free-none o.quantity e in omega arith) in rw z

best-packed : (s d : ℕ) (os : List Regular) → best_in s d (packed holds_regular no_regular os) ≡ best_in s d os
unfolding best_in
best-packed s d os =
    over-packed holds_regular no_regular (best_in s d) (λ o r. if shows_at s d o then better_of d o.price r else r)
    (λ o l. refl) (λ o r e. rw (not-shown s d o e)) refl os

size-packed : (s d p : ℕ) (os : List Regular) → size_in s d p (packed holds_regular no_regular os) ≡ size_in s d p os
unfolding size_in shows_for
size-packed s d p os =
    over-packed holds_regular no_regular (size_in s d p) (λ o r. if shows_for s d p o then shown_size o + r else r)
    (λ o l. refl) (λ o r e. rw (not-shown s d o e)) refl os

find-packed : (id : ℕ) (cs : List Complex) → find_complex id (packed holds_complex no_complex cs) ≡ find_complex id cs
unfolding find_complex is_complex_of
find-packed id cs =
    over-packed holds_complex no_complex (find_complex id) (λ c r. if held c.quantity && eqb c.id id then c else r)
    (λ c l. refl) (λ c r e. rw e) refl cs

module _ (v : Venue) where
  pub best-closed : (s d : ℕ) → best_regular (close_gaps v) s d ≡ best_regular v s d
  unfolding best_regular close_gaps with_regular with_complex
  best-closed s d = best-packed s d v.regular

  pub size-closed : (s d : ℕ) → best_size (close_gaps v) s d ≡ best_size v s d
  unfolding best_size close_gaps with_regular with_complex best_regular
  size-closed s d = rw best-packed (size-packed s d _ v.regular)

  pub parent-closed : (l : Legging) → parent_of (close_gaps v) l ≡ parent_of v l
  unfolding parent_of close_gaps with_regular with_complex
  parent-closed l = find-packed l.parent v.complex

  pub clear-closed : (s d : ℕ) → clear_price (close_gaps v) s d ≡ clear_price v s d
  unfolding clear_price legging_at
  clear-closed s d = rw best-closed (unfold close_gaps with_regular with_complex in refl)

  pub open-closed : (c : Complex) → both_open (close_gaps v) c ≡ both_open v c
  unfolding both_open status_of close_gaps with_regular with_complex
  open-closed c = refl

  pub market-closed : (s d : ℕ) → market_best (close_gaps v) s d ≡ market_best v s d
  unfolding market_best away
  market-closed s d = rw best-closed (unfold close_gaps with_regular with_complex in refl)

  pub band-closed : (c : Complex) (n : ℤ) → in_band (close_gaps v) c n ≡ in_band v c n
  unfolding in_band taken1 taken2
  band-closed c n = simp market-closed (unfold percent figure_now close_gaps with_regular with_complex in refl)

  pub displayed-closed : (s d p : ℕ) → displayed_no_worse (close_gaps v) s d p ≡ displayed_no_worse v s d p
  unfolding displayed_no_worse
  displayed-closed s d p = rw best-closed (unfold increment figure_now close_gaps with_regular with_complex in refl)

  pub pairs-closed : (c : Complex) (s d p k : ℕ) → pairs (close_gaps v) c s d p k ≡ pairs v c s d p k
  unfolding pairs other_clear other_size
  pairs-closed c s d p k = simp (clear-closed, size-closed)

  pub verdict_of-closed : (c : Complex) (s d : ℕ) (l : Legging) → verdict_of (close_gaps v) c s d l ≡ verdict_of v c s d l
  unfolding verdict_of
  verdict_of-closed c s d l = simp (displayed-closed, pairs-closed, band-closed, open-closed)

  pub verdict-closed : (n : ℕ) (l : Legging) → verdict (close_gaps v) n l ≡ verdict v n l
  unfolding verdict
  verdict-closed n l = simp (parent-closed, verdict_of-closed)
