-- Removing legging orders keeps the test of those that stay.
use Rattle.std.specs.Prelude.{if◌then◌else◌}
use mathlib.Core.Path.{◌≡◌, refl, sym, ◌∙◌}
use mathlib.Core.Bool.{Bool, true, false, false≢true}
use mathlib.Core.List.{List, [], ◌∷◌}
use mathlib.Core.Logic.{◌⊎◌, inl, inr}
use Prim.Native.Nat.{ℕ, zero, suc, ◌+◌, ◌/◌, ◌%◌, zero-le}
use native.Mathlib.Nat.{add-zero, add-suc, suc-add, zero-add}
use borrow.Author.Tests.{le-ltb}
use lib.IntN.{ℤ}
use lib.ListN.{get_or}
use Rattle.rules.specs.declared.Complex.{Complex}
use Rattle.rules.specs.declared.Legging.{Legging}
use Rattle.rules.specs.declared.Venue.{Venue}
use Rattle.rules.specs.declared.Verdict.{Verdict}
use Rattle.rules.specs.declared.Verdict.TheVariants.{Stands, Fails}
use Rattle.rules.proofs.Verdicts.{passed, passing}
use Rattle.rules.proofs.Tests.{and_l, if-same}
use Rattle.rules.specs.Base.{held}
use Rattle.rules.specs.Words.{opposite, no_legging, place_of, legging_at, status_of, with_legging}
use Rattle.rules.specs.Settings.{figure_now, increment, percent}
use Rattle.rules.specs.Prices.{better, best_regular, best_size, own_price, clear_price, market_best, away, taken1, taken2, in_band}
use Rattle.rules.specs.Removal.{remove, stay, stayers}
use Rattle.rules.specs.Standing.{parent_of, both_open, displayed_no_worse, pairs, verdict_of, verdict, show_again, settle, other_clear, other_size, other_leg}

-- what stands at a place is what stood there, or nothing
unfoldable pub SameOrGone : Legging → Legging → Type 0
SameOrGone l m = (l ≡ m) ⊎ (l ≡ no_legging)

stay-kept : (x : Verdict) (l : Legging) → SameOrGone (stay x l) l
unfolding SameOrGone stay
stay-kept Stands l = inl refl
stay-kept (Fails c) l = go (held l.quantity)
  where
    go : (b : Bool) → ((if b then no_legging else l) ≡ l) ⊎ ((if b then no_legging else l) ≡ no_legging)
    go true = inr refl
    go false = inl refl

pub stayers-kept : (f : ℕ → Legging → Verdict) (n : ℕ) (ls : List Legging) (i : ℕ) → SameOrGone (get_or (stayers f n ls) i no_legging) (get_or ls i no_legging)
unfolding SameOrGone stayers
stayers-kept f n [] i = inl refl
stayers-kept f n (l ∷ ls) zero = stay-kept (f n l) l
stayers-kept f n (l ∷ ls) (suc i) = stayers-kept f (suc n) ls i

-- no price is not better than any
none-better : (d p : ℕ) → better d 0 p ≡ false
unfolding better
none-better d p = simp (le-ltb p 0 zero-le, if-same)

-- the venue w has v's books, complex orders, series and editions, and of the legging orders at most those of v
pub record Thinned (v w : Venue) : Type 0 where
  pub regular : w.regular ≡ v.regular
  pub complex : w.complex ≡ v.complex
  pub series : w.series ≡ v.series
  pub editions : w.editions ≡ v.editions
  pub legging : (i : ℕ) → SameOrGone (get_or w.legging i no_legging) (get_or v.legging i no_legging)

remove-thins : (f : ℕ → Legging → Verdict) (v : Venue) → Thinned v (remove f v).venue
unfolding remove with_legging
remove-thins f v = record { regular = refl; complex = refl; series = refl; editions = refl; legging = stayers-kept f 0 v.legging }

-- a clear price is the best regular price
pub clear-best : (v : Venue) (s d : ℕ) → held (clear_price v s d) ≡ true → clear_price v s d ≡ best_regular v s d
unfolding clear_price
clear-best v s d = go (better d (own_price (legging_at v s d)) (best_regular v s d))
  where
    go : (b : Bool) → held (if b then 0 else best_regular v s d) ≡ true → (if b then 0 else best_regular v s d) ≡ best_regular v s d
    go true h = absurd (false≢true h)
    go false h = refl

module _ {v w : Venue} (t : Thinned v w) where
  best-kept : (s d : ℕ) → best_regular w s d ≡ best_regular v s d
  unfolding best_regular
  best-kept s d = rw t.regular

  size-kept : (s d : ℕ) → best_size w s d ≡ best_size v s d
  unfolding best_size
  size-kept s d = rw (best-kept s d, t.regular)

  clear_kept : (s d : ℕ) → held (clear_price v s d) ≡ true → clear_price w s d ≡ clear_price v s d
  unfolding clear_price legging_at SameOrGone own_price
  clear_kept s d h = elim (t.legging (place_of s d)) [
    | inl e ↦ rw (best-kept s d, e)
    | inr e ↦ rw (e, none-better) (best-kept s d ∙ sym (clear-best v s d h))
  ]

  open_kept : (c : Complex) → both_open w c ≡ both_open v c
  unfolding both_open status_of
  open_kept c = rw t.series

  market-kept : (s d : ℕ) → market_best w s d ≡ market_best v s d
  unfolding market_best away
  market-kept s d = rw (best-kept, t.series)

  band-kept : (c : Complex) (n : ℤ) → in_band w c n ≡ in_band v c n
  unfolding in_band taken1 taken2 percent figure_now
  band-kept c n = simp (market-kept, t.editions)

  displayed-kept : (s d p : ℕ) → displayed_no_worse w s d p ≡ displayed_no_worse v s d p
  unfolding displayed_no_worse increment figure_now
  displayed-kept s d p = rw (best-kept, t.editions)

  parent-kept : (l : Legging) → parent_of w l ≡ parent_of v l
  unfolding parent_of
  parent-kept l = rw t.complex

  pairs-kept : (c : Complex) (s d p k : ℕ) → pairs v c s d p k ≡ true → pairs w c s d p k ≡ true
  unfolding pairs other_clear other_size
  pairs-kept c s d p k h =
      rw (clear_kept (other_leg c s).series (opposite (other_leg c s).side) (and_l _ _ (and_l _ _ h)), size-kept) h

  verdict_of-kept : (c : Complex) (s d : ℕ) (l : Legging) → verdict_of v c s d l ≡ Stands → verdict_of w c s d l ≡ Stands
  verdict_of-kept c s d l h =
      let p = passed h in
      passing (record {
        displayed = rw displayed-kept p.displayed;
        pair = pairs-kept _ _ _ _ _ p.pair;
        band = rw band-kept p.band;
        opens = rw open_kept p.opens;
      })

  pub verdict-kept : (n : ℕ) (l : Legging) → verdict v n l ≡ Stands → verdict w n l ≡ Stands
  unfolding verdict
  verdict-kept n l = go (held l.quantity)
    where
      go : (b : Bool) →
          (if b then verdict_of v (parent_of v l) (n / 2) (n % 2) l else Stands) ≡ Stands →
          (if b then verdict_of w (parent_of w l) (n / 2) (n % 2) l else Stands) ≡ Stands
      go true h = rw parent-kept (verdict_of-kept _ _ _ _ h)
      go false h = refl

-- settling: what passes its test before the failing ones go passes it after
pub settle-keeps : (v : Venue) (n : ℕ) (l : Legging) → verdict (show_again v) n l ≡ Stands → verdict (settle v).venue n l ≡ Stands
unfolding settle
settle-keeps v = verdict-kept (remove-thins (verdict (show_again v)) (show_again v))

-- a free place has nothing to fail
pub free-stands : (w : Venue) (n : ℕ) (l : Legging) → held l.quantity ≡ false → verdict w n l ≡ Stands
unfolding verdict
free-stands w n l e = rw e

-- and after settling every legging order passes its test
module _ (v w : Venue) (kept : (n : ℕ) (l : Legging) → verdict v n l ≡ Stands → verdict w n l ≡ Stands) where
  stay-stands : (n : ℕ) (l : Legging) → verdict w n (stay (verdict v n l) l) ≡ Stands
  unfolding stay
  stay-stands n l = go (verdict v n l) refl (held l.quantity) refl
    where
      go : (x : Verdict) → verdict v n l ≡ x → (b : Bool) → held l.quantity ≡ b → verdict w n (stay x l) ≡ Stands
      go Stands e b q = kept n l e
      go (Fails c) e true q = rw q (free-stands w n no_legging refl)
      go (Fails c) e false q = rw q (free-stands w n l q)

  stayers-stand : (n : ℕ) (ls : List Legging) (i : ℕ) → verdict w (n + i) (get_or (stayers (verdict v) n ls) i no_legging) ≡ Stands
  unfolding stayers
  stayers-stand n [] i = free-stands w (n + i) no_legging refl
  stayers-stand n (l ∷ ls) zero = rw add-zero (stay-stands n l)
  stayers-stand n (l ∷ ls) (suc i) = rw (add-suc, ← suc-add) (stayers-stand (suc n) ls i)

pub settle-stands : (v : Venue) (i : ℕ) → verdict (settle v).venue i (get_or (settle v).venue.legging i no_legging) ≡ Stands
unfolding settle remove with_legging
settle-stands v i = rw zero-add at (stayers-stand (show_again v) (settle v).venue (settle-keeps v) 0 (show_again v).legging i)
