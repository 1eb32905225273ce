-- A series anew, and its number in range.
use mathlib.Core.Path.{◌≡◌, sym, ap, ◌∙◌}
use mathlib.Core.Bool.{true, ◌&&◌, true≢false}
use Prim.Native.Nat.{ℕ, zero, suc, ◌<◌}
use native.Mathlib.Omega.{arith}
use lib.ListN.{set}
use borrow.Author.Tests.{leb-true}
use Rattle.rules.specs.declared.Listed.{Listed}
use Rattle.rules.specs.declared.Venue.{Venue}
use Rattle.rules.specs.Words.{within, is_series, is_status, is_away, status_of, listed_at, with_series}
use Rattle.rules.specs.Settings.{is_increment}
use Rattle.rules.specs.Step.{set_away, set_status}
use Rattle.rules.proofs.Tests.{and_l, and_r}

module _ (v w : Venue) (s : ℕ) where
  pub away-set : (x bid offer : ℕ) → x ≡ status_of v s → w ≡ with_series v (set v.series s (record { status = x; bid = bid; offer = offer })) → w ≡ set_away s bid offer v
  unfolding set_away
  away-set x bid offer e p = p ∙ ap (λ (k : ℕ). with_series v (set v.series s (record { status = k; bid = bid; offer = offer }))) e

  pub status-set : (x : ℕ) (old : Listed) → old ≡ listed_at v s →
      w ≡ with_series v (set v.series s (record { status = x; bid = old.bid; offer = old.offer })) → w ≡ set_status s x v
  unfolding set_status
  status-set x old e p = p ∙ ap (λ (y : Listed). with_series v (set v.series s (record { status = x; bid = y.bid; offer = y.offer }))) e

-- Fields in range -----------------------------------------------------------------------------

pub away-series : (s bid offer : ℕ) → (is_series s && is_away bid && is_away offer) ≡ true → s < 8
unfolding is_series within
away-series s bid offer z = let a = leb-true s 7 (search (and_l, and_r, z) depth 8) in omega arith

pub status-series : (s x : ℕ) → (is_series s && is_status x) ≡ true → s < 8
unfolding is_series within
status-series s x z = let a = leb-true s 7 (search (and_l, and_r, z) depth 8) in omega arith

-- an increment is some number of cents
pub increment-set : (s x : ℕ) → (is_series s && is_increment x) ≡ true → (s < 8) × (0 < x)
unfolding is_series within
increment-set s x z =
    let a = leb-true s 7 (search (and_l, and_r, z) depth 8) in
    (omega arith, some x (search (and_l, and_r, z) depth 8))
  where
    some : (x : ℕ) → is_increment x ≡ true → 0 < x
    some zero h = absurd (true≢false (sym (unfold is_increment in h)))
    some (suc x) h = omega arith
