-- The width of each table's rows.
use mathlib.Core.Path.{◌≡◌, refl, ap, ◌∙◌}
use Prim.Native.Nat.{ℕ, ◌+◌, ◌<◌}
use native.Mathlib.Omega.{arith}
use lib.ListN.{length, get_or}
use Rattle.rules.specs.declared.Regular.{Regular}
use Rattle.rules.specs.declared.Complex.{Complex}
use Rattle.rules.specs.declared.Legging.{Legging}
use Rattle.rules.specs.declared.Listed.{Listed}
use Rattle.rules.specs.declared.Edition.{Edition}
use Rattle.rules.specs.declared.Generations.{Generations}
use Rattle.rules.specs.Bytes.{bytes, u32}
use Rattle.places.proofs.Tables.{upto-length, upto-at}
use Rattle.venue_bytes.specs.Held.{regular_bytes, reserve_bytes, complex_bytes, ratio_bytes, legging_bytes, listed_bytes, edition_bytes, messages_of, generations_bytes}
use Rattle.venue_bytes.proofs.Rows.{rows-length}

pub regular-width : (o : Regular) → length (regular_bytes o) ≡ 14
unfolding regular_bytes bytes
regular-width o = refl

pub reserve-width : (o : Regular) → length (reserve_bytes o) ≡ 8
unfolding reserve_bytes bytes
reserve-width o = refl

pub complex-width : (c : Complex) → length (complex_bytes c) ≡ 17
unfolding complex_bytes bytes
complex-width c = refl

pub ratio-width : (c : Complex) → length (ratio_bytes c) ≡ 2
unfolding ratio_bytes bytes
ratio-width c = refl

pub legging-width : (l : Legging) → length (legging_bytes l) ≡ 12
unfolding legging_bytes bytes
legging-width l = refl

pub listed-width : (x : Listed) → length (listed_bytes x) ≡ 9
unfolding listed_bytes bytes
listed-width x = refl

pub edition-width : (e : Edition) → length (edition_bytes e) ≡ 10
unfolding edition_bytes bytes
edition-width e = refl

pub number-width : (x : ℕ) → length (u32 x) ≡ 4
unfolding bytes
number-width x = refl

-- the numbers of a series' generations
module _ (g : Generations) where
  pub messages-many : length (messages_of g) ≡ 20
  messages-many = upto-length (λ k. get_or g.messages k 0) 0 20

  pub message-at : (k : ℕ) → k < 20 → get_or (messages_of g) k 0 ≡ get_or g.messages k 0
  message-at k h = let z : 0 + k ≡ k = omega arith in upto-at (λ (i : ℕ). get_or g.messages i 0) 0 0 20 k h ∙ ap (λ (i : ℕ). get_or g.messages i 0) z

pub generations-width : (g : Generations) → length (generations_bytes g) ≡ 80
unfolding generations_bytes
generations-width g = rows-length u32 4 number-width (messages_of g) ∙ omega (arith, messages-many g)
