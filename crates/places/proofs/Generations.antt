-- The generations of each series, as they are read.
use mathlib.Core.Path.{◌≡◌, refl, sym, ap, ◌∙◌}
use mathlib.Core.List.{List}
use Prim.Native.Nat.{ℕ, ◌+◌, ◌*◌, ◌≤◌, ◌<◌}
use native.Mathlib.Omega.{arith}
use native.Mathlib.Decide.{dec_lt}
use lib.ListN.{length, get_or, take, drop, get_or-eq_default}
use lib.Seq.{ext_get_or, length-take-le}
use Rattle.std.proofs.lemmas.List.{get_or-take, get_or-drop, length-drop}
use Rattle.rules.specs.declared.Generations.{Generations}
use Rattle.rules.specs.Words.{no_generations}
use Rattle.rules.specs.Generation.{generations_of}
use Rattle.places.specs.Layout.{upto, generations_in, venue_of}
use Rattle.places.specs.Offsets.{generation_messages_at}
use Rattle.places.proofs.Tables.{upto-length, upto-at}

pub generations-many : (b : List ℕ) → length (venue_of b).generations ≡ 8
unfolding venue_of
generations-many b = upto-length (generations_in b) 0 8

pub generations-at : (b : List ℕ) (s : ℕ) → s < 8 → get_or (venue_of b).generations s no_generations ≡ generations_in b s
unfolding venue_of
generations-at b s h = upto-at (generations_in b) no_generations 0 8 s h ∙ ap (generations_in b) (omega arith)

-- one of them
pub generation-is : (b : List ℕ) (s k : ℕ) → s < 8 → k < 20 → get_or b (20 * s + k + generation_messages_at) 0 ≡ get_or (generations_of (venue_of b) s) k 0
unfolding generations_of generations_in
generation-is b s k h w =
    let e : 20 * s + k + generation_messages_at ≡ 20 * s + generation_messages_at + k = omega arith in
    ap (λ (j : ℕ). get_or b j 0) e ∙ sym (upto-at (λ j. get_or b j 0) 0 (20 * s + generation_messages_at) 20 k w) ∙ sym (ap (λ (g : Generations). get_or g.messages k 0) (generations-at b s h))

-- twenty of each series
pub generations-twenty : (b : List ℕ) (s : ℕ) → length (generations_of (venue_of b) s) ≡ 20
unfolding generations_of
generations-twenty b s = elim (dec_lt s 8) [
  | yes h ↦ ap (λ (g : Generations). length g.messages) (generations-at b s h) ∙ (unfold generations_in in upto-length (λ k. get_or b k 0) (20 * s + generation_messages_at) 20)
  | no h ↦ ap (λ (g : Generations). length g.messages) (get_or-eq_default (venue_of b).generations no_generations {n = s} (omega (arith, generations-many b)))
]

-- as they are copied: a part of the numbers
pub messages-read : (b : List ℕ) (s : ℕ) (r : List ℕ) → 20 * s + generation_messages_at + 20 ≤ length b →
    r ≡ take 20 (drop (20 * s + generation_messages_at) b) → record { messages = r } ≡ generations_in b s
unfolding generations_in
messages-read b s r h e =
    let from : ℕ = 20 * s + generation_messages_at in
    let many : length (take 20 (drop from b)) ≡ 20 = length-take-le 20 (drop from b) (omega (arith, length-drop from b)) in
    rw (
      e,
      ext_get_or 0 (take 20 (drop from b)) (upto (λ k. get_or b k 0) from 20)
          (many ∙ sym (upto-length (λ k. get_or b k 0) from 20))
          (λ i w. let v : i < 20 = omega arith in
          get_or-take 20 (drop from b) i 0 v ∙ get_or-drop from b i 0 ∙ sym (upto-at (λ k. get_or b k 0) 0 from 20 i v)),
    ) refl
