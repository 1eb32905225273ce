-- Each record of a set that is read, by its part: what it tells has a place, and spells it.
use mathlib.Core.Path.{◌≡◌, refl, sym, ◌∙◌}
use mathlib.Core.Bool.{Bool, true, false, ◌||◌, true≢false}
use mathlib.Core.List.{List}
use Prim.Native.Nat.{ℕ, ◌≤◌}
use lib.Dec.{eqb}
use borrow.Author.Tests.{eq-eqb, eqb-true, leb-true}
use Rattle.rules.specs.Base.{held}
use Rattle.rules.specs.Words.{is_series, is_side, one_to_one, place_of, within}
use Rattle.rules.specs.Bytes.{framed, kind_field, u32, u32_at, u8_at}
use Rattle.rules.specs.Messages.{order_at, two_leg_at}
use Rattle.rules.proofs.Tests.{and_l, and_r, not-out}
use Rattle.sets.specs.Set.{complex_record, complex_told, edition_record, edition_told, generation_record, generation_told, has_place, legging_record, sort_key, part, regular_record, regular_told}
use Rattle.sets.specs.Set.{tells_complex, tells_edition, tells_generation, tells_legging, tells_regular}
use Rattle.sets.proofs.Parts.{sort-of}
use Rattle.sets.proofs.Spelled.{Clean, edition-spelled, generation-spelled, legging-spelled, percent-spelled, reached-spelled, regular-spelled, ten-spelled, two-spelled}

-- one of two kinds
either : {P : Type 0} (n a b : ℕ) → (eqb n a || eqb n b) ≡ true → (n ≡ a → P) → (n ≡ b → P) → P
either {P} n a b h f g = go (eqb n a) refl h
  where
    go : (t : Bool) → eqb n a ≡ t → (t || eqb n b) ≡ true → P
    go true e h = f (eqb-true n a e)
    go false e h = g (eqb-true n b h)

pub data OrderOf (r : List ℕ) : Type 0 where
  regular_one : tells_regular r ≡ true → tells_complex r ≡ false → regular_record (regular_told r) ≡ r → (regular_told r).id ≡ sort_key r → held (regular_told r).quantity ≡ true → OrderOf r
  complex_one : tells_regular r ≡ false → tells_complex r ≡ true → complex_record (complex_told r) ≡ r → (complex_told r).id ≡ sort_key r → held (complex_told r).quantity ≡ true → OrderOf r

pub record LeggingOf (r : List ℕ) : Type 0 where
  pub kind : kind_field r ≡ 82
  pub marked : sort_key r ≡ place_of (u8_at r 8) (u8_at r 9)
  pub series : u8_at r 8 ≤ 7
  pub side : u8_at r 9 ≤ 1
  pub quantity : held (u32_at r 14) ≡ true
  pub spelled : legging_record (u8_at r 8) (u8_at r 9) (record { parent = u32_at r 4; price = u32_at r 10; quantity = u32_at r 14 }) ≡ r

pub record GenerationOf (r : List ℕ) : Type 0 where
  pub kind : kind_field r ≡ 83
  pub marked : sort_key r ≡ u8_at r 4
  pub series : u8_at r 4 ≤ 7
  pub number : held (generation_told r) ≡ true
  pub spelled : generation_record (u8_at r 4) (generation_told r) ≡ r

module _ (r : List ℕ) (c : Clean r) (p : has_place r ≡ true) where
  pub edition-of : part r ≡ 1 → (edition_record (edition_told r) ≡ r) × (held (edition_told r).edition ≡ true)
  unfolding tells_edition has_place edition_told
  edition-of k =
      either (kind_field r) 7 8 (sort-of r 1 k).0
      (λ e. (let h = rw e at p in (edition-spelled r c e (and_l (is_series (u8_at r 4)) (held (u32_at r 6)) h), rw e (and_r (is_series (u8_at r 4)) (held (u32_at r 6)) h))))
      (λ e. (let h = rw e at p in (percent-spelled r c e, rw e h)))

  -- a regular order, or a complex one
  pub order-of : part r ≡ 2 → eqb (kind_field r) 1 ≡ false → OrderOf r
  unfolding tells_regular tells_complex tells_edition has_place sort_key part regular_told complex_told order_at two_leg_at
  order-of k whole = go (tells_regular r) refl (sort-of r 2 k).1
    where
      two : kind_field r ≡ 2 → OrderOf r
      two e = let h = rw e at p in complex_one (rw e) (rw e) (two-spelled r c e) (rw (k, e)) (rw e (and_l (held (u32_at r 17)) _ h))

      ten : kind_field r ≡ 10 → OrderOf r
      ten e = let h = rw e at p in
          complex_one (rw e) (rw e)
          (ten-spelled r c e (rw e (not-out (one_to_one (two_leg_at r (u8_at r 21) (u8_at r 22))) (and_r (held (u32_at r 17)) _ h)))) (rw (k, e))
          (rw e (and_l (held (u32_at r 17)) _ h))

      nine : kind_field r ≡ 9 → OrderOf r
      nine e = let h = rw e at p in regular_one (rw e) (rw e) (regular-spelled r c e) (rw (k, e)) h

      go : (t : Bool) → tells_regular r ≡ t → (t || tells_complex r) ≡ true → OrderOf r
      go true e h = either (kind_field r) 1 9 e (λ n. absurd (true≢false (sym (eq-eqb (kind_field r) 1 n) ∙ whole))) nine
      go false e h = either (kind_field r) 2 10 h two ten

  pub legging-of : part r ≡ 3 → LeggingOf r
  unfolding tells_edition tells_regular tells_complex tells_legging has_place sort_key part is_series is_side within
  legging-of k =
      let e = eqb-true (kind_field r) 82 (sort-of r 3 k).2 in
      let h = rw e at p in
      let s = leb-true (u8_at r 8) 7 (search (and_l, and_r, h) depth 6) in
      let d = leb-true (u8_at r 9) 1 (search (and_l, and_r, h) depth 6) in
      record { kind = e; marked = rw (k, e); series = s; side = d; quantity = search (and_l, and_r, h) depth 6; spelled = legging-spelled r c e }

  pub generation-of : part r ≡ 4 → GenerationOf r
  unfolding tells_edition tells_regular tells_complex tells_legging tells_generation has_place sort_key part is_series within generation_told
  generation-of k =
      let e = eqb-true (kind_field r) 83 (sort-of r 4 k).3 in
      let h = rw e at p in
      let s = leb-true (u8_at r 4) 7 (search (and_l, and_r, h) depth 6) in
      record { kind = e; marked = rw (k, e); series = s; number = search (and_l, and_r, h) depth 6; spelled = generation-spelled r c e }

  pub reached-of : part r ≡ 5 → (held (u32_at r 4) ≡ true) × (framed 84 (u32 (u32_at r 4)) ≡ r) × (sort_key r ≡ 0)
  unfolding tells_edition tells_regular tells_complex tells_legging tells_generation has_place sort_key part
  reached-of k =
      let e = eqb-true (kind_field r) 84 (sort-of r 5 k).4 in
      let h = rw e at p in
      (h, reached-spelled r c e, rw (k, e))
