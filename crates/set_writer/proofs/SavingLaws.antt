-- The set written: its parts are the set of the venue, and what the call returns and leaves is what writing a set gives.
use mathlib.Core.Path.{◌≡◌, refl, sym, ap₂, ◌∙◌}
use mathlib.Core.Bool.{true, false, ◌&&◌}
use mathlib.Core.List.{List, ◌∷◌, ◌++◌, map, append_assoc}
use Prim.Native.Nat.{ℕ, suc, ◌+◌, ◌-◌, ◌≤◌, ◌<◌}
use native.Mathlib.Omega.{arith}
use lib.ListN.{length, take, replicate}
use borrow.Author.Tests.{lt-ltb, le-ltb}
use Rattle.rules.specs.declared.Regular.{Regular}
use Rattle.rules.specs.declared.Complex.{Complex}
use Rattle.rules.specs.declared.Venue.{Venue}
use Rattle.rules.specs.Base.{keep}
use Rattle.rules.specs.Words.{no_regular, no_complex}
use Rattle.rules.specs.Places.{holds_regular, holds_complex, holds_edition}
use Rattle.rules.specs.Sound.{sound, follows}
use Rattle.places.specs.Layout.{upto, regular_in, complex_in, regulars_used, complexes_used, venue_of, Dense}
use Rattle.places.proofs.Tables.{upto-length}
use Rattle.sets.specs.Set.{first_record, series_records, edition_record, by_id, legging_records, generation_records, reached_records, set_of, joined, carries, not_written, write_set}
use Rattle.set_parts.specs.SetMemory.{set_memory, ◌adds◌}
use Rattle.set_parts.specs.Parts.{orders_from}
use Rattle.set_parts.proofs.SetMemoryLaws.{room-is, stands, does-not-fit}
use Rattle.set_parts.proofs.PartsLaws.{joined-append, all-kept}

-- Its parts -------------------------------------------------------------------------------------

rows-joined : (f : List ℕ) (a b c d e g : List (List ℕ)) →
    joined (f ∷ a ++ b ++ c ++ d ++ e ++ g) ≡ f ++ joined a ++ joined b ++ joined c ++ joined d ++ joined e ++ joined g
unfolding joined
rows-joined f a b c d e g = simp (joined-append, append_assoc)

module _ (b : List ℕ) (dense : Dense b) where
  orders-are : orders_from b (regulars_used b) (complexes_used b) 0 0 ≡
      by_id (length (keep holds_regular (venue_of b).regular) + length (keep holds_complex (venue_of b).complex)) (keep holds_regular (venue_of b).regular) (keep holds_complex (venue_of b).complex)
  unfolding orders_from venue_of
  orders-are =
      let n : ℕ = regulars_used b in
      let m : ℕ = complexes_used b in
      let os : List Regular = upto (regular_in b) 0 n in
      let cs : List Complex = upto (complex_in b) 0 m in
      let z : n - 0 ≡ n = omega arith in
      let y : m - 0 ≡ m = omega arith in
      ap₂ (λ (p q : ℕ). by_id (p + q) (upto (regular_in b) 0 p) (upto (complex_in b) 0 q)) z y
      ∙ ap₂ (λ (p q : ℕ). by_id (p + q) os cs) (sym (upto-length (regular_in b) 0 n)) (sym (upto-length (complex_in b) 0 m))
      ∙ sym (ap₂ (λ (x : List Regular) (w : List Complex). by_id (length x + length w) x w)
      (all-kept holds_regular no_regular refl (regular_in b) n 128 dense.regulars) (all-kept holds_complex no_complex refl (complex_in b) m 32 dense.complexes))

  pub parts-joined : (number last reached : ℕ) → last ≡ (venue_of b).last → reached ≡ (venue_of b).reached →
      first_record number last
      ++ joined (series_records 0 (venue_of b).series)
      ++ joined (map edition_record (keep holds_edition (venue_of b).editions))
      ++ joined (orders_from b (regulars_used b) (complexes_used b) 0 0)
      ++ joined (legging_records 0 (venue_of b).legging)
      ++ joined (generation_records 0 (venue_of b).generations)
      ++ joined (reached_records reached)
      ≡ joined (set_of number (venue_of b))
  unfolding set_of
  parts-joined number last reached e f = rw (e, f, orders-are) (sym (rows-joined _ _ _ _ _ _ _))

-- What is returned ------------------------------------------------------------------------------

module _ (v : Venue) (number : ℕ) (l : List ℕ) where
  pub not_carried : (sound v && follows (suc number) v) ≡ false → not_written 9 (length l) ≡ write_set number v (length l)
  unfolding write_set carries
  not_carried h = rw h

  module _ (fine : (sound v && follows (suc number) v) ≡ true) (m : List ℕ) (end : ℕ) (e : set_memory m end ≡ set_memory l 0 adds joined (set_of number v)) where
    pub no_room : length m < end → not_written 15 (length m) ≡ write_set number v (length l)
    unfolding write_set carries
    no_room h = rw (fine, lt-ltb _ _ (does-not-fit l m _ end e h), room-is l m _ end e)

    pub all-written : end ≤ length m → (o : List ℕ) → o ≡ take end m ++ replicate (length m - end) 0 →
        record { number = 0; written = end; memory = o } ≡ write_set number v (length l)
    unfolding write_set carries
    all-written h o p =
        let k = stands l m _ end e h in
        rw (fine, le-ltb _ _ k.fits)
        (ap₂ (λ (n : ℕ) (x : List ℕ). record { number = 0; written = n; memory = x }) k.position
        (p ∙ ap₂ (λ (x : List ℕ) (n : ℕ). x ++ replicate n 0) k.bytes (ap₂ (λ (x y : ℕ). x - y) (room-is l m _ end e) k.position)))
