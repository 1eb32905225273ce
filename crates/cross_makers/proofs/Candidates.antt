-- Who crosses with whom, test by test, and who goes first.
use mathlib.Core.Path.{◌≡◌, refl, sym, ap, ◌∙◌}
use mathlib.Core.Bool.{Bool, true, false, not, ◌&&◌}
use mathlib.Core.List.{List}
use Prim.Native.Nat.{ℕ, ◌-◌}
use native.Mathlib.Nat.{sub-zero}
use borrow.Author.Tests.{eq-eqb, ne_eqb, not-false}
use lib.Dec.{eqb, ltb}
use lib.IntN.{ℤ, pos, neg_ℤ, ◌+ℤ◌}
use lib.Signed.{le_z, lt_z}
use Rattle.rules.specs.declared.Complex.{Complex}
use Rattle.rules.specs.declared.Venue.{Venue}
use Rattle.rules.specs.Base.{first_from, first}
use Rattle.rules.specs.Words.{opposite, no_complex, earlier_complex}
use Rattle.rules.specs.Prices.{best_regular, weighed, net, in_band}
use Rattle.rules.specs.Complex.{reversed, respects_legs, crosses, limit_then_id}
use Rattle.rules.proofs.Tests.{not-out}
use Rattle.places.specs.Layout.{upto, complexes_used, complex_in, venue_of}
use Rattle.levels.proofs.Scanning.{first-used}

-- what a negated test says of the definition's
pub off : (r x : Bool) → r ≡ x → not r ≡ true → x ≡ false
off r x e h = sym e ∙ not-out r h

pub on : (r x : Bool) → r ≡ x → not r ≡ false → x ≡ true
on r x e h = sym e ∙ not-false r h

-- the last test decides where all else faces
pub last-faces : (a b c d e f g h i j o q : ℕ) (t : Bool) → a ≡ b → o ≡ opposite d → c ≡ o → e ≡ f → g ≡ h → q ≡ opposite j → i ≡ q →
    t ≡ (eqb a b && eqb c (opposite d) && eqb e f && eqb g h && eqb i (opposite j) && t)
last-faces a b c d e f g h i j o q t series oo side ratio series' qq side' =
    rw (eq-eqb a b series, eq-eqb c (opposite d) (side ∙ oo), eq-eqb e f ratio, eq-eqb g h series', eq-eqb i (opposite j) (side' ∙ qq))

module _ (v : Venue) (c m : Complex) where
  pub cross-free : m.quantity ≡ 0 → false ≡ crosses v c m
  unfolding crosses
  cross-free h = rw (eq-eqb m.quantity 0 h)

  module _ (n : m.quantity ≡ 0 → ⊥) where
    pub cross-aside : reversed c m ≡ false → false ≡ crosses v c m
    unfolding crosses
    cross-aside h = rw (ne_eqb m.quantity 0 n, h)

    module _ (r : reversed c m ≡ true) where
      pub cross-apart : le_z (pos 0) (c.limit +ℤ m.limit) ≡ false → false ≡ crosses v c m
      unfolding crosses
      cross-apart h = rw (ne_eqb m.quantity 0 n, r, h)

      module _ (l : le_z (pos 0) (c.limit +ℤ m.limit) ≡ true) where
        pub cross-out : in_band v c (neg_ℤ m.limit) ≡ false → false ≡ crosses v c m
        unfolding crosses
        cross-out h = rw (ne_eqb m.quantity 0 n, r, l, h)

        module _ (i : in_band v c (neg_ℤ m.limit) ≡ true) where
          pub cross-far : in_band v m m.limit ≡ false → false ≡ crosses v c m
          unfolding crosses
          cross-far h = rw (ne_eqb m.quantity 0 n, r, l, i, h)

          module _ (j : in_band v m m.limit ≡ true) where
            pub cross-above : respects_legs v c (neg_ℤ m.limit) ≡ false → false ≡ crosses v c m
            unfolding crosses
            cross-above h = rw (ne_eqb m.quantity 0 n, r, l, i, j, h)

            pub cross-last : respects_legs v c (neg_ℤ m.limit) ≡ true → (t : Bool) → t ≡ respects_legs v m m.limit → t ≡ crosses v c m
            unfolding crosses
            cross-last h t e = rw (ne_eqb m.quantity 0 n, r, l, i, j, h) e

-- The legs' prices ----------------------------------------------------------------------------

-- best regular prices a and b, against the net t
module _ (v : Venue) (c : Complex) (t : ℤ) (a : ℕ) (ea : a ≡ best_regular v c.series1 (opposite c.side1)) where
  pub legs-none1 : a ≡ 0 → true ≡ respects_legs v c t
  unfolding respects_legs
  legs-none1 h = rw (← ea, eq-eqb a 0 h)

  module _ (n : a ≡ 0 → ⊥) (b : ℕ) (eb : b ≡ best_regular v c.series2 (opposite c.side2)) where
    pub legs-none2 : b ≡ 0 → true ≡ respects_legs v c t
    unfolding respects_legs
    legs-none2 h = rw (← ea, ne_eqb a 0 n, ← eb, eq-eqb b 0 h)

    pub legs-net : (b ≡ 0 → ⊥) → (y x : ℤ) → y ≡ t → x ≡ weighed c.ratio1 c.side1 a +ℤ weighed c.ratio2 c.side2 b → le_z y x ≡ respects_legs v c t
    unfolding respects_legs net
    legs-net m y x ey ex = rw (← ea, ne_eqb a 0 n, ← eb, ne_eqb b 0 m, ← ex, ey)

-- Rank ----------------------------------------------------------------------------------------

module _ (a m : Complex) where
  pub rank-higher : lt_z m.limit a.limit ≡ true → true ≡ limit_then_id a m
  unfolding limit_then_id
  rank-higher h = rw h

  pub rank-lower : lt_z m.limit a.limit ≡ false → lt_z a.limit m.limit ≡ true → false ≡ limit_then_id a m
  unfolding limit_then_id
  rank-lower h k = rw (h, k)

  pub rank-equal : lt_z m.limit a.limit ≡ false → lt_z a.limit m.limit ≡ false → ltb a.id m.id ≡ limit_then_id a m
  unfolding limit_then_id earlier_complex
  rank-equal h k = rw (h, k)

-- The places in use ---------------------------------------------------------------------------

pub first-crossed : (b : List ℕ) (c : Complex) →
    first_from (crosses (venue_of b) c) limit_then_id 0 (upto (complex_in b) 0 (complexes_used b - 0)) ≡ first (crosses (venue_of b) c) limit_then_id (venue_of b).complex
first-crossed b c =
    ap (λ (k : ℕ). first_from (crosses (venue_of b) c) limit_then_id 0 (upto (complex_in b) 0 k)) (sub-zero (complexes_used b))
    ∙ first-used (crosses (venue_of b) c) limit_then_id (complex_in b) no_complex (complexes_used b) 32 (sym (cross-free (venue_of b) c no_complex refl))
    ∙ ap (first (crosses (venue_of b) c) limit_then_id) (unfold venue_of in refl)
