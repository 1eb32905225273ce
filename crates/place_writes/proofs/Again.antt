-- The pass by which each order shows again.
use mathlib.Core.Path.{◌≡◌, refl, sym, ap, subst, ◌∙◌}
use mathlib.Core.Logic.{◌≢◌, ◌⊎◌, inl, inr}
use mathlib.Core.List.{List}
use Prim.Native.Nat.{ℕ, ◌+◌, ◌-◌, ◌*◌, ◌≤◌, ◌<◌, min}
use native.Mathlib.Omega.{arith}
use native.Mathlib.Decide.{dec_lt, ℕ_discrete}
use lib.ListN.{length, get_or, set, length-set}
use lib.Seq.{ext_get_or, get_or-set_same, get_or-set_other}
use Rattle.rules.specs.declared.Regular.{Regular}
use Rattle.rules.specs.declared.Venue.{Venue}
use Rattle.rules.specs.Words.{no_regular, regular_at, with_regular}
use Rattle.rules.specs.Standing.{shows_again, show_again}
use Rattle.rules.proofs.Again.{again-at, again-fewer}
use Rattle.rules.proofs.Showing.{Showing, again-showing}
use Rattle.places.specs.Layout.{size, regulars_used, regular_in, venue_of, Fully, SameBeside}
use Rattle.places.specs.Offsets.{regular_reserve_at, regular_display_at, regular_reserve_next_at, show_again_at, generation_messages_at}
use Rattle.places.proofs.Parts.{Outside, stored, wider, joined, unmoved, regulars-few, regulars-many, regular-at, regular-past, regular-kept}
use Rattle.places.proofs.Parts.{count_kept, count-kept2, complexes-kept, leggings-kept, series-kept, editions-kept, generations-kept, last-kept}
use Rattle.places.proofs.Parts.{reached-kept, venue-is}
use Rattle.places.proofs.Beside.{levels-kept, regulars-marked, complexes-marked, legging-marked, figures-marked, beside-venue}

-- the orders at the first i places show again
pub record ShowingAgain (a b : List ℕ) (i : ℕ) : Type 0 where
  pub long : length b ≡ size
  pub outside : Outside regular_reserve_at show_again_at a b
  pub done : (k : ℕ) → k < i → k < 128 → regular_in b k ≡ shows_again (regular_in a k)
  pub rest : (k : ℕ) → i ≤ k → k < 128 → regular_in b k ≡ regular_in a k

pub again-start : (a : List ℕ) → length a ≡ size → ShowingAgain a a 0
again-start a n = record { long = n; outside = unmoved; done = λ k w. absurd (omega arith); rest = λ k w f. refl }

-- one order, whose reserve becomes all but its shown quantity
here : (b : List ℕ) (i x : ℕ) → length b ≡ size → i < 128 → x ≡ (regular_in b i).quantity - (regular_in b i).display → regular_in (set b (2 * i + regular_reserve_at) x) i ≡ shows_again (regular_in b i)
unfolding regular_in shows_again
here b i x n h e =
    let q = get_or b (4 * i + 3) 0 in
    let d = get_or b (2 * i + regular_display_at) 0 in
    let z : min x q ≡ q - min d q = omega arith in
    rw (
      get_or-set_same b (2 * i + regular_reserve_at) x 0 (omega arith),
      get_or-set_other b (2 * i + regular_reserve_at) (4 * i) x 0 (λ w. omega arith),
      get_or-set_other b (2 * i + regular_reserve_at) (4 * i + 1) x 0 (λ w. omega arith),
      get_or-set_other b (2 * i + regular_reserve_at) (4 * i + 2) x 0 (λ w. omega arith),
      get_or-set_other b (2 * i + regular_reserve_at) (4 * i + 3) x 0 (λ w. omega arith),
      get_or-set_other b (2 * i + regular_reserve_at) (2 * i + regular_display_at) x 0 (λ w. omega arith),
      z,
    ) refl

pub again-next : (a b : List ℕ) (i : ℕ) (o : Regular) (x : ℕ) → ShowingAgain a b i → i < 128 → o ≡ regular_in b i → x ≡ o.quantity - o.display →
    ShowingAgain a (set b (2 * i + regular_reserve_at) x) (i + 1)
again-next a b i o x m h is e = record {
  long = length-set b (2 * i + regular_reserve_at) x ∙ m.long;
  outside = joined m.outside (wider (omega arith) (omega arith) one);
  done = λ k w f. elim (ℕ_discrete k i) [
    | yes q ↦ ap (regular_in c) q ∙ here b i x m.long h (e ∙ ap (λ (y : Regular). y.quantity - y.display) is) ∙ ap shows_again
        (m.rest i (omega arith) h) ∙ sym (ap (λ (j : ℕ). shows_again (regular_in a j)) q)
    | no q ↦ sym (regular-kept one k (inl (omega arith)) (near k q)) ∙ m.done k (omega arith) f
  ];
  rest = λ k w f. sym (regular-kept one k (inl (omega arith)) (inr (omega arith))) ∙ m.rest k (omega arith) f;
}
  where
    c : List ℕ
    c = set b (2 * i + regular_reserve_at) x

    one : Outside (2 * i + regular_reserve_at) (2 * i + regular_display_at) b c
    one = wider (omega arith) (omega arith) (stored b (2 * i + regular_reserve_at) x)

    near : (k : ℕ) → k ≢ i → (2 * k + regular_reserve_next_at ≤ 2 * i + regular_reserve_at) ⊎ (2 * i + regular_display_at ≤ 2 * k + regular_reserve_at)
    near k q = elim (dec_lt k i) [ yes p ↦ inl (omega arith) | no p ↦ inr (omega arith) ]

-- all that are in use, and so all
module _ (a b : List ℕ) (n i : ℕ) (m : ShowingAgain a b i) (used : n ≡ regulars_used a) (h : n ≤ i) where
  same-used : regulars_used b ≡ regulars_used a
  same-used = count_kept m.outside (inl (omega arith))

  at : (k : ℕ) → Dec (k < n) → regular_at (venue_of b) k ≡ regular_at (show_again (venue_of a)) k
  unfolding regular_at
  at k (yes w) =
      let z = regulars-few a in
      regular-at b k (omega (arith, same-used)) ∙ m.done k (omega arith) (omega arith) ∙ ap shows_again (sym (regular-at a k (omega arith))) ∙ sym (again-at (venue_of a) k)
  at k (no w) =
      let z : no_regular ≡ shows_again no_regular = unfold shows_again in refl in
      regular-past b k (omega (arith, same-used)) ∙ z ∙ ap shows_again (sym (regular-past a k (omega arith))) ∙ sym (again-at (venue_of a) k)

  orders : (venue_of b).regular ≡ (show_again (venue_of a)).regular
  unfolding regular_at
  orders = ext_get_or no_regular (venue_of b).regular (show_again (venue_of a)).regular (regulars-many b ∙ sym ((again-fewer (venue_of a)).same ∙ regulars-many a)) (λ k q. at k (dec_lt k n))

  again-venue : venue_of b ≡ show_again (venue_of a)
  unfolding show_again with_regular
  again-venue =
      let o = m.outside in
      venue-is (venue_of b) (show_again (venue_of a)) orders (complexes-kept o (inr (omega arith)) (inl (omega arith))) (leggings-kept o (inr (omega arith)))
      (series-kept o (inr (omega arith))) (editions-kept o (inr (omega arith))) (generations-kept o (inl (omega arith))) (last-kept o (inl (omega arith))) (reached-kept o (inr (omega arith)))

  pub again-end : (venue_of (set b show_again_at 0) ≡ show_again (venue_of a)) × SameBeside a (set b show_again_at 0)
  again-end = (
    venue,
    record {
      regulars = count_kept p (inl (omega arith)) ∙ same-used;
      complexes = count-kept2 p (inl (omega arith)) ∙ count-kept2 o (inl (omega arith));
      levels = λ k w. levels-kept p (inl (omega arith)) k w ∙ levels-kept o (inl (omega arith)) k w;
      marked = λ x. record {
        regulars = regulars-marked p (omega arith) (inl (omega arith)) (inl (omega arith)) (regulars-marked o (omega arith) (inl (omega arith)) (inl (omega arith)) x.regulars);
        complexes = complexes-marked p (inr (omega arith)) (inl (omega arith)) (inl (omega arith)) (complexes-marked o (inr (omega arith)) (inl (omega arith)) (inl (omega arith)) x.complexes);
        legging = legging-marked p (inr (omega arith)) (inl (omega arith)) (legging-marked o (inr (omega arith)) (inl (omega arith)) x.legging);
        figures = figures-marked p (inr (omega arith)) (figures-marked o (inr (omega arith)) x.figures);
        shows = λ _. subst (λ (v : Venue). Fully v.regular) (sym venue) (unfold Showing in again-showing (venue_of a));
      };
    },
  )
    where
      o : Outside regular_reserve_at show_again_at a b
      o = m.outside

      p : Outside show_again_at generation_messages_at b (set b show_again_at 0)
      p = stored b show_again_at 0

      venue : venue_of (set b show_again_at 0) ≡ show_again (venue_of a)
      venue = beside-venue p (omega arith) (inr (omega arith)) (inl (omega arith)) (omega arith) ∙ again-venue
