-- The wrong sheets, by computation: what is asked of the wrong record, at the places where it fails.
use mathlib.Core.Path.{◌∙◌, ◌≡◌, ap, refl, sym}
use mathlib.Core.Bool.{Bool, ◌&&◌, false, false≢true, not, true, true≢false}
use mathlib.Core.List.{List, [], ◌++◌, ◌∷◌}
use Prim.Native.Nat.{◌≤◌, ℕ}
use native.Mathlib.Omega.{arith}
use lib.Dec.{eqb, leb}
use lib.IntN.{negsuc, pos}
use lib.ListN.{take}
use borrow.Author.Tests.{eq-eqb, le-leb}
use Rattle.rules.specs.declared.Regular.{Regular}
use Rattle.rules.specs.declared.Venue.{Venue}
use Rattle.rules.specs.Base.{all}
use Rattle.rules.specs.Opened.{opened-rules}
use Rattle.rules.specs.Prices.{rests_at}
use Rattle.rules.specs.Records.{Report, crossed, trade}
use Rattle.rules.specs.Words.{complex_at, fresh_venue, legging_at, no_regular, regular_at}
use Rattle.demands.specs.Demand.{calls, extend, opening, parts, start}
use Rattle.witness.specs.Witness.{bytes_of}
use Rattle.replay.specs.Moments.{AtEach, AtItsMoment, MakerStands, legging, resting}
use Rattle.replay.specs.NegativeWitness.{NegativeWitness, Refused, before, seen, session, sheet}
use Rattle.replay.specs.Replay.{State, after_answer, entered, finished, lessen_complex, lessen_order, looked_at, next, noted, replay, upon}
use Rattle.rules.proofs.Arranging.{all-at}
use Rattle.rules.proofs.Tests.{not-out}

-- what holds of each record in turn holds of the last
at_last : (x : State) (rs : List Report) (r : Report) → AtEach x (rs ++ (r ∷ [])) → AtItsMoment (replay x rs).books r
unfolding replay
at_last x [] r h = h.0
at_last x (q ∷ rs) r h = at_last (next q x) rs r h.1

refused : (n : ℕ) (r : Report) → (AtItsMoment (before n) r → ⊥) → Refused n r
unfolding sheet before
refused n r fails h = fails (at_last (upon fresh_venue seen.messages) (take n seen.reports) r h)

-- A maker ---------------------------------------------------------------------------------------

module _ (v : Venue) (s e p k maker : ℕ) where
  abbrev is_maker : Regular → Bool
  is_maker o = rests_at s e o && eqb o.id maker && eqb o.price p && leb k o.quantity

  abbrev is_legging : Bool
  is_legging = let l = legging_at v s e in eqb l.parent maker && eqb l.price p && leb k l.quantity

  not_there : all (λ o. not (is_maker o)) v.regular ≡ true → is_legging ≡ false → MakerStands v s e p k maker → ⊥
  not_there none other (resting i rests id price enough) =
      let is : is_maker (regular_at v i) ≡ true = rw (rests, eq-eqb _ _ id, eq-eqb _ _ price, le-leb _ _ enough) in
      true≢false (sym is ∙ not-out _ (unfold regular_at in (all-at (λ o. not (is_maker o)) no_regular v.regular (unfold rests_at in refl) none i)))
  not_there none other (legging j parent_rests held parent price enough) =
      let is : is_legging ≡ true = rw (eq-eqb _ _ parent, eq-eqb _ _ price, le-leb _ _ enough) in
      true≢false (sym is ∙ other)

-- Each sheet ------------------------------------------------------------------------------------

pub negative-witness : NegativeWitness
unfolding opened-rules bytes_of session seen before sheet start extend parts opening calls after_answer entered finished lessen_complex lessen_order looked_at next noted replay upon
negative-witness = record {
  true10 = refl;
  true17 = refl;
  true22 = refl;
  unknown_maker = refused 12 (trade 0 1 115 8 8 17) (λ h. not_there (before 12) 0 0 115 8 17 refl refl h.stands);
  takers_side = refused 12 (trade 0 1 130 2 8 2) (λ h. not_there (before 12) 0 0 130 2 2 refl refl h.stands);
  another_series = refused 17 (trade 2 1 110 2 8 6) (λ h. not_there (before 17) 2 0 110 2 6 refl refl h.stands);
  another_price = refused 17 (trade 0 1 112 2 8 6) (λ h. not_there (before 17) 0 0 112 2 6 refl refl h.stands);
  more_than_rests = refused 13 (trade 1 0 90 13 4 3) (λ h. not_there (before 13) 1 1 90 13 3 refl refl h.stands);
  another_parent = refused 12 (trade 0 1 115 8 8 1) (λ h. not_there (before 12) 0 0 115 8 1 refl refl h.stands);
  another_legging_price = refused 12 (trade 0 1 120 8 8 4) (λ h. not_there (before 12) 0 0 120 8 4 refl refl h.stands);
  more_than_legging = refused 12 (trade 0 1 115 9 8 4) (λ h. not_there (before 12) 0 0 115 9 4 refl refl h.stands);
  better_shown = refused 13 (trade 1 0 95 5 4 5) (λ h. true≢false (h.shown 1 refl));
  better_legging = refused 12 (trade 0 1 110 2 8 6) (λ h. true≢false h.legging);
  better_reserve = refused 24 (trade 7 0 110 1 12 11) (λ h. true≢false (h.reserve 7 refl 4 refl));
  shown_and_reserve = refused 22 (trade 7 0 100 10 12 9) (λ h. let z : 10 ≤ 3 = (h.turn 7 refl 4 refl).own refl in omega arith);
  later_shown = refused 22 (trade 7 0 100 3 12 10) (λ h. let z : 10 ≤ 9 = (h.turn 7 refl 5 refl).shown_by_id refl 4 refl refl in omega arith);
  reserve_before_shown = refused 23 (trade 7 0 100 7 12 9) (λ h. true≢false ((h.turn 7 refl 4 refl).all_shown refl 5 refl refl));
  later_reserve = refused 24 (trade 7 0 100 7 12 10) (λ h. let z : 10 ≤ 9 = (h.turn 7 refl 5 refl).reserve_by_id refl 4 refl refl in omega arith);
  hit_before_reserve = refused 11 (trade 0 1 115 8 8 4) (λ h. h.hit 1 refl 4 refl refl);
  hit_before_shown = refused 10 (trade 0 1 115 8 8 4) (λ h. h.hit 1 refl 4 refl refl);
  taker_above = refused 31 (crossed 16 15 (pos 195) 3) (λ h. false≢true (h.taking 2 refl refl refl));
  maker_above = refused 30 (crossed 15 1 (negsuc 194) 3) (λ h. false≢true (h.resting 0 refl refl refl));
  unheard_pair = λ e. let z : ◌≡◌ {A = ℕ} 3 5 = ap (λ (v : Venue). (complex_at v 0).quantity) e in omega arith;
}
