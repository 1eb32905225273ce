-- The numbers of a fresh venue: they stand for it, and what is kept beside it is right.
use mathlib.Core.Path.{◌≡◌, refl, sym, ap, subst, ◌∙◌}
use mathlib.Core.Bool.{true≢false}
use mathlib.Core.List.{List}
use mathlib.Core.Logic.{inl, inr}
use Prim.Native.Nat.{ℕ, zero, suc, ◌+◌, ◌*◌, ◌≤◌}
use native.Mathlib.Omega.{arith}
use native.Mathlib.Numerals.{add-one}
use lib.ListN.{length, get_or, set, replicate, length-set}
use lib.Seq.{get_or-set_other}
use Rattle.rules.specs.declared.Regular.{Regular}
use Rattle.rules.specs.declared.Venue.{Venue}
use Rattle.rules.specs.Base.{held}
use Rattle.rules.specs.Words.{place_of, no_regular, no_generations, fresh_venue}
use Rattle.rules.specs.Prices.{shown_size, shows_at, shows_for, best_in, size_in}
use Rattle.rules.specs.Settings.{base_figure, sets, last_value, figure_now}
use Rattle.rules.specs.Sound.{shows_fully}
use Rattle.rules.specs.Step.{mask}
use Rattle.places.specs.Layout.{size, upto, in_use, regulars_used, complexes_used, legging_in, listed_in, edition_in, generations_in, venue_of, level_of, level_in, Fully, Orderly, Right, Loaded, FiguresBase}
use Rattle.places.specs.Offsets.{series_status_at, level_price_at, level_low_at, level_high_at, legging_mask_at, figures_at, regular_reserve_at, generation_messages_at, id_reached_at}
use Rattle.places.proofs.Tables.{free-get_d, upto-same}
use Rattle.places.proofs.Parts.{Outside, count_kept, count-kept2, venue-is}
use Rattle.places.proofs.Beside.{place-few, levels-kept, beside-venue}
use Rattle.rules.proofs.Editions.{base-some}

-- zeros, with the first so many series open
unfoldable pub open_to : (series : ℕ) → List ℕ
open_to zero = replicate size 0
open_to (suc s) = set (open_to s) (3 * s + series_status_at) 1

pub open-length : (s : ℕ) → length (open_to s) ≡ size
unfolding open_to
open-length zero = refl
open-length (suc s) = length-set (open_to s) (3 * s + series_status_at) 1 ∙ open-length s

pub open-first : replicate 1393 0 ≡ open_to 0
unfolding open_to
open-first = refl

pub open_next : (b : List ℕ) (s : ℕ) → b ≡ open_to s → set b (3 * s + series_status_at) 1 ≡ open_to (s + 1)
unfolding open_to
open_next b s e = ap (λ (l : List ℕ). set l (3 * s + series_status_at) 1) e ∙ sym (ap open_to (add-one s))

-- what is kept beside the venue is zeros
zero-after : (s k : ℕ) → 3 * s + series_status_at ≤ k → get_or (open_to s) k 0 ≡ 0
unfolding open_to
zero-after zero k h = free-get_d 0 size k
zero-after (suc s) k h = get_or-set_other (open_to s) (3 * s + series_status_at) k 1 0 (λ e. omega arith) ∙ zero-after s k (omega arith)

-- no generations: nothing is past the mark
zeros-generations : (s : ℕ) → generations_in (open_to 8) s ≡ no_generations
unfolding generations_in upto
zeros-generations s = rw (upto-same (λ k. get_or (open_to 8) k 0) (λ _. 0) (20 * s + generation_messages_at) 20 (λ k p q. zero-after 8 k (omega arith))) refl

fresh-venue : venue_of (open_to 8) ≡ fresh_venue
unfolding open_to venue_of fresh_venue in_use upto regulars_used complexes_used legging_in listed_in edition_in
fresh-venue = venue-is (venue_of (open_to 8)) fresh_venue refl refl refl refl refl (upto-same (generations_in (open_to 8)) (λ _. no_generations) 0 8 (λ s p q. zeros-generations s)) refl
    (zero-after 8 id_reached_at (omega arith))

-- the levels of no orders are zeros, no place is known to be held, and no legging order stands
zeros-level : (n : ℕ) → level_in (open_to 8) n ≡ record { price = 0; size = 0 }
unfolding level_in
zeros-level n = rw (zero-after 8 (3 * n + level_price_at) (omega arith), zero-after 8 (3 * n + level_low_at) (omega arith), zero-after 8 (3 * n + level_high_at) (omega arith))

nobody-level : (s d : ℕ) → level_of s d fresh_venue.regular ≡ record { price = 0; size = 0 }
unfolding level_of best_in size_in shows_for shows_at shown_size fresh_venue
nobody-level s d = refl

nobody-stands : mask fresh_venue.legging ≡ 0
unfolding mask fresh_venue
nobody-stands = refl

fresh-orders : Orderly fresh_venue.regular
unfolding fresh_venue
fresh-orders = record {
  priced = λ i h. absurd (true≢false (sym h ∙ ap (λ (o : Regular). held o.quantity) (free-get_d no_regular 128 i)));
  displays = λ i h. absurd (true≢false (sym h ∙ ap (λ (o : Regular). held o.quantity) (free-get_d no_regular 128 i)));
  rises = λ i j w h k. absurd (true≢false (sym h ∙ ap (λ (o : Regular). held o.quantity) (free-get_d no_regular 128 i)));
}

fresh-fully : Fully fresh_venue.regular
unfolding fresh_venue shows_fully
fresh-fully i = ap shows_fully (free-get_d no_regular 128 i)

-- no edition is kept
fresh-figure : (f : ℕ) → figure_now fresh_venue f ≡ base_figure f
unfolding figure_now last_value sets fresh_venue
fresh-figure f = refl

none-used : (regulars_used (open_to 8) ≡ 0) × (complexes_used (open_to 8) ≡ 0)
unfolding regulars_used complexes_used open_to
none-used = (refl, refl)

-- with the figures of edition 0
module _ (b : List ℕ) (base : FiguresBase (open_to 8) b) where
  o : Outside figures_at regular_reserve_at (open_to 8) b
  o = record { same = base.others }

  venue : venue_of b ≡ fresh_venue
  venue = beside-venue o (omega arith) (inr (omega arith)) (inr (omega arith)) (omega arith) ∙ fresh-venue

  no-regular : regulars_used b ≡ 0
  no-regular = count_kept o (inl (omega arith)) ∙ none-used.0

  no-complex : complexes_used b ≡ 0
  no-complex = count-kept2 o (inl (omega arith)) ∙ none-used.1

  fresh-right : Right b
  fresh-right = record {
    levels = λ s d hs hd. levels-kept o (inl (omega arith)) (place_of s d) (place-few s d hs hd) ∙ zeros-level (place_of s d)
        ∙ sym (ap (λ (v : Venue). level_of s d v.regular) venue ∙ nobody-level s d);
    orders = subst (λ (v : Venue). Orderly v.regular) (sym venue) fresh-orders;
    marked = record {
      regulars = λ k h. absurd (omega (arith, no-regular));
      complexes = λ k h. absurd (omega (arith, no-complex));
      legging = o.same legging_mask_at (inl (omega arith)) ∙ zero-after 8 legging_mask_at (omega arith) ∙ sym (ap (λ (v : Venue). mask v.legging) venue ∙ nobody-stands);
      figures = record {
        so = λ f w. base.figures f w ∙ sym (ap (λ (v : Venue). figure_now v f) venue ∙ fresh-figure f);
        some = λ s w. rw (base.figures s (omega arith)) (base-some s);
      };
      shows = λ _. subst (λ (v : Venue). Fully v.regular) (sym venue) fresh-fully;
    };
  }

  fresh-held : Loaded fresh_venue b
  fresh-held = record {
    venue = venue;
    dense = record { regulars = λ k h. absurd (omega (arith, no-regular)); complexes = λ k h. absurd (omega (arith, no-complex)); right = fresh-right };
  }

pub fresh-loaded : (a b : List ℕ) (s : ℕ) → a ≡ open_to s → s ≡ 8 → FiguresBase a b → Loaded fresh_venue b
fresh-loaded a b s e h base =
    let z : a ≡ open_to 8 = e ∙ ap open_to h in
    fresh-held b (rw z at base)
