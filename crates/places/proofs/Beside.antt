-- What is kept beside the venue, levels, marks and mask: what a store leaves as it is, and what keeps it right.
use mathlib.Core.Path.{◌≡◌, refl, sym, ap, subst, ◌∙◌}
use mathlib.Core.Bool.{Bool, true, true≢false}
use mathlib.Core.Logic.{◌≢◌, ◌⊎◌, inl, inr}
use mathlib.Core.List.{List}
use Prim.Native.Nat.{ℕ, ◌+◌, ◌*◌, ◌%◌, ◌≤◌, ◌<◌, min}
use native.Mathlib.Omega.{arith}
use native.Mathlib.Decide.{dec_lt, ℕ_discrete}
use lib.Dec.{eqb}
use lib.ListN.{get_or}
use Rattle.rules.specs.Words.{place_of}
use Rattle.rules.specs.Places.{holds_regular, holds_complex}
use Rattle.rules.specs.Step.{mask}
use Rattle.rules.specs.Settings.{figure_now}
use Rattle.rules.proofs.Showing.{Showing}
use Rattle.places.specs.Layout.{regulars_used, complexes_used, regular_in, complex_in, venue_of, Filled, level_of, level_in}
use Rattle.places.specs.Layout.{none_shows_again, Fully, Marked, figure_in, Figured, Orderly, Right, SameCounts}
use Rattle.places.specs.Offsets.{complex_id_at, complex_next_at, legging_parent_at, series_status_at, regulars_used_at, complexes_used_at, level_price_at}
use Rattle.places.specs.Offsets.{level_low_at, level_high_at, level_next_at, regulars_known_at, complexes_known_at, legging_mask_at, edition_number_at}
use Rattle.places.specs.Offsets.{figures_at, regular_reserve_at, show_again_at, generation_messages_at}
use Rattle.places.proofs.Parts.{Outside, regulars-few, complexes-few, complex-kept, holds_kept, count_kept, count-kept2, regulars-kept}
use Rattle.places.proofs.Parts.{complexes-kept, leggings-kept, series-kept, editions-kept, generations-kept, last-kept, reached-kept, venue-is}

-- the places known to be held are
abbrev pub RegularsMarked : List ℕ → Type 0
RegularsMarked b = Filled holds_regular (regular_in b) (min (get_or b regulars_known_at 0) (regulars_used b))

abbrev pub ComplexesMarked : List ℕ → Type 0
ComplexesMarked b = Filled holds_complex (complex_in b) (min (get_or b complexes_known_at 0) (complexes_used b))

-- the mask is that of the legging places
abbrev pub LeggingMarked : List ℕ → Type 0
LeggingMarked b = get_or b legging_mask_at 0 ≡ mask (venue_of b).legging

-- without the show-again flag every order shows what it should
abbrev pub ShowsMarked : List ℕ → Type 0
ShowsMarked b = none_shows_again b ≡ true → Fully (venue_of b).regular

-- a mark that stays
pub none-shows-again-as : (a b : List ℕ) → get_or b show_again_at 0 ≡ get_or a show_again_at 0 → none_shows_again b ≡ true → none_shows_again a ≡ true
unfolding none_shows_again
none-shows-again-as a b e z = sym (ap (λ (x : ℕ). eqb x 0) e) ∙ z

pub shows-as : (a b : List ℕ) → get_or b show_again_at 0 ≡ get_or a show_again_at 0 → (venue_of b).regular ≡ (venue_of a).regular → ShowsMarked a → ShowsMarked b
shows-as a b e r h z = subst Fully (sym r) (h (none-shows-again-as a b e z))

-- a fill of an order with reserve sets the show-again flag
pub shows-not : (b : List ℕ) → get_or b show_again_at 0 ≡ 1 → ShowsMarked b
unfolding none_shows_again
shows-not b e z = absurd (true≢false (sym z ∙ ap (λ (x : ℕ). eqb x 0) e))

-- as those above have it
pub all-showing : (b : List ℕ) → Marked b → none_shows_again b ≡ true → Showing (venue_of b)
unfolding Showing
all-showing b m z = m.shows z

-- held places that stay
filled-as : {A : Type 0} (holds : A → Bool) (f g : ℕ → A) (m n : ℕ) → n ≤ m → ((k : ℕ) → k < n → holds (f k) ≡ holds (g k)) → Filled holds f m → Filled holds g n
filled-as holds f g m n h same full = λ k w. sym (same k w) ∙ full k (omega arith)

-- held places stay so where one is written anew, and holds
filled_at : {A : Type 0} (holds : A → Bool) (f g : ℕ → A) (i n : ℕ) → ((k : ℕ) → k ≢ i → holds (f k) ≡ holds (g k)) → holds (g i) ≡ true → Filled holds f n → Filled holds g n
filled_at holds f g i n same h full = λ k w. elim (ℕ_discrete k i) [
  | yes e ↦ ap (λ (x : ℕ). holds (g x)) e ∙ h
  | no q ↦ sym (same k q) ∙ full k w
]

level-fields : (a b : List ℕ) (n : ℕ) → get_or b (3 * n + level_price_at) 0 ≡ get_or a (3 * n + level_price_at) 0 → get_or b (3 * n + level_low_at) 0 ≡ get_or a (3 * n + level_low_at) 0 →
    get_or b (3 * n + level_high_at) 0 ≡ get_or a (3 * n + level_high_at) 0 → level_in b n ≡ level_in a n
unfolding level_in
level-fields a b n p q r = rw (p, q, r)

pub figure-same : (a b : List ℕ) (f : ℕ) → (venue_of b).editions ≡ (venue_of a).editions → figure_now (venue_of b) f ≡ figure_now (venue_of a) f
unfolding figure_now
figure-same a b f e = rw e

-- What a store does not reach -----------------------------------------------------------------

module _ {low high : ℕ} {a b : List ℕ} (o : Outside low high a b) where
  pub level-kept : (n : ℕ) → (3 * n + level_next_at ≤ low) ⊎ (high ≤ 3 * n + level_price_at) → level_in b n ≡ level_in a n
  level-kept n (inl h) = level-fields a b n (o.same (3 * n + level_price_at) (inl (omega arith))) (o.same (3 * n + level_low_at) (inl (omega arith))) (o.same (3 * n + level_high_at) (inl (omega arith)))
  level-kept n (inr h) = level-fields a b n (o.same (3 * n + level_price_at) (inr (omega arith))) (o.same (3 * n + level_low_at) (inr (omega arith))) (o.same (3 * n + level_high_at) (inr (omega arith)))

  pub levels-kept : (regulars_known_at ≤ low) ⊎ (high ≤ level_price_at) → (n : ℕ) → n < 16 → level_in b n ≡ level_in a n
  levels-kept (inl h) n w = level-kept n (inl (omega arith))
  levels-kept (inr h) n w = level-kept n (inr (omega arith))

  pub regulars-marked : complex_id_at ≤ low → (regulars_used_at < low) ⊎ (high ≤ regulars_used_at) → (regulars_known_at < low) ⊎ (high ≤ regulars_known_at) → RegularsMarked a → RegularsMarked b
  regulars-marked h p q =
      let e = count_kept o p in
      let f = o.same regulars_known_at q in
      let z = regulars-few a in
      filled-as holds_regular (regular_in a) (regular_in b) (min (get_or a regulars_known_at 0) (regulars_used a)) (min (get_or b regulars_known_at 0) (regulars_used b)) (omega arith)
      (λ k w. holds_kept o k (inl (omega arith)))

  pub complexes-marked : (high ≤ complex_id_at) ⊎ (legging_parent_at ≤ low) → (complexes_used_at < low) ⊎ (high ≤ complexes_used_at) →
      (complexes_known_at < low) ⊎ (high ≤ complexes_known_at) → ComplexesMarked a → ComplexesMarked b
  complexes-marked h p q =
      let e = count-kept2 o p in
      let f = o.same complexes_known_at q in
      let z = complexes-few a in
      filled-as holds_complex (complex_in a) (complex_in b) (min (get_or a complexes_known_at 0) (complexes_used a)) (min (get_or b complexes_known_at 0) (complexes_used b)) (omega arith)
      (λ k w. ap holds_complex (complex-kept o k (go k (omega arith) h)))
    where
      go : (k : ℕ) → k < 32 → (high ≤ complex_id_at) ⊎ (legging_parent_at ≤ low) → (6 * k + complex_next_at ≤ low) ⊎ (high ≤ 6 * k + complex_id_at)
      go k w (inl x) = inr (omega arith)
      go k w (inr x) = inl (omega arith)

  pub legging-marked : (high ≤ legging_parent_at) ⊎ (series_status_at ≤ low) → (legging_mask_at < low) ⊎ (high ≤ legging_mask_at) → LeggingMarked a → LeggingMarked b
  legging-marked h k e = o.same legging_mask_at k ∙ e ∙ ap mask (sym (leggings-kept o h))

  figure-kept : (f : ℕ) → f < 9 → (high ≤ edition_number_at) ⊎ (regular_reserve_at ≤ low) → figure_in b f ≡ figure_in a f
  unfolding figure_in
  figure-kept f w (inl h) = ap (λ (x : ℕ). x % 256) (o.same (2 * f + figures_at) (inr (omega arith)))
  figure-kept f w (inr h) = ap (λ (x : ℕ). x % 256) (o.same (2 * f + figures_at) (inl (omega arith)))

  -- the figures are of the editions alone
  pub figures-marked : (high ≤ edition_number_at) ⊎ (regular_reserve_at ≤ low) → Figured a → Figured b
  figures-marked h e = record {
    so = λ f w. figure-kept f w h ∙ e.so f w ∙ sym (figure-same a b f (editions-kept o (near h)));
    some = λ s w. rw (figure-kept s (omega arith) h) (e.some s w);
  }
    where
      near : (high ≤ edition_number_at) ⊎ (regular_reserve_at ≤ low) → (high ≤ edition_number_at) ⊎ (figures_at ≤ low)
      near (inl x) = inl x
      near (inr x) = inr (omega arith)

  pub shows-marked : complex_id_at ≤ low → high ≤ regular_reserve_at → (regulars_used_at < low) ⊎ (high ≤ regulars_used_at) → ShowsMarked a → ShowsMarked b
  shows-marked h r p = shows-as a b (o.same show_again_at (inr (omega arith))) (regulars-kept o h (inr r) p)

  -- what is kept beside the venue is no part of it
  pub beside-venue : level_price_at ≤ low → (high ≤ edition_number_at) ⊎ (figures_at ≤ low) → (show_again_at ≤ low) ⊎ (high ≤ regular_reserve_at) → high ≤ generation_messages_at → venue_of b ≡ venue_of a
  beside-venue h k r m =
      venue-is (venue_of b) (venue_of a)
      (regulars-kept o (omega arith) r (inl (omega arith)))
      (complexes-kept o (inr (omega arith)) (inl (omega arith)))
      (leggings-kept o (inr (omega arith)))
      (series-kept o (inr (omega arith)))
      (editions-kept o k)
      (generations-kept o (inl m))
      (last-kept o (inl (omega arith)))
      (reached-kept o (inr (omega arith)))

-- A mark that is lowered ----------------------------------------------------------------------

-- places from i on are not known to be held, and those before it stay
pub regulars-lowered : (a b : List ℕ) (i : ℕ) → i ≤ regulars_used a → get_or b regulars_known_at 0 ≡ min (get_or a regulars_known_at 0) i → ((k : ℕ) → k < i → regular_in a k ≡ regular_in b k) →
    RegularsMarked a → RegularsMarked b
regulars-lowered a b i h e same =
    filled-as holds_regular (regular_in a) (regular_in b) (min (get_or a regulars_known_at 0) (regulars_used a))
    (min (get_or b regulars_known_at 0) (regulars_used b)) (omega arith) (λ k w. ap holds_regular (same k (omega arith)))

pub complexes-lowered : (a b : List ℕ) (i : ℕ) → i ≤ complexes_used a → get_or b complexes_known_at 0 ≡ min (get_or a complexes_known_at 0) i → ((k : ℕ) → k < i → complex_in a k ≡ complex_in b k) →
    ComplexesMarked a → ComplexesMarked b
complexes-lowered a b i h e same =
    filled-as holds_complex (complex_in a) (complex_in b) (min (get_or a complexes_known_at 0) (complexes_used a))
    (min (get_or b complexes_known_at 0) (complexes_used b)) (omega arith) (λ k w. ap holds_complex (same k (omega arith)))

-- a place written anew, and held
pub regular-holds : (a b : List ℕ) (i : ℕ) → i < regulars_used a → Outside (4 * i) (4 * i + 4) a b → holds_regular (regular_in b i) ≡ true → RegularsMarked a → RegularsMarked b
regular-holds a b i h o held full =
    let z = regulars-few a in
    let e = count_kept o (inr (omega arith)) in
    let f = o.same regulars_known_at (inr (omega arith)) in
    filled-as holds_regular (regular_in b) (regular_in b) (min (get_or a regulars_known_at 0) (regulars_used a)) (min (get_or b regulars_known_at 0) (regulars_used b)) (omega arith) (λ k w. refl)
    (filled_at holds_regular (regular_in a) (regular_in b) i (min (get_or a regulars_known_at 0) (regulars_used a)) (λ k q. holds_kept o k (near k q)) held full)
  where
    near : (k : ℕ) → k ≢ i → (4 * k + 4 ≤ 4 * i) ⊎ (4 * i + 4 ≤ 4 * k)
    near k q = elim (dec_lt k i) [ yes p ↦ inl (omega arith) | no p ↦ inr (omega arith) ]

pub complex-holds : (a b : List ℕ) (i : ℕ) → i < complexes_used a → Outside (6 * i + complex_id_at) (6 * i + complex_next_at) a b → holds_complex (complex_in b i) ≡ true →
    ComplexesMarked a → ComplexesMarked b
complex-holds a b i h o held full =
    let z = complexes-few a in
    let e = count-kept2 o (inr (omega arith)) in
    let f = o.same complexes_known_at (inr (omega arith)) in
    filled-as holds_complex (complex_in b) (complex_in b) (min (get_or a complexes_known_at 0) (complexes_used a)) (min (get_or b complexes_known_at 0) (complexes_used b)) (omega arith) (λ k w. refl)
    (filled_at holds_complex (complex_in a) (complex_in b) i (min (get_or a complexes_known_at 0) (complexes_used a)) (λ k q. ap holds_complex (complex-kept o k (near k q))) held full)
  where
    near : (k : ℕ) → k ≢ i → (6 * k + complex_next_at ≤ 6 * i + complex_id_at) ⊎ (6 * i + complex_next_at ≤ 6 * k + complex_id_at)
    near k q = elim (dec_lt k i) [ yes p ↦ inl (omega arith) | no p ↦ inr (omega arith) ]

-- All that is kept ----------------------------------------------------------------------------

pub place-few : (s d : ℕ) → s < 8 → d < 2 → place_of s d < 16
unfolding place_of
place-few s d h k = omega arith

-- it stays right where the levels stay, those of the orders too, these are in order, and so does what is known of the places
pub right-on : (a b : List ℕ) → ((n : ℕ) → n < 16 → level_in b n ≡ level_in a n) →
    ((s d : ℕ) → level_of s d (venue_of b).regular ≡ level_of s d (venue_of a).regular) → (Orderly (venue_of a).regular → Orderly (venue_of b).regular) →
    (Marked a → Marked b) → Right a → Right b
right-on a b same best orders marks r = record {
  levels = λ s d h k. same (place_of s d) (place-few s d h k) ∙ r.levels s d h k ∙ sym (best s d);
  orders = orders r.orders;
  marked = marks r.marked;
}

pub right_kept : (a b : List ℕ) → ((n : ℕ) → n < 16 → level_in b n ≡ level_in a n) → (venue_of b).regular ≡ (venue_of a).regular → (Marked a → Marked b) → Right a → Right b
right_kept a b same e = right-on a b same (λ s d. ap (level_of s d) e) (subst Orderly (sym e))

-- as many places in use after two steps
pub counts-on : (a b c : List ℕ) → SameCounts a b → SameCounts b c → SameCounts a c
counts-on a b c p q = record { regulars = q.regulars ∙ p.regulars; complexes = q.complexes ∙ p.complexes; right = λ h. q.right (p.right h) }

-- a store into series or the last id
pub counts-kept : {low high : ℕ} {a b : List ℕ} → Outside low high a b → series_status_at ≤ low → high ≤ level_price_at → (complexes_used_at < low) ⊎ (high ≤ regulars_used_at) → SameCounts a b
counts-kept {low = low} {high = high} {a = a} {b = b} o l h w = record {
  regulars = count_kept o (one w);
  complexes = count-kept2 o (two w);
  right = right_kept a b (levels-kept o (inr h)) (regulars-kept o (omega arith) (inr (omega arith)) (one w)) (λ m. record {
    regulars = regulars-marked o (omega arith) (one w) (inr (omega arith)) m.regulars;
    complexes = complexes-marked o (inr (omega arith)) (two w) (inr (omega arith)) m.complexes;
    legging = legging-marked o (inr l) (inr (omega arith)) m.legging;
    figures = figures-marked o (inl (omega arith)) m.figures;
    shows = shows-marked o (omega arith) (omega arith) (one w) m.shows;
  });
}
  where
    one : (complexes_used_at < low) ⊎ (high ≤ regulars_used_at) → (regulars_used_at < low) ⊎ (high ≤ regulars_used_at)
    one (inl p) = inl (omega arith)
    one (inr p) = inr p

    two : (complexes_used_at < low) ⊎ (high ≤ regulars_used_at) → (complexes_used_at < low) ⊎ (high ≤ complexes_used_at)
    two (inl p) = inl p
    two (inr p) = inr (omega arith)
