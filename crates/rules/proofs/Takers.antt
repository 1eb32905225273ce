-- Who writes: whatever holds of the trades, pairs and crosses of one taker, and of removals, holds of all that is written when this taker is worked; whatever
-- holds of the 67 of one complex order, of all that its generation writes. And of orders at places one after another.
use mathlib.Core.Path.{refl, subst, sym}
use mathlib.Core.Bool.{◌&&◌}
use mathlib.Core.List.{List, Memᴰ, [], ◌∷◌}
use Prim.Native.Nat.{ℕ, zero, suc}
use lib.IntN.{ℤ}
use Rattle.rules.specs.declared.Cause.{Cause}
use Rattle.rules.specs.declared.Complex.{Complex}
use Rattle.rules.specs.declared.Legging.{Legging}
use Rattle.rules.specs.declared.Venue.{Venue}
use Rattle.rules.specs.declared.Verdict.{Verdict}
use Rattle.rules.specs.Base.{held}
use Rattle.rules.specs.Words.{complex_at, with_legging, with_regular}
use Rattle.rules.specs.Records.{ForAll, Report, crossed, generated, pair, removed, trade}
use Rattle.rules.specs.Effects.{Effect, Turn, ◌⟫◌, ended, nothing, repeat, report, turned}
use Rattle.rules.specs.Removal.{remove, remove_of}
use Rattle.rules.specs.Standing.{show_again}
use Rattle.rules.specs.Trading.{fill_regular, pair_off, trade_at_price, trade_with}
use Rattle.rules.specs.Generation.{generate, generate_leg, make, makes}
use Rattle.rules.specs.Complex.{any_closed, cross, cross_turn, each_of, leg_in, leg_in_turn, legs_in, touch, touches, units_in, work}
use Rattle.rules.proofs.ByPlace.{ByPlace, next, none, removed-by-place}
use Rattle.rules.proofs.Cases.{cross_turn-by, if-by, repeat-by, at-price-by}
use Rattle.rules.proofs.Filling.{fill-fewer_c}
use Rattle.rules.proofs.EffectsLaws.{Lasts, cross-from, keeps-crossing, keeps-leg_in, keeps-touch}
use Rattle.rules.proofs.Widths.{each_append}

-- P holds of the records of an effect
abbrev pub All : (P : Report → Type 0) → Effect → Type 0
All P e = ForAll P e.reports

-- P holds of what a taker writes: its trades, its pairs, and removals
pub record Takes (P : Report → Type 0) (taker : ℕ) : Type 0 where
  pub trades : (s d p k maker : ℕ) → P (trade s d p k taker maker)
  pub pairs : (n : ℤ) (k : ℕ) → P (pair taker n k)
  pub removals : (id s d : ℕ) (c : Cause) → P (removed id s d c)

-- and of its crosses
pub record Works (P : Report → Type 0) (taker : ℕ) : Type 0 where
  pub takes : Takes P taker
  pub crosses : (maker : ℕ) (n : ℤ) (k : ℕ) → P (crossed taker maker n k)

module _ (P : Report → Type 0) where
  pub told-then : (e : Effect) (f : Venue → Effect) → All P e → All P (f e.venue) → All P (e ⟫ f)
  unfolding ◌⟫◌
  told-then e f h k = each_append P e.reports (f e.venue).reports h k

  -- One after another, while I is kept

  -- of a turn
  abbrev pub Told : (I : Venue → Type 0) → Turn → Type 0
  Told I ended = Unit {0}
  Told I (turned e) = All P e × I e.venue

  pub told-repeat : (I : Venue → Type 0) (turn : Venue → Turn) → ((v : Venue) → I v → Told I (turn v)) → (fuel : ℕ) (v : Venue) → I v → All P (repeat fuel turn v)
  unfolding nothing
  told-repeat I turn ok zero v h = unfold repeat in tt
  told-repeat I turn ok (suc fuel) v h =
      repeat-by (All P) fuel turn v (λ _. tt) (λ e is. let t = subst (Told I) is (ok v h) in told-then e _ t.0 (told-repeat I turn ok fuel _ t.1))

  -- of the orders at some places
  pub told-each_of : (I : Venue → Type 0) (f : ℕ → Venue → Effect) (places : List ℕ) →
      ((i : ℕ) → Memᴰ i places → (v : Venue) → I v → All P (f i v) × I (f i v).venue) → (v : Venue) → I v → All P (each_of f places v)
  unfolding each_of nothing
  told-each_of I f [] ok v h = tt
  told-each_of I f (i ∷ places) ok v h =
      let t = ok i (Memᴰ.head refl) v h in
      told-then (f i v) _ t.0 (told-each_of I f places (λ j m. ok j (Memᴰ.tail m)) _ t.1)

  -- Removal
  module _ (gone : (id s d : ℕ) (c : Cause) → P (removed id s d c)) where
    removals-told : {n : ℕ} {rs : List Report} → ByPlace n rs → ForAll P rs
    removals-told none = tt
    removals-told (next m h p c r) = (gone _ _ _ c, removals-told r)

    pub told-remove : (f : ℕ → Legging → Verdict) (v : Venue) → All P (remove f v)
    told-remove f v = removals-told (removed-by-place f v)

    -- Generation, of the order at place i
    module _ (c : Complex) (made : (s d p shown k : ℕ) → P (generated c.id s d p shown k)) where
      told-make : (number s d : ℕ) (v : Venue) → All P (make number c s d v)
      unfolding make report
      told-make number s d v = told-then _ _ (told-remove _ v) (made _ _ _ _ _, tt)

      told-leg : (number s d : ℕ) (v : Venue) → All P (generate_leg number c s d v)
      unfolding generate_leg nothing
      told-leg number s d v = if-by (All P) (held c.quantity && makes number v c s d) (λ _. told-make number s d v) (λ _. tt)

    pub told-generate : (number i : ℕ) (v : Venue) → ((s d p shown k : ℕ) → P (generated (complex_at v i).id s d p shown k)) → All P (generate number i v)
    unfolding generate
    told-generate number i v made = told-then _ _ (told-leg (complex_at v i) made number _ _ v) (told-leg (complex_at v i) made number _ _ _)

  -- One taker
  module _ (taker : ℕ) (by : Takes P taker) where
    pub told-take : (s d p fuel k : ℕ) (v : Venue) → All P (trade_at_price fuel taker s d p k v)
    unfolding nothing trade_with report
    told-take s d p zero k v = unfold trade_at_price in tt
    told-take s d p (suc fuel) k v =
        at-price-by (All P) fuel taker s d p k v (λ _. tt) (λ _ _. tt) (λ _ i o _. told-then _ _ (by.trades _ d _ _ _, tt) (told-take s d p fuel _ _))

    pub told-pair : (i : ℕ) (n : ℤ) (k : ℕ) (v : Venue) → All P (pair_off i taker n k v)
    unfolding pair_off report remove_of
    told-pair i n k v = told-then _ _ (by.pairs n k, tt) (told-remove by.removals _ _)

  -- The complex order at place i: fills, removals and showing again leave its id
  module _ (Q : ℕ → Type 0) (i : ℕ) where
    abbrev Own : Venue → Type 0
    Own v = Q (complex_at v i).id

    own-lasts : Lasts Own
    unfolding fill_regular remove show_again with_regular with_legging complex_at
    own-lasts = record {
      fill_r = λ j k v h. h;
      fill_c = λ j k v h. subst Q (sym ((fill-fewer_c j k v).lesser i).id) h;
      gone = λ f v h. h;
      again = λ v h. h;
    }

  pub told-touch : (gone : (id s d : ℕ) (c : Cause) → P (removed id s d c)) (i : ℕ) (v : Venue) → All P (touch i v)
  unfolding touch nothing
  told-touch gone i v = if-by (All P) (touches v (complex_at v i)) (λ _. told-remove gone _ v) (λ _. tt)

  told-leg_in : (i a b k : ℕ) (v : Venue) → Takes P (complex_at v i).id → All P (leg_in i a b k v)
  unfolding leg_in
  told-leg_in i a b k v by = told-then _ _ (told-then _ _ (told-take _ by _ _ _ _ _ v) (told-take _ by _ _ _ _ _ _)) (told-pair _ by i _ k _)

  pub told-legging : (i fuel : ℕ) (v : Venue) → Takes P (complex_at v i).id → All P (repeat fuel (leg_in_turn i) v)
  told-legging i = told-repeat (Own (Takes P) i) (leg_in_turn i) turn
    where
      turn : (v : Venue) → Takes P (complex_at v i).id → Told (Own (Takes P) i) (leg_in_turn i v)
      turn v by = unfold leg_in_turn in (if-by (Told (Own (Takes P) i)) (legs_in v (complex_at v i) _ _ && held (units_in v (complex_at v i)))
          (λ _. (told-leg_in i _ _ _ v by, keeps-leg_in (own-lasts (Takes P) i) i _ _ _ v by)) (λ _. tt))

  told-cross : (i j k : ℕ) (v : Venue) → Works P (complex_at v i).id → All P (cross i j k v)
  unfolding cross report remove_of
  told-cross i j k v by =
      told-then _ _ (told-then _ _ (by.crosses _ _ k, tt) (told-remove by.takes.removals _ _)) (told-remove by.takes.removals _ _)

  told-crossing : (i fuel : ℕ) (v : Venue) → Works P (complex_at v i).id → All P (repeat fuel (cross_turn i) v)
  told-crossing i = told-repeat (Own (Works P) i) (cross_turn i) turn
    where
      turn : (v : Venue) → Works P (complex_at v i).id → Told (Own (Works P) i) (cross_turn i v)
      turn v by = cross_turn-by (Told (Own (Works P) i)) i v (λ _. tt) (λ _ _. tt)
          (λ _ j m _. (told-cross i j _ v by, cross-from (own-lasts (Works P) i) i j _ v ((own-lasts (Works P) i).fill_c i _ v by)))

  -- after its crosses and its touch it is still the same order
  still-own : (i n : ℕ) (v : Venue) → Works P (complex_at v i).id → Works P (complex_at (repeat n (cross_turn i) v ⟫ touch i).venue i).id
  unfolding ◌⟫◌
  still-own i n v by = let own = own-lasts (Works P) i in keeps-touch own i _ (keeps-crossing own i n v by)

  pub told-work : (i : ℕ) (v : Venue) → Works P (complex_at v i).id → All P (work i v)
  unfolding work nothing
  told-work i v by =
      let n = (complex_at v i).quantity in
      if-by (All P) (any_closed v (complex_at v i)) (λ _. tt)
      (λ _. told-then _ _ (told-then _ _ (told-crossing i n v by) (told-touch by.takes.removals i _)) (told-legging i n _ (still-own i n v by).takes))
