-- The trades of an order that arrives, at one price: shown size by id, then reserve by id, then the legging order. From turn to turn, all that is left at that
-- price comes after what was traded.
use Rattle.std.specs.Prelude.{if◌then◌else◌}
use mathlib.Core.Path.{◌∙◌, ◌≡◌, ap, refl, subst, sym}
use mathlib.Core.Bool.{Bool, false, not, true, true≢false}
use mathlib.Core.Logic.{◌≢◌}
use mathlib.Core.List.{List, [], ◌++◌, ◌∷◌, append_assoc, append-nil}
use Prim.Native.Nat.{◌-◌, ◌<◌, ◌≤◌, min, suc, zero, ℕ}
use native.Mathlib.Decide.{dec_le, ℕ_discrete}
use native.Mathlib.Omega.{arith}
use lib.Dec.{eqb}
use lib.IntN.{ℤ}
use lib.ListN.{get_or}
use lib.Seq.{get_or-set_other}
use borrow.Author.Tests.{eq-eqb, eqb-true, ne_eqb}
use Rattle.rules.specs.declared.Cause.TheVariants.{Executed}
use Rattle.rules.specs.declared.Cause.{Cause}
use Rattle.rules.specs.declared.Complex.{Complex}
use Rattle.rules.specs.declared.Legging.{Legging}
use Rattle.rules.specs.declared.Message.{Message}
use Rattle.rules.specs.declared.Message.TheVariants.{Order}
use Rattle.rules.specs.declared.Regular.{Regular}
use Rattle.rules.specs.declared.Venue.{Venue}
use Rattle.rules.specs.Base.{Choice, first, held, nobody, picked}
use Rattle.rules.specs.Words.{legging_at, no_regular, opposite, place_of, regular_at, with_last, with_regular}
use Rattle.rules.specs.Messages.{message_of}
use Rattle.rules.specs.Records.{Report, pair, trade}
use Rattle.rules.specs.Effects.{Effect, Turn, ◌⟫◌, ended, nothing, repeat, report, turned}
use Rattle.rules.specs.Prices.{better, own_price, reaches, rests_at, shown_size}
use Rattle.rules.specs.Removal.{remove_of}
use Rattle.rules.specs.Standing.{other_clear, other_leg, parent_of}
use Rattle.rules.specs.Trading.{fill_regular, free_regular, less_regular, put_regular, trade_at_price, trade_with}
use Rattle.rules.specs.Order.{at_once, enter_regular, first_met, hit, is_met, legging_first, meet, meet_turn, order, price_then_id}
use Rattle.rules.specs.Refusals.{refusal}
use Rattle.rules.specs.Step.{accept, answered, perform, step}
use Rattle.demands.specs.Soundness.{SoundVenue}
use Rattle.demands.specs.Reserve.{Fill, InOrder, MakersInOrder, SizeKind, at_legging, at_reserve, at_shown, fill_of, fills_of, no_more, of_legging, of_reserve, of_shown, then_legging, then_reserve}
use Rattle.rules.proofs.Better.{better-irrefl}
use Rattle.rules.proofs.ByPlace.{ByPlace, next, none, removed-by-place, settled-by-place}
use Rattle.rules.proofs.Cases.{if-by, repeat-by}
use Rattle.rules.proofs.Filling.{Fewer, FewerC, cx, fewer-refl, fewer-trans, fewer_c-refl, fewer_c-trans, fill-fewer, filled-other, filled-same, held_fits, lg, reg, still-held, still-held_c}
use Rattle.rules.proofs.Hitting.{hit-is, hit-venue, hitting}
use Rattle.rules.proofs.Meeting.{MetFirst, legging-alone, met-first}
use Rattle.rules.proofs.Owning.{first-held, own_is}
use Rattle.rules.proofs.Pairing.{pair-regular}
use Rattle.rules.proofs.Picking.{At, Chosen, first-chosen}
use Rattle.rules.proofs.RefusalsLaws.{Passed, accepted}
use Rattle.rules.proofs.Sizes.{once-left, once-shown, rests-held, rests-series, rests-side, shown-lessens, shown_rest}
use Rattle.rules.proofs.TradingLaws.{Chain, chain-fewer, chain-place, no-more, at-price-chain, traded}
use Rattle.rules.proofs.Tests.{and-false, and_in, and_l, and_r, free-none, held-pos}
use Rattle.demands.proofs.Admitting.{Joins, at_i, order-admitted, order-ready, with_order}
use Rattle.demands.proofs.ComplexCarries.{Carries, TurnOk, fine-after, opposite-not}
use Rattle.demands.proofs.OrderCarries.{Ready, emptied, legging-is, meet_turn-ok}
use Rattle.demands.proofs.Homes.{Fine, Invariant, good-rr, home-held, parent-found}
use Rattle.demands.proofs.Messages.{order-joins}
use Rattle.demands.proofs.SoundnessLaws.{sound-out}

-- Trades among records ------------------------------------------------------------------------

module _ (x p : ℕ) where
  fills-append : (a b : List Report) → fills_of x p (a ++ b) ≡ fills_of x p a ++ fills_of x p b
  unfolding fills_of
  fills-append [] b = refl
  fills-append (r ∷ a) b = rw (fills-append a b) (sym (append_assoc (fill_of x p r) (fills_of x p a) (fills_of x p b)))

  one-fill : (s d price q z m : ℕ) → z ≡ x → price ≡ p → fill_of x p (trade s d price q z m) ≡ record { maker = m; quantity = q } ∷ []
  unfolding fill_of
  one-fill s d price q z m a b = rw (eq-eqb z x a, eq-eqb price p b)

  other-price : (s d price q z m : ℕ) → price ≢ p → fill_of x p (trade s d price q z m) ≡ []
  unfolding fill_of
  other-price s d price q z m ne = rw (ne_eqb price p ne, and-false)

  other-taker : (s d price q z m : ℕ) → z ≢ x → fill_of x p (trade s d price q z m) ≡ []
  unfolding fill_of
  other-taker s d price q z m ne = rw (ne_eqb z x ne)

  alone-fills : (r : Report) → fills_of x p (r ∷ []) ≡ fill_of x p r
  unfolding fills_of
  alone-fills r = append-nil (fill_of x p r)

  chain-none : {z t d price : ℕ} {v w : Venue} {rs : List Report} → z ≢ x → Chain z t d price v rs w → fills_of x p rs ≡ []
  unfolding fills_of
  chain-none ne no-more = refl
  chain-none {z = z} {d = d} ne (traded {v = v} i q f sh e le c) =
      rw (other-taker (regular_at v i).series d (regular_at v i).price q z (regular_at v i).id ne, chain-none ne c)

  removals-none : {n : ℕ} {rs : List Report} → ByPlace n rs → fills_of x p rs ≡ []
  unfolding fills_of fill_of
  removals-none none = refl
  removals-none (next m h q c r) = removals-none r

  removes-none : (id : ℕ) (c : Cause) (v : Venue) → fills_of x p (remove_of id c v).reports ≡ []
  unfolding remove_of
  removes-none id c v = removals-none (removed-by-place _ v)

  pair-none : (id : ℕ) (n : ℤ) (k : ℕ) (qs : List Report) → fills_of x p qs ≡ [] → fills_of x p (pair id n k ∷ qs) ≡ []
  unfolding fills_of fill_of
  pair-none id n k qs b = b

  -- the records of a hit: its trade, those of the other leg, the 66, and the removals
  hit-fills : (r : Report) (id : ℕ) (n : ℤ) (k : ℕ) (rs qs : List Report) → fills_of x p rs ≡ [] → fills_of x p qs ≡ [] →
      fills_of x p (r ∷ (rs ++ (pair id n k ∷ qs))) ≡ fill_of x p r
  unfolding fills_of
  hit-fills r id n k rs qs a b =
      ap (λ (l : List Fill). fill_of x p r ++ l) (fills-append rs (pair id n k ∷ qs) ∙ ap (λ (l : List Fill). l ++ fills_of x p (pair id n k ∷ qs)) a ∙ pair-none id n k qs b)
      ∙ append-nil (fill_of x p r)

-- What is left --------------------------------------------------------------------------------

rests-in : (s e : ℕ) (o : Regular) → held o.quantity ≡ true → o.series ≡ s → o.side ≡ e → rests_at s e o ≡ true
unfolding rests_at
rests-in s e o h a b = rw (h, eq-eqb o.series s a, eq-eqb o.side e b)

-- no more reserve, and no more shown, than at first
record Less (a o : Regular) : Type 0 where
  reserve : a.reserve ≤ o.reserve
  shows : shown_size a ≤ shown_size o

less-refl : (o : Regular) → Less o o
less-refl o = record { reserve = omega arith; shows = omega arith }

less-fill : (k : ℕ) (a o : Regular) → Less a o → Less (less_regular k a) o
unfolding less_regular
less-fill k a o l = let r = l.reserve in let h = l.shows in let z = shown-lessens k a in record { reserve = omega arith; shows = unfold less_regular in (omega arith) }

-- u is the venue v with the order x in its place i
record Enters (x i s d : ℕ) (v u : Venue) : Type 0 where
  own : (reg u i).id ≡ x
  fine : Fine u
  ready : Ready i s d u
  -- x is no complex order's id
  alone : (n : ℕ) → held (cx u n).quantity ≡ true → (cx u n).id ≢ x
  others : (n : ℕ) → n ≢ i → reg u n ≡ reg v n
  legging : lg u (place_of s (opposite d)) ≡ lg v (place_of s (opposite d))

-- what is left of one order comes after what was traded, by stage and id
abbrev Ahead : SizeKind → (low : ℕ) → Regular → Type 0
Ahead at_shown low o = held (shown_size o) ≡ true → low ≤ o.id
Ahead at_reserve low o = (held (shown_size o) ≡ false) × (low ≤ o.id)
Ahead at_legging low o = ⊥

module _ {x i s d : ℕ} {v u : Venue} (b : Enters x i s d v u) (p : ℕ) where
  abbrev e : ℕ
  e = opposite d

  abbrev place : ℕ
  place = place_of s e

  -- after some turns
  record Later (w : Venue) : Type 0 where
    fine : Fine w
    ready : Ready i s d w
    regular : Fewer w.regular u.regular
    complex : FewerC w.complex u.complex
    sizes : (n : ℕ) → n ≢ i → (reg w n).series ≡ s → Less (reg w n) (reg u n)
    legging : held (lg w place).quantity ≡ true → lg w place ≡ lg u place

  -- what rests at the price is ahead, unless the order is filled
  data Left (w : Venue) (t : SizeKind) (low : ℕ) : Type 0 where
    done : held (reg w i).quantity ≡ false → Left w t low
    on : ((n : ℕ) → rests_at s e (reg w n) ≡ true → (reg w n).price ≡ p → Ahead t low (reg w n)) → Left w t low

  -- nothing at all is left there
  record Quiet (w : Venue) : Type 0 where
    regular : (n : ℕ) → rests_at s e (reg w n) ≡ true → (reg w n).price ≢ p
    legging : held (lg w place).quantity ≡ true → ⊥

  -- what a turn traded there, and what is left then
  data Step (w : Venue) (t : SizeKind) (low : ℕ) : List Fill → Type 0 where
    silent : Left w t low → Step w t low []
    filled : {f : Fill} (t' : SizeKind) (low' : ℕ) → ((rest : List Fill) → InOrder v s e p t' low' rest → InOrder v s e p t low (f ∷ rest)) → Left w t' low' → Step w t low (f ∷ [])
    last : {f : Fill} → InOrder v s e p t low (f ∷ []) → Quiet w → Step w t low (f ∷ [])

  module _ (w : Venue) (t : Later w) where
    own-id : (reg w i).id ≡ x
    own-id = (t.regular.lesser i).id ∙ b.own

    not-x : (n : ℕ) → held (cx w n).quantity ≡ true → (cx w n).id ≢ x
    not-x n h z = b.alone n (still-held_c (t.complex.lesser n) h) (sym (t.complex.lesser n).id ∙ z)

    apart : (n : ℕ) → rests_at s e (reg w n) ≡ true → n ≢ i
    apart n h z = opposite-not d (sym t.ready.side ∙ ap (λ (q : ℕ). (reg w q).side) (sym z) ∙ rests-side s e (reg w n) h)

    -- it stood there at first
    module _ (n : ℕ) (h : rests_at s e (reg w n) ≡ true) where
      was : reg u n ≡ reg v n
      was = b.others n (apart n h)

      rested : rests_at s e (regular_at v n) ≡ true
      unfolding regular_at
      rested =
          subst (λ (o : Regular). rests_at s e o ≡ true) was
          (rests-in s e (reg u n) (still-held (t.regular.lesser n) (rests-held s e (reg w n) h)) (sym (t.regular.lesser n).series ∙ rests-series s e (reg w n) h)
          (sym (t.regular.lesser n).side ∙ rests-side s e (reg w n) h))

      same_id : (regular_at v n).id ≡ (reg w n).id
      unfolding regular_at
      same_id = sym ((t.regular.lesser n).id ∙ ap (λ (o : Regular). o.id) was)

      same-price : (regular_at v n).price ≡ (reg w n).price
      unfolding regular_at
      same-price = sym ((t.regular.lesser n).price ∙ ap (λ (o : Regular). o.price) was)

      fewer-shown : shown_size (reg w n) ≤ shown_size (regular_at v n)
      unfolding regular_at
      fewer-shown = subst (λ (o : Regular). shown_size (reg w n) ≤ shown_size o) was (t.sizes n (apart n h) (rests-series s e (reg w n) h)).shows

      fewer-reserve : (reg w n).reserve ≤ (regular_at v n).reserve
      unfolding regular_at
      fewer-reserve = subst (λ (o : Regular). (reg w n).reserve ≤ o.reserve) was (t.sizes n (apart n h) (rests-series s e (reg w n) h)).reserve

    -- A regular order is met
    module _ (hi : held (reg w i).quantity ≡ true) (n : ℕ) (o : Regular) (a : At no_regular (is_met (reg w i).series (reg w i).side (reg w i).price) w.regular n o)
        (picks : first (is_met (reg w i).series (reg w i).side (reg w i).price) price_then_id w.regular ≡ picked n o) where
      rests : rests_at s e (reg w n) ≡ true
      unfolding is_met
      rests =
          subst (λ (q : ℕ). rests_at s (opposite q) (reg w n) ≡ true) t.ready.side
          (subst (λ (q : ℕ). rests_at q (opposite (reg w i).side) (reg w n) ≡ true) t.ready.series (rw a.at (and_l _ _ a.is)))

      abbrev size : ℕ
      size = min (reg w i).quantity (at_once o)

      abbrev after : Venue
      after = fill_regular n size (fill_regular i size w)

      n≠i : n ≢ i
      n≠i = apart n rests

      hn : held (reg w n).quantity ≡ true
      hn = rests-held s e (reg w n) rests

      same-n : reg (fill_regular i size w) n ≡ reg w n
      same-n = filled-other i size w n n≠i

      fills : fills_of x p (meet i n size w).reports ≡ fill_of x p (trade (reg w n).series (reg w i).side (reg w n).price size (reg w i).id (reg w n).id)
      unfolding meet trade_with report regular_at
      fills = rw same-n (alone-fills x p _)

      left : (meet i n size w).venue ≡ after
      unfolding meet trade_with report
      left = refl

      fewer : Fewer after.regular w.regular
      fewer = fewer-trans (fill-fewer n size (fill_regular i size w)) (fill-fewer i size w)

      left-i : (reg after i).quantity ≡ (reg w i).quantity - size
      unfolding less_regular
      left-i = ap (λ (r : Regular). r.quantity) (filled-other n size (fill_regular i size w) i (λ z. n≠i (sym z)) ∙ filled-same i size w (held_fits w.regular i hi))

      at_n : reg after n ≡ less_regular size (reg w n)
      at_n =
          filled-same n size (fill_regular i size w) (subst (λ (q : ℕ). n < q) (sym (fill-fewer i size w).same) (held_fits w.regular n hn))
          ∙ ap (less_regular size) same-n

      other : (m : ℕ) → m ≢ n → m ≢ i → reg after m ≡ reg w m
      other m y z = filled-other n size (fill_regular i size w) m y ∙ filled-other i size w m z

      sizes-after : (m : ℕ) → m ≢ i → (reg after m).series ≡ s → Less (reg after m) (reg u m)
      sizes-after m ne h = go (ℕ_discrete m n)
        where
          before : Less (reg w m) (reg u m)
          before = t.sizes m ne (sym (fewer.lesser m).series ∙ h)

          go : Dec (m ≡ n) → Less (reg after m) (reg u m)
          go (yes z) = subst (λ (r : Regular). Less r (reg u m))
              (sym (ap (λ (q : ℕ). reg after q) z ∙ at_n ∙ ap (λ (q : ℕ). less_regular size (reg w q)) (sym z)))
              (less-fill size (reg w m) (reg u m) before)
          go (no z) = subst (λ (r : Regular). Less r (reg u m)) (sym (other m z ne)) before

      legging-after : lg after place ≡ lg w place
      unfolding fill_regular with_regular
      legging-after = refl

      -- what rests there after it, rested there before
      rests-before : (m : ℕ) → rests_at s e (reg after m) ≡ true → rests_at s e (reg w m) ≡ true
      rests-before m h =
          rests-in s e (reg w m) (still-held (fewer.lesser m) (rests-held s e (reg after m) h)) (sym (fewer.lesser m).series ∙ rests-series s e (reg after m) h)
          (sym (fewer.lesser m).side ∙ rests-side s e (reg after m) h)

      -- another that rests there is as it was
      stays : (m : ℕ) → rests_at s e (reg after m) ≡ true → m ≢ n → reg after m ≡ reg w m
      stays m h ne = other m ne (apart m (rests-before m h))

      -- It was picked
      abbrev chosen : MetFirst (reg w i).series (reg w i).side (reg w i).price w.regular o
      chosen = met-first (reg w i).series (reg w i).side (reg w i).price w.regular n o picks

      is-met : (m : ℕ) → rests_at s e (reg w m) ≡ true → (reg w m).price ≡ o.price → is_met (reg w i).series (reg w i).side (reg w i).price (reg w m) ≡ true
      unfolding is_met
      is-met m h q =
          and_in _ _
          (subst (λ (y : ℕ). rests_at y (opposite (reg w i).side) (reg w m) ≡ true) (sym t.ready.series) (subst (λ (y : ℕ). rests_at s (opposite y) (reg w m) ≡ true) (sym t.ready.side) h))
          (subst (λ (y : ℕ). reaches (reg w i).side (reg w i).price y ≡ true) (sym q) (and_r (rests_at (reg w i).series (opposite (reg w i).side) o) _ a.is))

      price-o : (reg w n).price ≡ o.price
      price-o = ap (λ (r : Regular). r.price) a.at

      -- of those beside it that show as it does none is earlier
      later-id : (m : ℕ) → rests_at s e (reg w m) ≡ true → (reg w m).price ≡ (reg w n).price → m ≢ n → held (shown_size (reg w m)) ≡ held (shown_size (reg w n)) → suc (reg w n).id ≤ (reg w m).id
      later-id m h q ne z =
          let y = chosen.early m (is-met m h (q ∙ price-o)) (q ∙ price-o) (z ∙ ap (λ (r : Regular). held (shown_size r)) a.at) in
          let k = ap (λ (r : Regular). r.id) a.at in
          go (ℕ_discrete (reg w n).id (reg w m).id) (omega arith)
        where
          go : Dec ((reg w n).id ≡ (reg w m).id) → (reg w n).id ≤ (reg w m).id → suc (reg w n).id ≤ (reg w m).id
          go (yes k) le = absurd (ne (good-rr t.fine.good m n (rests-held s e (reg w m) h) hn (sym k)))
          go (no k) le = omega arith

      -- where it shows none, none beside it does
      none-shows : held (shown_size (reg w n)) ≡ false → (m : ℕ) → rests_at s e (reg w m) ≡ true → (reg w m).price ≡ (reg w n).price → held (shown_size (reg w m)) ≡ false
      none-shows z m h q = chosen.shows m (is-met m h (q ∙ price-o)) (q ∙ price-o) (sym (ap (λ (r : Regular). held (shown_size r)) a.at) ∙ z)

      once_is : at_once o ≡ at_once (reg w n)
      once_is = ap at_once (sym a.at)

      -- At another price
      elsewhere : (reg w n).price ≢ p → (kind : SizeKind) (low : ℕ) → Left w kind low → Step after kind low []
      elsewhere ne kind low (done z) = absurd (true≢false (sym hi ∙ z))
      elsewhere ne kind low (on g) = silent (on (λ m h q.
          let y = stays m h (λ k. ne (sym (ap (λ (r : ℕ). (reg w r).price) k) ∙ sym (fewer.lesser m).price ∙ q)) in
          subst (Ahead kind low) (sym y) (g m (rests-before m h) (sym (fewer.lesser m).price ∙ q))))

      -- At the price
      module _ (here : (reg w n).price ≡ p) where
        beside : (m : ℕ) → (reg after m).price ≡ p → (reg w m).price ≡ (reg w n).price
        beside m q = sym (fewer.lesser m).price ∙ q ∙ sym here

        abbrev fill : Fill
        fill = record { maker = (regular_at v n).id; quantity = size }

        -- of what it shows
        module _ (shows : held (shown_size (reg w n)) ≡ true) where
          once : at_once o ≡ shown_size (reg w n)
          once = once_is ∙ once-shown (reg w n) shows

          left-shown : Left after at_shown (suc (regular_at v n).id)
          left-shown = go (dec_le (shown_size (reg w n)) (reg w i).quantity)
            where
              go : Dec (shown_size (reg w n) ≤ (reg w i).quantity) → Left after at_shown (suc (regular_at v n).id)
              go (yes le) = on (λ m h q. subst (λ (y : ℕ). held (shown_size (reg after m)) ≡ true → suc y ≤ (reg after m).id) (sym (same_id n rests)) (of m h q (ℕ_discrete m n)))
                where
                  of : (m : ℕ) → rests_at s e (reg after m) ≡ true → (reg after m).price ≡ p → Dec (m ≡ n) → held (shown_size (reg after m)) ≡ true → suc (reg w n).id ≤ (reg after m).id
                  of m h q (yes z) sh =
                      let y = held-pos (shown_size (reg after m)) sh in
                      let k = ap (λ (r : ℕ). shown_size (reg after r)) z ∙ ap shown_size at_n ∙ shown-lessens size (reg w n) in
                      absurd (let c = once in omega arith)
                  of m h q (no z) sh =
                      let y = stays m h z in
                      subst (λ (r : Regular). suc (reg w n).id ≤ r.id) (sym y)
                      (later-id m (rests-before m h) (beside m q) z (sym (ap (λ (r : Regular). held (shown_size r)) y) ∙ sh ∙ sym shows))
              go (no gt) = done (let y = left-i in let c = once in let z : (reg after i).quantity ≡ 0 = omega arith in ap held z)

          at-shown : (kind : SizeKind) (low : ℕ) → Left w kind low → Step after kind low (fill ∷ [])
          at-shown kind low (done z) = absurd (true≢false (sym hi ∙ z))
          at-shown at_shown low (on g) =
              filled at_shown (suc (regular_at v n).id)
              (λ rest r. of_shown n size (rested n rests) (same-price n rests ∙ here) (subst (λ (y : ℕ). low ≤ y) (sym (same_id n rests)) (g n rests here shows))
              (let c = once in let y = fewer-shown n rests in omega arith) r)
              left-shown
          at-shown at_reserve low (on g) = absurd (true≢false (sym shows ∙ (g n rests here).0))
          at-shown at_legging low (on g) = absurd (g n rests here)

        -- of its reserve
        module _ (shows : held (shown_size (reg w n)) ≡ false) where
          once-all : at_once o ≡ (reg w n).quantity
          once-all = once_is ∙ once-left (reg w n) shows

          left-reserve : Left after at_reserve (suc (regular_at v n).id)
          left-reserve = go (dec_le (reg w n).quantity (reg w i).quantity)
            where
              go : Dec ((reg w n).quantity ≤ (reg w i).quantity) → Left after at_reserve (suc (regular_at v n).id)
              go (yes le) = on (λ m h q. subst (λ (y : ℕ). (held (shown_size (reg after m)) ≡ false) × (suc y ≤ (reg after m).id)) (sym (same_id n rests)) (of m h q (ℕ_discrete m n)))
                where
                  of : (m : ℕ) → rests_at s e (reg after m) ≡ true → (reg after m).price ≡ p → Dec (m ≡ n) → (held (shown_size (reg after m)) ≡ false) × (suc (reg w n).id ≤ (reg after m).id)
                  of m h q (yes z) =
                      let y = held-pos (reg after m).quantity (rests-held s e (reg after m) h) in
                      let k : (reg after m).quantity ≡ (reg w n).quantity - size = ap (λ (r : ℕ). (reg after r).quantity) z ∙ (unfold less_regular in (ap (λ (r : Regular). r.quantity) at_n)) in
                      absurd (let c = once-all in omega arith)
                  of m h q (no z) =
                      let y = stays m h z in
                      let not-shown = none-shows shows m (rests-before m h) (beside m q) in
                      subst (λ (r : Regular). (held (shown_size r) ≡ false) × (suc (reg w n).id ≤ r.id)) (sym y)
                      (not-shown, later-id m (rests-before m h) (beside m q) z (not-shown ∙ sym shows))
              go (no gt) = done (let y = left-i in let c = once-all in let z : (reg after i).quantity ≡ 0 = omega arith in ap held z)

          few-reserve : size ≤ (regular_at v n).reserve
          few-reserve =
              let c = once-all in
              let y = fewer-reserve n rests in
              let k = shown_rest (reg w n) in
              let z = free-none (shown_size (reg w n)) shows in
              omega arith

          at-reserve : (kind : SizeKind) (low : ℕ) → Left w kind low → Step after kind low (fill ∷ [])
          at-reserve kind low (done z) = absurd (true≢false (sym hi ∙ z))
          at-reserve at_shown low (on g) =
              filled at_reserve (suc (regular_at v n).id)
              (λ rest r. then_reserve (of_reserve {low = 0} n size (rested n rests) (same-price n rests ∙ here) (omega arith) few-reserve r)) left-reserve
          at-reserve at_reserve low (on g) =
              filled at_reserve (suc (regular_at v n).id)
              (λ rest r. of_reserve n size (rested n rests) (same-price n rests ∙ here) (subst (λ (y : ℕ). low ≤ y) (sym (same_id n rests)) (g n rests here).1) few-reserve r) left-reserve
          at-reserve at_legging low (on g) = absurd (g n rests here)

        at-price : (kind : SizeKind) (low : ℕ) → Left w kind low → Step after kind low (fill ∷ [])
        at-price kind low l = go (held (shown_size (reg w n))) refl
          where
            go : (y : Bool) → held (shown_size (reg w n)) ≡ y → Step after kind low (fill ∷ [])
            go true z = at-shown z kind low l
            go false z = at-reserve z kind low l

      meets : (kind : SizeKind) (low : ℕ) → Left w kind low → Step (meet i n size w).venue kind low (fills_of x p (meet i n size w).reports)
      meets kind low l =
          subst (λ (y : Venue). Step y kind low (fills_of x p (meet i n size w).reports)) (sym left)
          (subst (Step after kind low) (sym fills) (go (ℕ_discrete (reg w n).price p)))
        where
          go : Dec ((reg w n).price ≡ p) → Step after kind low (fill_of x p (trade (reg w n).series (reg w i).side (reg w n).price size (reg w i).id (reg w n).id))
          go (yes z) =
              subst (Step after kind low) (sym (one-fill x p _ _ _ size _ _ own-id z))
              (subst (λ (m : ℕ). Step after kind low (record { maker = m; quantity = size } ∷ [])) (same_id n rests) (at-price z kind low l))
          go (no z) = subst (Step after kind low) (sym (other-price x p _ _ _ size _ _ z)) (elsewhere z kind low l)

    -- The legging order is hit
    module _ (hi : held (reg w i).quantity ≡ true) (hl : held (lg w place).quantity ≡ true) where
      abbrev l : Legging
      l = lg w place

      abbrev k : ℕ
      k = min (reg w i).quantity l.quantity

      abbrev c : Complex
      c = parent_of w l

      abbrev f : Fine w
      f = t.fine

      parent_is : c ≡ cx w (f.homes.home place hl).at
      parent_is = parent-found w f place hl

      not-taker : c.id ≢ x
      not-taker z = not-x _ (home-held w f place hl) (sym (ap (λ (q : Complex). q.id) parent_is) ∙ z)

      -- its other leg is in another series
      other-leg : (reg w i).series ≢ (other_leg c (reg w i).series).series
      other-leg = subst (λ (q : ℕ). q ≢ (other_leg c q).series) (sym t.ready.series) (t.ready.pays hl).apart

      hit-fill : fills_of x p (hit i l k w).reports ≡ fill_of x p (trade (reg w i).series (reg w i).side l.price k (reg w i).id c.id)
      hit-fill =
          ap (fills_of x p) (hit-is w i k l other-leg)
          ∙ hit-fills x p _ _ _ _ _ _ (chain-none x p not-taker (at-price-chain c.id _ _ _ k k w)) (removes-none x p c.id Executed w)

      abbrev other-series : ℕ
      other-series = (other_leg c (reg w i).series).series

      abbrev other-side : ℕ
      other-side = (other_leg c (reg w i).series).side

      abbrev clear : ℕ
      clear = other_clear w c (reg w i).series

      chain : Chain c.id other-series other-side clear (fill_regular i k w) (trade_at_price k c.id other-series other-side clear k (fill_regular i k w)).reports (hitting w i k l)
      chain = at-price-chain c.id other-series other-side clear k k (fill_regular i k w)

      same-regular : (hit i l k w).venue.regular ≡ (hitting w i k l).regular
      same-regular = ap (λ (y : Venue). y.regular) (hit-venue w i k l) ∙ pair-regular _ c.id _ k (hitting w i k l)

      hit-fewer : Fewer (hit i l k w).venue.regular w.regular
      hit-fewer = subst (λ (q : List Regular). Fewer q w.regular) (sym same-regular) (fewer-trans (chain-fewer chain) (fill-fewer i k w))

      same-there : (m : ℕ) → m ≢ i → (reg w m).series ≡ s → reg (hit i l k w).venue m ≡ reg w m
      same-there m ne z =
          let same = filled-other i k w m ne in
          ap (λ (q : List Regular). get_or q m no_regular) same-regular
          ∙ chain-place chain m (λ g. other-leg (t.ready.series ∙ sym z ∙ sym (ap (λ (r : Regular). r.series) same) ∙ g))
          ∙ same

      sizes-hit : (m : ℕ) → m ≢ i → (reg (hit i l k w).venue m).series ≡ s → Less (reg (hit i l k w).venue m) (reg u m)
      sizes-hit m ne z =
          let y = sym (hit-fewer.lesser m).series ∙ z in
          subst (λ (r : Regular). Less r (reg u m)) (sym (same-there m ne y)) (t.sizes m ne y)

      rested-hit : (m : ℕ) → rests_at s e (reg (hit i l k w).venue m) ≡ true → rests_at s e (reg w m) ≡ true
      rested-hit m h =
          rests-in s e (reg w m) (still-held (hit-fewer.lesser m) (rests-held s e _ h)) (sym (hit-fewer.lesser m).series ∙ rests-series s e _ h)
          (sym (hit-fewer.lesser m).side ∙ rests-side s e _ h)

      gone : held (lg (hit i l k w).venue place).quantity ≡ true → ⊥
      gone = emptied i s d w t.fine t.ready hi hl

      module _ (q : ℕ) (fi : legging_first (reg w i) l q ≡ true)
          (alone : (m : ℕ) → is_met (reg w i).series (reg w i).side (reg w i).price (reg w m) ≡ true → better (opposite (reg w i).side) (own_price l) (reg w m).price ≡ true) where
        own-price : own_price l ≡ l.price
        own-price = own_is l l.price hl refl

        -- no regular order rests at its price
        none_beside : (m : ℕ) → rests_at s e (reg w m) ≡ true → (reg w m).price ≢ l.price
        none_beside m h z =
            better-irrefl (opposite (reg w i).side) (reg w m).price
            (subst (λ (y : ℕ). better (opposite (reg w i).side) y (reg w m).price ≡ true) (own-price ∙ sym z) (alone m (unfold is_met in (and_in _ _
            (subst (λ (y : ℕ). rests_at y (opposite (reg w i).side) (reg w m) ≡ true) (sym t.ready.series) (subst (λ (y : ℕ). rests_at s (opposite y) (reg w m) ≡ true) (sym t.ready.side) h))
            (subst (λ (y : ℕ). reaches (reg w i).side (reg w i).price y ≡ true) (own-price ∙ sym z) (unfold legging_first in (search (and_l, and_r, fi))))))))

        legging-was : legging_at v s e ≡ l
        unfolding legging_at
        legging-was = sym (t.legging hl ∙ b.legging)

        maker-was : (legging_at v s e).parent ≡ c.id
        maker-was = ap (λ (y : Legging). y.parent) legging-was ∙ sym (ap (λ (y : Complex). y.id) parent_is ∙ (f.homes.home place hl).id)

        abbrev struck : Fill
        struck = record { maker = (legging_at v s e).parent; quantity = k }

        of-legging : l.price ≡ p → (low : ℕ) → InOrder v s e p at_legging low (struck ∷ [])
        of-legging z low = of_legging k (ap (λ (y : Legging). y.price) legging-was ∙ z) (subst (λ (y : Legging). k ≤ y.quantity) (sym legging-was) (omega arith))

        ordered : l.price ≡ p → (kind : SizeKind) (low : ℕ) → InOrder v s e p kind low (struck ∷ [])
        ordered z at_shown low = then_reserve (then_legging (of-legging z 0))
        ordered z at_reserve low = then_legging (of-legging z 0)
        ordered z at_legging low = of-legging z low

        quiet : l.price ≡ p → Quiet (hit i l k w).venue
        quiet z = record { regular = λ m h y. none_beside m (rested-hit m h) (sym (hit-fewer.lesser m).price ∙ y ∙ sym z); legging = gone }

        stays-left : (kind : SizeKind) (low : ℕ) → Left w kind low → Left (hit i l k w).venue kind low
        stays-left kind low (done z) = absurd (true≢false (sym hi ∙ z))
        stays-left kind low (on g) = on (λ m h y.
            let r = rested-hit m h in
            subst (Ahead kind low) (sym (same-there m (apart m r) (rests-series s e (reg w m) r))) (g m r (sym (hit-fewer.lesser m).price ∙ y)))

        strikes : (kind : SizeKind) (low : ℕ) → Left w kind low → Step (hit i l k w).venue kind low (fills_of x p (hit i l k w).reports)
        strikes kind low lf = subst (Step (hit i l k w).venue kind low) (sym hit-fill) (go (ℕ_discrete l.price p))
          where
            go : Dec (l.price ≡ p) → Step (hit i l k w).venue kind low (fill_of x p (trade (reg w i).series (reg w i).side l.price k (reg w i).id c.id))
            go (yes z) =
                subst (Step (hit i l k w).venue kind low) (sym (one-fill x p _ _ _ k _ _ own-id z))
                (subst (λ (m : ℕ). Step (hit i l k w).venue kind low (record { maker = m; quantity = k } ∷ [])) maker-was (last (ordered z kind low) (quiet z)))
            go (no z) = subst (Step (hit i l k w).venue kind low) (sym (other-price x p _ _ _ k _ _ z)) (silent (stays-left kind low lf))

    -- A turn
    abbrev its-legging : Legging
    its-legging = legging_at w (reg w i).series (opposite (reg w i).side)

    abbrev its-met : Regular → Bool
    its-met = is_met (reg w i).series (reg w i).side (reg w i).price

    -- how a turn goes
    module _ (Q : Turn → Type 0) (none-on : Q ended)
        (hits : (hi : held (reg w i).quantity ≡ true) (hl : held (lg w place).quantity ≡ true) (q : ℕ) → legging_first (reg w i) (lg w place) q ≡ true →
        ((m : ℕ) → its-met (reg w m) ≡ true → better (opposite (reg w i).side) (own_price (lg w place)) (reg w m).price ≡ true) →
        Q (turned (hit i (lg w place) (min (reg w i).quantity (lg w place).quantity) w)))
        (meets-one : (hi : held (reg w i).quantity ≡ true) (n : ℕ) (o : Regular) → At no_regular its-met w.regular n o → first its-met price_then_id w.regular ≡ picked n o →
        Q (turned (meet i n (min (reg w i).quantity (at_once o)) w))) where
      struck-so : held (reg w i).quantity ≡ true → (q : ℕ) → legging_first (reg w i) its-legging q ≡ true →
          ((m : ℕ) → its-met (reg w m) ≡ true → better (opposite (reg w i).side) (own_price its-legging) (reg w m).price ≡ true) →
          Q (turned (hit i its-legging (min (reg w i).quantity its-legging.quantity) w))
      struck-so hi q fi alone =
          let is = legging-is i s d w t.fine t.ready in
          subst (λ (y : Legging). Q (turned (hit i y (min (reg w i).quantity y.quantity) w))) (sym is)
          (hits hi (subst (λ (y : Legging). held y.quantity ≡ true) is (first-held (reg w i) its-legging q fi)) q (subst (λ (y : Legging). legging_first (reg w i) y q ≡ true) is fi)
          (subst (λ (y : Legging). (m : ℕ) → its-met (reg w m) ≡ true → better (opposite (reg w i).side) (own_price y) (reg w m).price ≡ true) is alone))

      turn-cases : Q (meet_turn i w)
      unfolding meet_turn first_met regular_at
      turn-cases = go (held (reg w i).quantity) refl (first its-met price_then_id w.regular) refl (first-chosen no_regular its-met price_then_id w.regular)
        where
          go : (y : Bool) → held (reg w i).quantity ≡ y → (z : Choice Regular) → first its-met price_then_id w.regular ≡ z → Chosen no_regular its-met w.regular z →
              Q (if not y then ended else elim z as (λ _. Turn) [
                | nobody ↦ if legging_first (reg w i) its-legging 0 then turned (hit i its-legging (min (reg w i).quantity its-legging.quantity) w) else ended
                | picked j m ↦
                    if legging_first (reg w i) its-legging m.price then turned (hit i its-legging (min (reg w i).quantity its-legging.quantity) w)
                    else turned (meet i j (min (reg w i).quantity (at_once m)) w)
              ])
          go false h z is ch = none-on
          go true h nobody is ch =
              if-by Q (legging_first (reg w i) its-legging 0)
              (λ fi. struck-so h 0 fi (λ m y. absurd (true≢false (sym y ∙ ch m (held_fits w.regular m (unfold is_met in (rests-held _ _ (reg w m) (and_l _ _ y)))))))) (λ _. none-on)
          go true h (picked j m) is ch =
              if-by Q (legging_first (reg w i) its-legging m.price)
              (λ fi. struck-so h m.price fi (legging-alone _ _ _ w.regular m (met-first _ _ _ w.regular j m is) (reg w i) refl its-legging fi))
              (λ _. meets-one h j m ch is)

    -- what is kept besides
    record More (y : Venue) : Type 0 where
      sizes : (n : ℕ) → n ≢ i → (reg y n).series ≡ s → Less (reg y n) (reg u n)
      legging : held (lg y place).quantity ≡ true → lg y place ≡ lg u place

    more-meet : (hi : held (reg w i).quantity ≡ true) (n : ℕ) (o : Regular) → At no_regular its-met w.regular n o → first its-met price_then_id w.regular ≡ picked n o →
        More (meet i n (min (reg w i).quantity (at_once o)) w).venue
    more-meet hi n o a is =
        subst More (sym (left hi n o a is))
        (record {
          sizes = sizes-after hi n o a is;
          legging = λ h. legging-after hi n o a is ∙ t.legging
              (sym (ap (λ (y : Legging). held y.quantity) (legging-after hi n o a is)) ∙ h);
        })

    more-hit : (hi : held (reg w i).quantity ≡ true) (hl : held (lg w place).quantity ≡ true) → More (hit i (lg w place) (min (reg w i).quantity (lg w place).quantity) w).venue
    more-hit hi hl = record { sizes = sizes-hit hi hl; legging = λ h. absurd (gone hi hl h) }

    abbrev TurnStep : SizeKind → (low : ℕ) → Turn → Type 0
    TurnStep kind low ended = Unit {0}
    TurnStep kind low (turned y) = Step y.venue kind low (fills_of x p y.reports) × More y.venue

    turn_step : (kind : SizeKind) (low : ℕ) → Left w kind low → TurnStep kind low (meet_turn i w)
    turn_step kind low lf =
        turn-cases (TurnStep kind low) tt (λ hi hl q fi alone. (strikes hi hl q fi alone kind low lf, more-hit hi hl))
        (λ hi n o a is. (meets hi n o a is kind low lf, more-meet hi n o a is))

    -- a turn where nothing is left at the price
    abbrev QuietTurn : Turn → Type 0
    QuietTurn ended = Unit {0}
    QuietTurn (turned y) = (fills_of x p y.reports ≡ []) × Quiet y.venue × More y.venue

    quiet-meet : Quiet w → (hi : held (reg w i).quantity ≡ true) (n : ℕ) (o : Regular) (a : At no_regular its-met w.regular n o) (is : first its-met price_then_id w.regular ≡ picked n o) →
        QuietTurn (turned (meet i n (min (reg w i).quantity (at_once o)) w))
    quiet-meet z hi n o a is = (
      fills hi n o a is ∙ other-price x p _ _ _ _ _ _ (z.regular n (rests hi n o a is)),
      subst Quiet (sym (left hi n o a is)) (record {
        regular = λ m h y. z.regular m (rests-before hi n o a is m h) (sym ((fewer hi n o a is).lesser m).price ∙ y);
        legging = λ h. z.legging (sym (ap (λ (y : Legging). held y.quantity) (legging-after hi n o a is)) ∙ h);
      }),
      more-meet hi n o a is,
    )

    quiet-turn : Quiet w → QuietTurn (meet_turn i w)
    quiet-turn z = turn-cases QuietTurn tt (λ hi hl q fi alone. absurd (z.legging hl)) (quiet-meet z)

    later : (y : Effect) → Carries w y × Ready i s d y.venue → More y.venue → Later y.venue
    later y c m = record {
      fine = fine-after t.fine c.0;
      ready = c.1;
      regular = fewer-trans c.0.moves.regular t.regular;
      complex = fewer_c-trans c.0.moves.complex t.complex;
      sizes = m.sizes;
      legging = m.legging;
    }

  -- All turns
  then-fills : (y : Effect) (g : Venue → Effect) → fills_of x p (y ⟫ g).reports ≡ fills_of x p y.reports ++ fills_of x p (g y.venue).reports
  unfolding ◌⟫◌
  then-fills y g = fills-append x p y.reports (g y.venue).reports

  nothing-fills : (w : Venue) → fills_of x p (nothing w).reports ≡ []
  unfolding nothing fills_of
  nothing-fills w = refl

  all_quiet : (fuel : ℕ) (w : Venue) → Later w → Quiet w → fills_of x p (repeat fuel (meet_turn i) w).reports ≡ []
  all_quiet zero w t z = unfold repeat in (nothing-fills w)
  all_quiet (suc fuel) w t z =
      repeat-by (λ (y : Effect). fills_of x p y.reports ≡ []) fuel (meet_turn i) w (λ _. nothing-fills w)
      (λ y is.
      let k = subst (TurnOk (Ready i s d) w) is (meet_turn-ok i s d w t.fine t.ready) in
      let q = subst (QuietTurn w t) is (quiet-turn w t z) in
      then-fills y _ ∙ ap (λ (l : List Fill). l ++ fills_of x p (repeat fuel (meet_turn i) y.venue).reports) q.0 ∙ all_quiet fuel y.venue (later w t y k q.2) q.1)

  joined : (w : Venue) (kind : SizeKind) (low : ℕ) (fs rest : List Fill) → Step w kind low fs →
      ((stage' : SizeKind) (low' : ℕ) → Left w stage' low' → InOrder v s e p stage' low' rest) → (Quiet w → rest ≡ []) → InOrder v s e p kind low (fs ++ rest)
  joined w kind low fs rest (silent on-left) ih nil = ih kind low on-left
  joined w kind low fs rest (filled {f} stage' low' g on-left) ih nil = g rest (ih stage' low' on-left)
  joined w kind low fs rest (last {f} g q) ih nil = subst (λ (r : List Fill). InOrder v s e p kind low (f ∷ r)) (sym (nil q)) g

  all-turns : (fuel : ℕ) (w : Venue) (kind : SizeKind) (low : ℕ) → Later w → Left w kind low → InOrder v s e p kind low (fills_of x p (repeat fuel (meet_turn i) w).reports)
  all-turns zero w kind low t l = unfold repeat in (rw (nothing-fills w) no_more)
  all-turns (suc fuel) w kind low t l =
      repeat-by (λ (y : Effect). InOrder v s e p kind low (fills_of x p y.reports)) fuel (meet_turn i) w (λ _. rw (nothing-fills w) no_more)
      (λ y is.
      let k = subst (TurnOk (Ready i s d) w) is (meet_turn-ok i s d w t.fine t.ready) in
      let q = subst (TurnStep w t kind low) is (turn_step w t kind low l) in
      let after = later w t y k q.1 in
      rw (then-fills y (repeat fuel (meet_turn i))) (joined y.venue kind low (fills_of x p y.reports) (fills_of x p (repeat fuel (meet_turn i) y.venue).reports) q.0
      (λ stage' low' l'. all-turns fuel y.venue stage' low' after l') (λ z. all_quiet fuel y.venue after z)))

-- Every message -------------------------------------------------------------------------------

module _ (v : Venue) (sv : SoundVenue v) (o : Regular) (passed : Passed v (Order o)) (p : ℕ) where
  abbrev invariant : Invariant v
  invariant = sound-out v sv

  abbrev free : ℕ
  free = free_regular v

  joins : Joins v o free
  joins = order-joins v invariant.fine invariant.tidy o passed

  abbrev start : Venue
  start = with_order v o free

  none-has-its-id : (n : ℕ) → held (cx start n).quantity ≡ true → (cx start n).id ≢ o.id
  unfolding with_regular with_last
  none-has-its-id n q z = let a = invariant.fine.good.xlast n q in let c = joins.new in omega arith

  still-there : (n : ℕ) → n ≢ free → reg start n ≡ reg v n
  unfolding with_regular with_last
  still-there n ne = get_or-set_other v.regular free n o no_regular ne

  legging-there : lg start (place_of o.series (opposite o.side)) ≡ lg v (place_of o.series (opposite o.side))
  unfolding with_regular with_last
  legging-there = refl

  enters : Enters o.id free o.series o.side v start
  enters = record {
    own = ap (λ (r : Regular). r.id) (at_i v o free joins);
    fine = (order-admitted v o free joins).fine;
    ready = order-ready v o free joins invariant.stand;
    alone = none-has-its-id;
    others = still-there;
    legging = legging-there;
  }

  first-later : Later enters p start
  first-later = record {
    fine = enters.fine;
    ready = enters.ready;
    regular = fewer-refl _;
    complex = fewer_c-refl _;
    sizes = λ n _ _. less-refl (reg start n);
    legging = λ _. refl;
  }

  entered : InOrder v o.series (opposite o.side) p at_shown 0 (fills_of o.id p (enter_regular o (with_last v o.id)).reports)
  unfolding enter_regular put_regular free_regular with_last
  entered = all-turns enters p o.quantity start at_shown 0 first-later (on (λ n h q sh. omega arith))

  performed : (number : ℕ) → InOrder v o.series (opposite o.side) p at_shown 0 (fills_of o.id p (accept number (Order o) v).reports)
  unfolding accept perform order nothing ◌⟫◌
  performed number =
      rw (
        append-nil (order o (with_last v o.id)).reports,
        fills-append o.id p (enter_regular o (with_last v o.id)).reports _,
        removals-none o.id p (settled-by-place (enter_regular o (with_last v o.id)).venue),
        append-nil,
      ) entered

pub makers-in-order : MakersInOrder
unfolding step answered fills_of fill_of nothing
makers-in-order v sv number bs o is p = go (eqb (refusal v bs) 0) refl
  where
    go : (y : Bool) → eqb (refusal v bs) 0 ≡ y →
        InOrder v o.series (opposite o.side) p at_shown 0 (fills_of o.id p (if y then accept number (message_of bs) v else nothing v).reports)
    go true z =
        subst (λ (m : Message). InOrder v o.series (opposite o.side) p at_shown 0 (fills_of o.id p (accept number m v).reports)) (sym is)
        (performed v sv o (subst (Passed v) is (accepted v bs (eqb-true (refusal v bs) 0 z))) p number)
    go false z = no_more
