-- An order that arrives trades with each order that rests at most twice: of what it shows, and when all of that is gone of its reserve. Of one that rests,
-- what has been traded so far and what is left of it, turn by turn.
use Rattle.std.specs.Prelude.{if◌then◌else◌}
use mathlib.Core.Path.{◌∙◌, ◌≡◌, ap, refl, subst, sym}
use mathlib.Core.Bool.{Bool, false, true, true≢false}
use mathlib.Core.Logic.{◌≢◌}
use mathlib.Core.List.{List, [], ◌++◌, ◌∷◌, append_assoc, append-nil}
use Prim.Native.Nat.{◌-◌, ◌<◌, ◌≤◌, min, suc, zero, ℕ}
use native.Mathlib.Decide.{dec_le, ℕ_discrete}
use native.Mathlib.Omega.{arith}
use lib.Dec.{eqb}
use lib.IntN.{ℤ}
use lib.ListN.{get_or}
use lib.Seq.{get_or-set_other}
use borrow.Author.Tests.{eq-eqb, eqb-true, ne_eqb}
use Rattle.rules.specs.declared.Cause.TheVariants.{Executed}
use Rattle.rules.specs.declared.Cause.{Cause}
use Rattle.rules.specs.declared.Complex.{Complex}
use Rattle.rules.specs.declared.Legging.{Legging}
use Rattle.rules.specs.declared.Message.{Message}
use Rattle.rules.specs.declared.Message.TheVariants.{Order}
use Rattle.rules.specs.declared.Regular.{Regular}
use Rattle.rules.specs.declared.Venue.{Venue}
use Rattle.rules.specs.Base.{held}
use Rattle.rules.specs.Words.{no_regular, opposite, place_of, regular_at, with_last, with_regular}
use Rattle.rules.specs.Messages.{message_of}
use Rattle.rules.specs.Records.{Report, pair, trade}
use Rattle.rules.specs.Effects.{Effect, Turn, ◌⟫◌, ended, nothing, repeat, report, turned}
use Rattle.rules.specs.Prices.{rests_at, shown_size}
use Rattle.rules.specs.Removal.{remove_of}
use Rattle.rules.specs.Standing.{other_clear, other_leg, parent_of}
use Rattle.rules.specs.Trading.{fill_regular, free_regular, less_regular, put_regular, trade_at_price, trade_with}
use Rattle.rules.specs.Order.{at_once, enter_regular, hit, is_met, meet, meet_turn, order}
use Rattle.rules.specs.Refusals.{refusal}
use Rattle.rules.specs.Step.{accept, answered, perform, step}
use Rattle.demands.specs.Soundness.{SoundVenue}
use Rattle.demands.specs.Reserve.{AtMostTwo, TwoTrades, of_both, of_shown, trade_of, trades_of, untraded}
use Rattle.rules.proofs.ByPlace.{ByPlace, next, none, removed-by-place, settled-by-place}
use Rattle.rules.proofs.Cases.{meet_turn-by, repeat-by}
use Rattle.rules.proofs.Filling.{Fewer, FewerC, cx, fewer-refl, fewer-trans, fewer_c-refl, fewer_c-trans, fill-fewer, filled-other, filled-same, held_fits, lg, reg, still-held, still-held_c}
use Rattle.rules.proofs.Hitting.{hit-is, hit-venue, hitting}
use Rattle.rules.proofs.Owning.{first-held}
use Rattle.rules.proofs.Pairing.{pair-regular}
use Rattle.rules.proofs.Picking.{At}
use Rattle.rules.proofs.RefusalsLaws.{Passed, accepted}
use Rattle.rules.proofs.Showing.{showing-shown}
use Rattle.rules.proofs.Sizes.{once-left, once-shown, rests-held, rests-series, rests-side, shown-lessens, shown_rest}
use Rattle.rules.proofs.TradingLaws.{Chain, chain-fewer, chain-place, no-more, at-price-chain, traded}
use Rattle.rules.proofs.Tests.{and-false, and_l, held-pos}
use Rattle.demands.proofs.Admitting.{Joins, at_i, order-admitted, order-ready, with_order}
use Rattle.demands.proofs.ComplexCarries.{Carries, TurnOk, fine-after, opposite-not}
use Rattle.demands.proofs.OrderCarries.{Ready, legging-is, meet_turn-ok}
use Rattle.demands.proofs.Homes.{Fine, Invariant, good-rr, home-held, parent-found}
use Rattle.demands.proofs.Messages.{order-joins}
use Rattle.demands.proofs.SoundnessLaws.{sound-out}

-- Trades among records ------------------------------------------------------------------------

module _ (x y : ℕ) where
  trades-append : (a b : List Report) → trades_of x y (a ++ b) ≡ trades_of x y a ++ trades_of x y b
  unfolding trades_of
  trades-append [] b = refl
  trades-append (r ∷ a) b = rw (trades-append a b) (sym (append_assoc (trade_of x y r) (trades_of x y a) (trades_of x y b)))

  one-trade : (s d p q z m : ℕ) → z ≡ x → m ≡ y → trades_of x y (trade s d p q z m ∷ []) ≡ q ∷ []
  unfolding trades_of trade_of
  one-trade s d p q z m a b = rw (eq-eqb z x a, eq-eqb m y b)

  other-maker : (s d p q z m : ℕ) → m ≢ y → trade_of x y (trade s d p q z m) ≡ []
  unfolding trade_of
  other-maker s d p q z m ne = rw (ne_eqb m y ne, and-false)

  other-taker : (s d p q z m : ℕ) → z ≢ x → trade_of x y (trade s d p q z m) ≡ []
  unfolding trade_of
  other-taker s d p q z m ne = rw (ne_eqb z x ne)

  not_made : (s d p q z m : ℕ) → m ≢ y → trades_of x y (trade s d p q z m ∷ []) ≡ []
  unfolding trades_of
  not_made s d p q z m ne = rw (other-maker s d p q z m ne)

  chain-none : {z t d p : ℕ} {v w : Venue} {rs : List Report} → z ≢ x → Chain z t d p v rs w → trades_of x y rs ≡ []
  unfolding trades_of
  chain-none ne no-more = refl
  chain-none {z = z} {d = d} ne (traded {v = v} i q f sh e le c) =
      rw (other-taker (regular_at v i).series d (regular_at v i).price q z (regular_at v i).id ne, chain-none ne c)

  removals-none : {n : ℕ} {rs : List Report} → ByPlace n rs → trades_of x y rs ≡ []
  unfolding trades_of trade_of
  removals-none none = refl
  removals-none (next m h p c r) = removals-none r

  removes-none : (id : ℕ) (c : Cause) (v : Venue) → trades_of x y (remove_of id c v).reports ≡ []
  unfolding remove_of
  removes-none id c v = removals-none (removed-by-place _ v)

  -- the records of a hit: its trade, those of the other leg, the 66, and the removals
  hit-none : (r : Report) → trade_of x y r ≡ [] → (id : ℕ) (n : ℤ) (k : ℕ) (rs qs : List Report) → trades_of x y rs ≡ [] → trades_of x y qs ≡ [] →
      trades_of x y (r ∷ (rs ++ (pair id n k ∷ qs))) ≡ []
  unfolding trades_of
  hit-none r e id n k rs qs a b = rw (e, trades-append rs (pair id n k ∷ qs), a, trades_of) (unfold trade_of in b)

-- What has been traded so far -----------------------------------------------------------------

-- Between the order x at place i, of series s, and the order y at place j, which was m when the message began.
module _ (x y i j s : ℕ) (m : Regular) where
  -- ts were traded and w is left
  data State (w : Venue) : List ℕ → Type 0 where
    before : m.series ≡ s → reg w j ≡ m → State w []
    -- all that it showed
    during : (reg w j).series ≡ s → held (shown_size (reg w j)) ≡ false → (reg w j).quantity ≤ m.reserve → State w (shown_size m ∷ [])
    -- one of them is filled
    over : {ts : List ℕ} → AtMostTwo (shown_size m) m.reserve ts → (held (reg w i).quantity ≡ true → held (reg w j).quantity ≡ true → ⊥) → State w ts
    -- the two never meet
    elsewhere : (reg w j).series ≢ s → State w []

  finished : {w : Venue} {ts : List ℕ} → State w ts → AtMostTwo (shown_size m) m.reserve ts
  finished (before a b) = untraded
  finished (during a b c) = of_shown (shown_size m) (omega arith)
  finished (over t n) = t
  finished (elsewhere n) = untraded

  -- no trade between them, and orders of series s are as they were
  stays : (w w' : Venue) (ts : List ℕ) → Fewer w'.regular w.regular → ((reg w j).series ≡ s → reg w' j ≡ reg w j) → State w ts → State w' ts
  stays w w' ts f same (before a b) = before a (same (ap (λ (o : Regular). o.series) b ∙ a) ∙ b)
  stays w w' ts f same (during a b c) =
      let e = same a in
      during (ap (λ (o : Regular). o.series) e ∙ a) (ap (λ (o : Regular). held (shown_size o)) e ∙ b) (subst (λ (o : Regular). o.quantity ≤ m.reserve) (sym e) c)
  stays w w' ts f same (over t n) = over t (λ p q. n (still-held (f.lesser i) p) (still-held (f.lesser j) q))
  stays w w' ts f same (elsewhere n) = elsewhere (λ e. n (sym (f.lesser j).series ∙ e))

  -- a trade of k
  module _ (w w' : Venue) (shows : held (shown_size m) ≡ true) (hi : held (reg w i).quantity ≡ true) (hj : held (reg w j).quantity ≡ true) (at : (reg w j).series ≡ s) where
    abbrev k : ℕ
    k = min (reg w i).quantity (at_once (reg w j))

    module _ (ei : reg w' i ≡ less_regular k (reg w i)) (ej : reg w' j ≡ less_regular k (reg w j)) where
      left-i : (reg w' i).quantity ≡ (reg w i).quantity - k
      unfolding less_regular
      left-i = ap (λ (o : Regular). o.quantity) ei

      left-j : (reg w' j).quantity ≡ (reg w j).quantity - k
      unfolding less_regular
      left-j = ap (λ (o : Regular). o.quantity) ej

      series-j : (reg w' j).series ≡ s
      unfolding less_regular
      series-j = ap (λ (o : Regular). o.series) ej ∙ at

      -- of what it shows: all of it, or all that the order wants
      of-shown : reg w j ≡ m → State w' (k ∷ [])
      of-shown e = go (dec_le (shown_size m) (reg w i).quantity)
        where
          once : at_once (reg w j) ≡ shown_size m
          once = ap at_once e ∙ once-shown m shows

          gone : k ≡ shown_size m → held (shown_size (reg w' j)) ≡ false
          gone is =
              let z : shown_size (reg w' j) ≡ 0 = (let a = ap shown_size ej in let b = shown-lessens k (reg w j) in let c = ap shown_size e in omega arith) in
              ap held z

          rest : k ≡ shown_size m → (reg w' j).quantity ≤ m.reserve
          rest is = let a = left-j in let b = ap (λ (o : Regular). o.quantity) e in let c = shown_rest m in omega arith

          go : Dec (shown_size m ≤ (reg w i).quantity) → State w' (k ∷ [])
          go (yes le) =
              let is : k ≡ shown_size m = omega (arith, once) in
              subst (λ (n : ℕ). State w' (n ∷ [])) (sym is) (during series-j (gone is) (rest is))
          go (no gt) =
              let a = once in
              let b = left-i in
              over (of_shown k (omega arith)) (λ p _. let c = held-pos (reg w' i).quantity p in omega arith)

      -- of its reserve
      of-reserve : held (shown_size (reg w j)) ≡ false → (reg w j).quantity ≤ m.reserve → State w' (shown_size m ∷ k ∷ [])
      of-reserve z le =
          let once = once-left (reg w j) z in
          let a = left-i in
          let b = left-j in
          over (of_both k (omega arith)) (λ p q. let c = held-pos (reg w' i).quantity p in let d = held-pos (reg w' j).quantity q in omega arith)

      trades : (ts : List ℕ) → State w ts → State w' (ts ++ (k ∷ []))
      trades ts (before a b) = of-shown b
      trades ts (during a b c) = of-reserve b c
      trades ts (over t n) = absurd (n hi hj)
      trades ts (elsewhere n) = absurd (n at)

-- Turns ---------------------------------------------------------------------------------------

-- u is the venue with the order in its place
record Between (x y i j s d : ℕ) (m : Regular) (u : Venue) : Type 0 where
  apart : j ≢ i
  own : (reg u i).id ≡ x
  maker : (reg u j).id ≡ y
  holds : held (reg u j).quantity ≡ true
  fine : Fine u
  ready : Ready i s d u
  -- x is no complex order's id
  alone : (n : ℕ) → held (cx u n).quantity ≡ true → (cx u n).id ≢ x
  shows : held (shown_size m) ≡ true

module _ {x y i j s d : ℕ} {m : Regular} {u : Venue} (b : Between x y i j s d m u) where
  -- after some turns
  record Later (w : Venue) : Type 0 where
    fine : Fine w
    ready : Ready i s d w
    regular : Fewer w.regular u.regular
    complex : FewerC w.complex u.complex

  module _ (w : Venue) (t : Later w) where
    own-id : (reg w i).id ≡ x
    own-id = (t.regular.lesser i).id ∙ b.own

    -- the only order of id y is at place j
    only : (n : ℕ) → held (reg w n).quantity ≡ true → (reg w n).id ≡ y → n ≡ j
    only n h e =
        good-rr b.fine.good n j (still-held (t.regular.lesser n) h) b.holds (sym (t.regular.lesser n).id ∙ e ∙ sym b.maker)

    -- and no complex order has it, or x
    not-y : (n : ℕ) → held (cx w n).quantity ≡ true → (cx w n).id ≢ y
    not-y n h e =
        b.fine.good.rx j n b.holds (still-held_c (t.complex.lesser n) h) (b.maker ∙ sym e ∙ (t.complex.lesser n).id)

    not-x : (n : ℕ) → held (cx w n).quantity ≡ true → (cx w n).id ≢ x
    not-x n h e = b.alone n (still-held_c (t.complex.lesser n) h) (sym (t.complex.lesser n).id ∙ e)

    -- A regular order is met
    module _ (hi : held (reg w i).quantity ≡ true) (n : ℕ) (o : Regular) (a : At no_regular (is_met (reg w i).series (reg w i).side (reg w i).price) w.regular n o) where
      rests : rests_at (reg w i).series (opposite (reg w i).side) (reg w n) ≡ true
      unfolding is_met
      rests = rw a.at (and_l _ _ a.is)

      abbrev size : ℕ
      size = min (reg w i).quantity (at_once o)

      abbrev after : Venue
      after = fill_regular n size (fill_regular i size w)

      n≠i : n ≢ i
      n≠i e = opposite-not (reg w i).side (ap (λ (q : ℕ). (reg w q).side) (sym e) ∙ rests-side _ _ (reg w n) rests)

      hn : held (reg w n).quantity ≡ true
      hn = rests-held _ _ (reg w n) rests

      same-n : reg (fill_regular i size w) n ≡ reg w n
      same-n = filled-other i size w n n≠i

      told : (meet i n size w).reports ≡ trade (reg w n).series (reg w i).side (reg w n).price size (reg w i).id (reg w n).id ∷ []
      unfolding meet trade_with report regular_at
      told = rw same-n

      left : (meet i n size w).venue ≡ after
      unfolding meet trade_with report
      left = refl

      fewer : Fewer after.regular w.regular
      fewer = fewer-trans (fill-fewer n size (fill_regular i size w)) (fill-fewer i size w)

      at-i' : reg after i ≡ less_regular size (reg w i)
      at-i' = filled-other n size (fill_regular i size w) i (λ e. n≠i (sym e)) ∙ filled-same i size w (held_fits w.regular i hi)

      at_n : reg after n ≡ less_regular size (reg w n)
      at_n =
          filled-same n size (fill_regular i size w) (subst (λ (q : ℕ). n < q) (sym (fill-fewer i size w).same) (held_fits w.regular n hn))
          ∙ ap (less_regular size) same-n

      -- it is the one at place j
      module _ (e : n ≡ j) where
        size_is : size ≡ min (reg w i).quantity (at_once (reg w j))
        size_is = ap (λ (r : Regular). min (reg w i).quantity (at_once r)) (sym a.at ∙ ap (λ (q : ℕ). reg w q) e)

        own-trade : trades_of x y (meet i n size w).reports ≡ size ∷ []
        own-trade = ap (trades_of x y) told ∙ one-trade x y _ _ _ size _ _ own-id (ap (λ (q : ℕ). (reg w q).id) e ∙ (t.regular.lesser j).id ∙ b.maker)

        after-trade : (ts : List ℕ) → State x y i j s m w ts → State x y i j s m after (ts ++ (size ∷ []))
        after-trade ts st =
            subst (λ (c : ℕ). State x y i j s m after (ts ++ (c ∷ []))) (sym size_is)
            (trades x y i j s m w after b.shows hi
            (subst (λ (q : ℕ). held (reg w q).quantity ≡ true) e hn)
            (ap (λ (q : ℕ). (reg w q).series) (sym e) ∙ rests-series _ _ (reg w n) rests ∙ t.ready.series)
            (at-i' ∙ ap (λ (c : ℕ). less_regular c (reg w i)) size_is)
            (ap (λ (q : ℕ). reg after q) (sym e) ∙ at_n ∙ ap (λ (c : ℕ). less_regular c (reg w n)) size_is ∙ ap (λ (q : ℕ). less_regular (min (reg w i).quantity (at_once (reg w j))) (reg w q)) e)
            ts st)

      -- it is another
      module _ (ne : n ≢ j) where
        no-trade : trades_of x y (meet i n size w).reports ≡ []
        no-trade = ap (trades_of x y) told ∙ not_made x y _ _ _ size _ _ (λ g. ne (only n hn g))

        same-j : reg after j ≡ reg w j
        same-j = filled-other n size (fill_regular i size w) j (λ g. ne (sym g)) ∙ filled-other i size w j b.apart

      met : (ts : List ℕ) → State x y i j s m w ts → State x y i j s m (meet i n size w).venue (ts ++ trades_of x y (meet i n size w).reports)
      met ts st = subst (λ (v : Venue). State x y i j s m v (ts ++ trades_of x y (meet i n size w).reports)) (sym left) (go (ℕ_discrete n j))
        where
          go : Dec (n ≡ j) → State x y i j s m after (ts ++ trades_of x y (meet i n size w).reports)
          go (yes e) = subst (λ (l : List ℕ). State x y i j s m after (ts ++ l)) (sym (own-trade e)) (after-trade e ts st)
          go (no ne) =
              subst (λ (l : List ℕ). State x y i j s m after l) (sym (ap (λ (l : List ℕ). ts ++ l) (no-trade ne) ∙ append-nil ts))
              (stays x y i j s m w after ts fewer (λ _. same-j ne) st)

    -- The legging order is hit
    module _ (hl : held (lg w (place_of s (opposite d))).quantity ≡ true) (k : ℕ) where
      abbrev l : Legging
      l = lg w (place_of s (opposite d))

      abbrev c : Complex
      c = parent_of w l

      abbrev f : Fine w
      f = t.fine

      parent_is : c ≡ cx w (f.homes.home (place_of s (opposite d)) hl).at
      parent_is = parent-found w f (place_of s (opposite d)) hl

      parent-held : held (cx w (f.homes.home (place_of s (opposite d)) hl).at).quantity ≡ true
      parent-held = home-held w f (place_of s (opposite d)) hl

      not-taker : c.id ≢ x
      not-taker e = not-x _ parent-held (sym (ap (λ (q : Complex). q.id) parent_is) ∙ e)

      not-maker : c.id ≢ y
      not-maker e = not-y _ parent-held (sym (ap (λ (q : Complex). q.id) parent_is) ∙ e)

      -- its other leg is in another series
      other : (reg w i).series ≢ (other_leg c (reg w i).series).series
      other = subst (λ (q : ℕ). q ≢ (other_leg c q).series) (sym t.ready.series) (t.ready.pays hl).apart

      no-trades : trades_of x y (hit i l k w).reports ≡ []
      no-trades =
          ap (trades_of x y) (hit-is w i k l other)
          ∙ hit-none x y _ (other-maker x y _ _ _ k _ _ not-maker) _ _ _ _ _ (chain-none x y not-taker (at-price-chain c.id _ _ _ k k w)) (removes-none x y c.id Executed w)

      abbrev other-series : ℕ
      other-series = (other_leg c (reg w i).series).series

      abbrev other-side : ℕ
      other-side = (other_leg c (reg w i).series).side

      abbrev clear : ℕ
      clear = other_clear w c (reg w i).series

      chain : Chain c.id other-series other-side clear (fill_regular i k w) (trade_at_price k c.id other-series other-side clear k (fill_regular i k w)).reports (hitting w i k l)
      chain = at-price-chain c.id other-series other-side clear k k (fill_regular i k w)

      same-regular : (hit i l k w).venue.regular ≡ (hitting w i k l).regular
      same-regular = ap (λ (v : Venue). v.regular) (hit-venue w i k l) ∙ pair-regular _ c.id _ k (hitting w i k l)

      same-there : (reg w j).series ≡ s → reg (hit i l k w).venue j ≡ reg w j
      same-there e =
          let same = filled-other i k w j b.apart in
          ap (λ (q : List Regular). get_or q j no_regular) same-regular
          ∙ chain-place chain j (λ g. other (t.ready.series ∙ sym e ∙ sym (ap (λ (r : Regular). r.series) same) ∙ g))
          ∙ same

      hit-fewer : Fewer (hit i l k w).venue.regular w.regular
      hit-fewer = subst (λ (q : List Regular). Fewer q w.regular) (sym same-regular) (fewer-trans (chain-fewer chain) (fill-fewer i k w))

      struck : (ts : List ℕ) → State x y i j s m w ts → State x y i j s m (hit i l k w).venue (ts ++ trades_of x y (hit i l k w).reports)
      struck ts st =
          subst (λ (q : List ℕ). State x y i j s m (hit i l k w).venue q) (sym (ap (λ (q : List ℕ). ts ++ q) no-trades ∙ append-nil ts))
          (stays x y i j s m w (hit i l k w).venue ts hit-fewer same-there st)

    -- A turn
    abbrev TurnState : List ℕ → Turn → Type 0
    TurnState ts ended = Unit {0}
    TurnState ts (turned e) = State x y i j s m e.venue (ts ++ trades_of x y e.reports)

    turn-state : (ts : List ℕ) → State x y i j s m w ts → TurnState ts (meet_turn i w)
    unfolding regular_at
    turn-state ts st =
        let is = legging-is i s d w t.fine t.ready in
        meet_turn-by (TurnState ts) i w (λ _. tt) (λ _ _ _. tt)
        (λ h p e. subst (λ (q : Legging). TurnState ts (turned (hit i q (min (reg w i).quantity q.quantity) w))) (sym is)
        (struck (subst (λ (q : Legging). held q.quantity ≡ true) is (first-held (reg w i) _ p e)) _ ts st))
        (λ h n o a _. met h n o a ts st)

    later : (e : Effect) → Carries w e × Ready i s d e.venue → Later e.venue
    later e c = record {
      fine = fine-after t.fine c.0;
      ready = c.1;
      regular = fewer-trans c.0.moves.regular t.regular;
      complex = fewer_c-trans c.0.moves.complex t.complex;
    }

  -- All turns
  abbrev Ends : List ℕ → Effect → Type 0
  Ends ts e = AtMostTwo (shown_size m) m.reserve (ts ++ trades_of x y e.reports)

  ends-here : {w : Venue} (ts : List ℕ) → State x y i j s m w ts → (v : Venue) → Ends ts (nothing v)
  unfolding nothing trades_of
  ends-here ts st v = rw (append-nil ts) (finished x y i j s m st)

  ends-then : (ts : List ℕ) (e : Effect) (f : Venue → Effect) → Ends (ts ++ trades_of x y e.reports) (f e.venue) → Ends ts (e ⟫ f)
  unfolding ◌⟫◌
  ends-then ts e f z =
      subst (AtMostTwo (shown_size m) m.reserve)
      (append_assoc ts (trades_of x y e.reports) (trades_of x y (f e.venue).reports) ∙ ap (λ (l : List ℕ). ts ++ l) (sym (trades-append x y e.reports (f e.venue).reports))) z

  all-turns : (fuel : ℕ) (w : Venue) (ts : List ℕ) → Later w → State x y i j s m w ts → Ends ts (repeat fuel (meet_turn i) w)
  all-turns zero w ts t st = unfold repeat in (ends-here ts st w)
  all-turns (suc fuel) w ts t st =
      repeat-by (Ends ts) fuel (meet_turn i) w (λ _. ends-here ts st w)
      (λ e is.
      let k = subst (TurnOk (Ready i s d) w) is (meet_turn-ok i s d w t.fine t.ready) in
      ends-then ts e _ (all-turns fuel e.venue (ts ++ trades_of x y e.reports) (later w t e k) (subst (TurnState w t ts) is (turn-state w t ts st))))

-- Every message -------------------------------------------------------------------------------

module _ (v : Venue) (s : SoundVenue v) (o : Regular) (p : Passed v (Order o)) (j : ℕ) (h : held (reg v j).quantity ≡ true) where
  abbrev invariant : Invariant v
  invariant = sound-out v s

  abbrev place : ℕ
  place = free_regular v

  joins : Joins v o place
  joins = order-joins v invariant.fine invariant.tidy o p

  abbrev maker-was : Regular
  maker-was = reg v j

  abbrev start : Venue
  start = with_order v o place

  not_there : j ≢ place
  not_there e = true≢false (sym h ∙ ap (λ (n : ℕ). held (reg v n).quantity) e ∙ joins.free)

  still-there : reg start j ≡ reg v j
  unfolding with_regular with_last
  still-there = get_or-set_other v.regular place j o no_regular not_there

  none-has-its-id : (n : ℕ) → held (cx start n).quantity ≡ true → (cx start n).id ≢ o.id
  unfolding with_regular with_last
  none-has-its-id n q e = let a = invariant.fine.good.xlast n q in let c = joins.new in omega arith

  between : Between o.id (reg v j).id place j o.series o.side maker-was start
  between = record {
    apart = not_there;
    own = ap (λ (r : Regular). r.id) (at_i v o place joins);
    maker = ap (λ (r : Regular). r.id) still-there;
    holds = ap (λ (r : Regular). held r.quantity) still-there ∙ h;
    fine = (order-admitted v o place joins).fine;
    ready = order-ready v o place joins invariant.stand;
    alone = none-has-its-id;
    shows = showing-shown v invariant.ranged invariant.showing j h;
  }

  first-state : State o.id (reg v j).id place j o.series maker-was start []
  first-state = go (ℕ_discrete (reg v j).series o.series)
    where
      go : Dec ((reg v j).series ≡ o.series) → State o.id (reg v j).id place j o.series maker-was start []
      go (yes e) = before e still-there
      go (no ne) = elsewhere (λ e. ne (sym (ap (λ (r : Regular). r.series) still-there) ∙ e))

  first-later : Later between start
  first-later = record { fine = between.fine; ready = between.ready; regular = fewer-refl _; complex = fewer_c-refl _ }

  entered : AtMostTwo (shown_size maker-was) maker-was.reserve (trades_of o.id (reg v j).id (enter_regular o (with_last v o.id)).reports)
  unfolding enter_regular put_regular free_regular with_last
  entered = all-turns between o.quantity start [] first-later first-state

  performed : (number : ℕ) → AtMostTwo (shown_size maker-was) maker-was.reserve (trades_of o.id (reg v j).id (accept number (Order o) v).reports)
  unfolding accept perform order nothing ◌⟫◌
  performed number =
      rw (
        append-nil (order o (with_last v o.id)).reports,
        trades-append o.id (reg v j).id (enter_regular o (with_last v o.id)).reports _,
        removals-none o.id (reg v j).id (settled-by-place (enter_regular o (with_last v o.id)).venue),
        append-nil,
      ) entered

pub two-trades : TwoTrades
unfolding step answered trades_of trade_of nothing regular_at
two-trades v s number bs o is j h = go (eqb (refusal v bs) 0) refl
  where
    go : (b : Bool) → eqb (refusal v bs) 0 ≡ b →
        AtMostTwo (shown_size (reg v j)) (reg v j).reserve (trades_of o.id (reg v j).id (if b then accept number (message_of bs) v else nothing v).reports)
    go true e =
        subst (λ (m : Message). AtMostTwo (shown_size (reg v j)) (reg v j).reserve (trades_of o.id (reg v j).id (accept number m v).reports)) (sym is)
        (performed v s o (subst (Passed v) is (accepted v bs (eqb-true (refusal v bs) 0 e))) j h number)
    go false e = untraded
