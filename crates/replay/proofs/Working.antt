-- A complex order at work: its touch and its legging in tell what they do after its crosses, and no trade passes anything over.
use mathlib.Core.Path.{◌∙◌, ◌≡◌, ap, refl, subst, sym}
use mathlib.Core.Bool.{◌&&◌, false, true, true≢false}
use mathlib.Core.Logic.{inl, inr}
use mathlib.Core.List.{List}
use Prim.Native.Nat.{◌*◌, ◌-◌, ◌<◌, ℕ}
use native.Mathlib.Omega.{arith}
use lib.ListN.{get_or, length}
use lib.Seq.{get_or-set_same}
use lib.Signed.{le_z}
use Rattle.rules.specs.declared.Complex.{Complex}
use Rattle.rules.specs.declared.Legging.{Legging}
use Rattle.rules.specs.declared.Regular.{Regular}
use Rattle.rules.specs.declared.Venue.{Venue}
use Rattle.rules.specs.Base.{held}
use Rattle.rules.specs.Words.{complex_at, legging_at, no_complex, no_legging, no_regular, opposite, place_of, with_complex, with_legging}
use Rattle.rules.specs.Records.{Report}
use Rattle.rules.specs.Effects.{Effect, Turn, ◌⟫◌, ended, nothing, repeat, report, turned}
use Rattle.rules.specs.Prices.{best_regular, better, net, own_price, shows_at}
use Rattle.rules.specs.Removal.{remove, remove_of}
use Rattle.rules.specs.Trading.{fill_complex, less_complex, pair_off, trade_at_price}
use Rattle.rules.specs.Complex.{any_closed, cross_turn, each_of, leg_in, leg_in_turn, legs_in, touch, touches, units_in, work}
use Rattle.rules.proofs.Cases.{if-by}
use Rattle.rules.proofs.Ending.{legs-facts}
use Rattle.rules.proofs.Filling.{Fewer, cx, lg, reg}
use Rattle.rules.proofs.EffectsLaws.{keeps-at-price}
use Rattle.rules.proofs.Pairing.{leg_in-filled, leg_in-venue, legged, legged-complex, legged-legging, pair-regular}
use Rattle.rules.proofs.Settling.{SameOrGone, stayers-kept}
use Rattle.rules.proofs.Sizes.{ShowsAt, best-is}
use Rattle.rules.proofs.TradingLaws.{Chain, chain-elsewhere, no-more, at-price-chain, traded}
use Rattle.rules.proofs.Tests.{and_l, and_r, free-none}
use Rattle.rules.proofs.Traffic.{Each}
use Rattle.demands.proofs.ComplexCarries.{TurnOk, cross_turn-ok, fine-after, leg_in_turn-ok, repeat-carries, touch-carries, work-carries}
use Rattle.demands.proofs.Homes.{Fine}
use Rattle.replay.proofs.TellsLaws.{Any, Tells, TellsTurn, tells-each_of, tells-nothing, tells-repeat, tells-then}
use Rattle.replay.proofs.Placing.{tells-remove}
use Rattle.replay.proofs.Lessening.{Apart, apart-lasts, good-apart}
use Rattle.replay.proofs.Passing.{Best, Positive, best-price, none-better, positive-kept}
use Rattle.replay.proofs.TradeTells.{best-fill, fill_shows, tells-pair_off, tells-at-price}
use Rattle.replay.proofs.Touching.{Sides, cleared, dear, filled, touch-sides}
use Rattle.replay.proofs.CrossTells.{told-cross}

-- Leg in --------------------------------------------------------------------------------------

-- what shows after trades showed before them
chain-shows : {x s d p : ℕ} {v w : Venue} {rs : List Report} → Chain x s d p v rs w → (t e n : ℕ) → shows_at t e (reg w n) ≡ true → shows_at t e (reg v n) ≡ true
chain-shows no-more t e n h = h
chain-shows (traded {v = v} i q f sh is le rest) t e n h = fill_shows i q v t e n (chain-shows rest t e n h)

best-chain : {x s d p : ℕ} {v w : Venue} {rs : List Report} → Chain x s d p v rs w → (t e q : ℕ) → Best v t e q → Best w t e q
best-chain no-more t e q b = b
best-chain (traded {v = v} i k f sh is le rest) t e q b = best-chain rest t e q (best-fill i k v t e q b)

-- a place that was free is free
free-kept : (l m : Legging) → SameOrGone l m → own_price m ≡ 0 → own_price l ≡ 0
unfolding SameOrGone own_price
free-kept l m (inl e) h = rw e h
free-kept l m (inr e) h = rw e

module _ (i a b k : ℕ) (v : Venue) where
  abbrev c : Complex
  c = cx v i

  abbrev first-leg : Venue → Effect
  first-leg = trade_at_price (c.ratio1 * k) c.id c.series1 c.side1 a (c.ratio1 * k)

  abbrev second-leg : Venue → Effect
  second-leg = trade_at_price (c.ratio2 * k) c.id c.series2 c.side2 b (c.ratio2 * k)

  abbrev u : Venue
  u = (first-leg v).venue

  chain₁ : Chain c.id c.series1 c.side1 a v (first-leg v).reports u
  chain₁ = at-price-chain c.id c.series1 c.side1 a (c.ratio1 * k) (c.ratio1 * k) v

  chain₂ : Chain c.id c.series2 c.side2 b u (second-leg u).reports (second-leg u).venue
  chain₂ = at-price-chain c.id c.series2 c.side2 b (c.ratio2 * k) (c.ratio2 * k) u

  tells-leg_in : Apart v → held c.quantity ≡ true → Best v c.series1 (opposite c.side1) a → Best v c.series2 (opposite c.side2) b → Tells v (leg_in i a b k v)
  unfolding leg_in complex_at ◌⟫◌
  tells-leg_in ap₀ h b₁ b₂ =
      let ap₁ = keeps-at-price apart-lasts c.id c.series1 c.side1 a (c.ratio1 * k) (c.ratio1 * k) v ap₀ in
      let ap₂ = keeps-at-price apart-lasts c.id c.series2 c.side2 b (c.ratio2 * k) (c.ratio2 * k) u ap₁ in
      let same = (chain-elsewhere chain₁).complex in
      tells-then v (first-leg v ⟫ second-leg) (pair_off i c.id (net c a b) k)
      (tells-then v (first-leg v) second-leg
      (tells-at-price c.id c.series1 c.side1 a (c.ratio1 * k) (c.ratio1 * k) v ap₀ b₁ i h refl)
      (tells-at-price c.id c.series2 c.side2 b (c.ratio2 * k) (c.ratio2 * k) u ap₁ (best-chain chain₁ c.series2 (opposite c.side2) b b₂)
      i (rw same h) (ap (λ (l : List Complex). (get_or l i no_complex).id) same)))
      (tells-pair_off i c.id (net c a b) k (legged v i a b k) ap₂ (rw (legged-complex v i a b k) h) (ap (λ (l : List Complex). (get_or l i no_complex).id) (legged-complex v i a b k)))

  -- After it
  abbrev left : Venue
  left = (leg_in i a b k v).venue

  left-regular : left.regular ≡ (legged v i a b k).regular
  left-regular = ap (λ (w : Venue). w.regular) (leg_in-venue v i a b k) ∙ pair-regular i c.id (net c a b) k (legged v i a b k)

  left-shows : (t e n : ℕ) → shows_at t e (reg left n) ≡ true → shows_at t e (reg v n) ≡ true
  left-shows t e n h =
      chain-shows chain₁ t e n (chain-shows chain₂ t e n (subst (λ (l : List Regular). shows_at t e (get_or l n no_regular) ≡ true) left-regular h))

  left-kept : (n : ℕ) → SameOrGone (lg left n) (lg v n)
  left-kept n =
      subst (λ (w : Venue). SameOrGone (lg w n) (lg v n)) (sym (leg_in-venue v i a b k))
      (subst (λ (l : List Legging). SameOrGone (lg (pair_off i c.id (net c a b) k (legged v i a b k)).venue n) (get_or l n no_legging)) (legged-legging v i a b k)
      (unfold pair_off report ◌⟫◌ remove_of remove with_legging fill_complex with_complex in (stayers-kept _ 0 (legged v i a b k).legging n)))

  left-free : (s e : ℕ) → own_price (legging_at v s e) ≡ 0 → own_price (legging_at left s e) ≡ 0
  unfolding legging_at
  left-free s e = free-kept _ _ (left-kept (place_of s e))

  left-order : i < length v.complex → cx left i ≡ less_complex k c
  left-order fits = ap (λ (l : List Complex). get_or l i no_complex) (leg_in-filled v i a b k)
      ∙ (unfold fill_complex with_complex complex_at in (get_or-set_same v.complex i (less_complex k c) no_complex fits))

  left-sides : i < length v.complex → Fewer left.regular v.regular → Sides v c → Sides left (cx left i)
  left-sides fits f x = subst (Sides left) (sym (left-order fits)) (unfold less_complex net in (go x))
    where
      gone : held c.quantity ≡ false → held (c.quantity - k) ≡ false
      gone h = let z = free-none c.quantity h in let y : c.quantity - k ≡ 0 = omega arith in rw y

      go : Sides v c → Sides left (less_complex k c)
      go (filled h) = filled (unfold less_complex in (gone h))
      go (cleared p q) = cleared (unfold less_complex in (left-free c.series1 (opposite c.side1) p)) (unfold less_complex in (left-free c.series2 (opposite c.side2) q))
      go (dear g) = dear (unfold less_complex net in
          (λ m n p q. subst (λ (y : ℕ). le_z (net c y (reg left n).price) c.limit ≡ false) (sym (f.lesser m).price)
          (subst (λ (y : ℕ). le_z (net c (reg v m).price y) c.limit ≡ false) (sym (f.lesser n).price)
          (g m n (left-shows c.series1 (opposite c.side1) m p) (left-shows c.series2 (opposite c.side2) n q)))))

-- the best price that shows, where no legging order stands
best-shown : (v : Venue) (s e : ℕ) → own_price (legging_at v s e) ≡ 0 → Best v s e (best_regular v s e)
best-shown v s e h = best-price v s e (subst (λ (p : ℕ). better e p (best_regular v s e) ≡ false) (sym h) (none-better e (best_regular v s e)))

module _ (v : Venue) (x : Complex) where
  abbrev a₁ : ℕ
  a₁ = best_regular v x.series1 (opposite x.side1)

  abbrev a₂ : ℕ
  a₂ = best_regular v x.series2 (opposite x.side2)

  legs-best : legs_in v x a₁ a₂ ≡ true → Sides v x → Best v x.series1 (opposite x.side1) a₁ × Best v x.series2 (opposite x.side2) a₂
  legs-best h (filled q) = absurd (true≢false (sym (legs-facts v x a₁ a₂ h).0 ∙ q))
  legs-best h (cleared p q) = (best-shown v _ _ p, best-shown v _ _ q)
  legs-best h (dear g) = absurd (true≢false (sym within ∙ beyond))
    where
      within : le_z (net x a₁ a₂) x.limit ≡ true
      within = unfold legs_in in (search (and_l, and_r, h))

      one : ShowsAt x.series1 (opposite x.side1) a₁ v.regular
      one = unfold best_regular in (best-is x.series1 (opposite x.side1) v.regular (unfold best_regular in (legs-facts v x a₁ a₂ h).1))

      two : ShowsAt x.series2 (opposite x.side2) a₂ v.regular
      two = unfold best_regular in (best-is x.series2 (opposite x.side2) v.regular (unfold best_regular in (legs-facts v x a₁ a₂ h).2))

      beyond : le_z (net x a₁ a₂) x.limit ≡ false
      beyond =
          subst (λ (p : ℕ). le_z (net x p a₂) x.limit ≡ false) one.price
          (subst (λ (p : ℕ). le_z (net x (reg v one.at).price p) x.limit ≡ false) two.price (g one.at two.at one.shows two.shows))

-- Work ----------------------------------------------------------------------------------------

-- what is kept from one turn of legging in to the next
record Legging-in (i : ℕ) (v : Venue) : Type 0 where
  fine : Fine v
  sides : Sides v (cx v i)

module _ (i : ℕ) (i32 : i < 32) where
  crosses-on : (v : Venue) → Fine v → TellsTurn Fine v (cross_turn i v)
  crosses-on v f = go (cross_turn i v) (told-cross i v f) (cross_turn-ok i i32 v f tt)
    where
      go : (t : Turn) → TellsTurn Any v t → TurnOk Any v t → TellsTurn Fine v t
      go ended h k = tt
      go (turned e) h k = (h.0, fine-after f k.0)

  told-leg : (v : Venue) → Legging-in i v → TellsTurn (λ w. Fewer w.regular v.regular → Sides w (cx w i)) v (leg_in_turn i v)
  unfolding leg_in_turn complex_at
  told-leg v l =
      let x = cx v i in
      let fits = subst (λ (n : ℕ). i < n) (sym l.fine.good.len2) i32 in
      if-by (TellsTurn (λ w. Fewer w.regular v.regular → Sides w (cx w i)) v) (legs_in v x (a₁ v x) (a₂ v x) && held (units_in v x))
      (λ h.
      let legs = and_l _ (held (units_in v x)) h in
      let best = legs-best v x legs l.sides in (
        tells-leg_in i (a₁ v x) (a₂ v x) (units_in v x) v (good-apart l.fine.good) (legs-facts v x (a₁ v x) (a₂ v x) legs).0 best.0 best.1,
        λ f. left-sides i (a₁ v x) (a₂ v x) (units_in v x) v fits f l.sides,
      ))
      (λ _. tt)

  legs-on : (v : Venue) → Legging-in i v → TellsTurn (Legging-in i) v (leg_in_turn i v)
  legs-on v l = go (leg_in_turn i v) (told-leg v l) (leg_in_turn-ok i i32 v l.fine tt)
    where
      go : (t : Turn) → TellsTurn (λ w. Fewer w.regular v.regular → Sides w (cx w i)) v t → TurnOk Any v t → TellsTurn (Legging-in i) v t
      go ended h k = tt
      go (turned e) h k = (h.0, record { fine = fine-after l.fine k.0; sides = h.1 k.0.moves.regular })

  tells-touch : (v : Venue) → Tells v (touch i v)
  unfolding touch
  tells-touch v = if-by (Tells v) (touches v (complex_at v i)) (λ _. tells-remove _ v) (λ _. tells-nothing v)

  touch-order : (v : Venue) → cx v i ≡ cx (touch i v).venue i
  unfolding touch remove nothing with_legging
  touch-order v = if-by (λ (e : Effect). cx v i ≡ cx e.venue i) (touches v (complex_at v i)) (λ _. refl) (λ _. refl)

  pub tells-work : (v : Venue) → Fine v → Positive v → Tells v (work i v)
  unfolding work ◌⟫◌
  tells-work v f some =
      let n = (complex_at v i).quantity in
      if-by (Tells v) (any_closed v (complex_at v i)) (λ _. tells-nothing v)
      (λ _.
      let crossing = repeat n (cross_turn i) v in
      let p = repeat-carries Any (cross_turn i) (cross_turn-ok i i32) n v f tt in
      let f₁ = fine-after f p in
      let q = touch-carries i i32 crossing.venue f₁ in
      let sides = touch-sides i crossing.venue (positive-kept v crossing.venue p.moves.regular some) in
      tells-then v (crossing ⟫ touch i) (repeat n (leg_in_turn i))
      (tells-then v crossing (touch i) (tells-repeat Fine (cross_turn i) crosses-on n v f) (tells-touch crossing.venue))
      (tells-repeat (Legging-in i) (leg_in_turn i) legs-on n (touch i crossing.venue).venue
      (record { fine = fine-after f₁ q; sides = subst (Sides (touch i crossing.venue).venue) (touch-order crossing.venue) sides })))

-- a sweep's orders, one after another
record Swept (v : Venue) : Type 0 where
  fine : Fine v
  priced : Positive v

one-order : (i : ℕ) (w : Venue) → i < 32 → Swept w → Tells w (work i w) × Swept (work i w).venue
one-order i w i32 s =
    let k = work-carries i i32 w s.fine in
    (tells-work i i32 w s.fine s.priced, record { fine = fine-after s.fine k; priced = positive-kept w (work i w).venue k.moves.regular s.priced })

pub tells-sweep : (places : List ℕ) → Each (λ i. i < 32) places → (v : Venue) → Fine v → Positive v → Tells v (each_of work places v)
tells-sweep places low v f some = tells-each_of Swept work one-order places low v (record { fine = f; priced = some })
