-- Trades, pairs and hits tell what they do, and pass nothing over.
use mathlib.Core.Path.{◌∙◌, ◌≡◌, ap, subst, sym}
use mathlib.Core.Bool.{false, true}
use mathlib.Core.Logic.{◌≢◌}
use mathlib.Core.List.{List}
use Prim.Native.Nat.{◌≤◌, ℕ}
use native.Mathlib.Omega.{arith}
use lib.Dec.{eqb}
use lib.IntN.{ℤ}
use Rattle.rules.specs.declared.Regular.{Regular}
use Rattle.rules.specs.declared.Venue.{Venue}
use Rattle.rules.specs.Base.{held}
use Rattle.rules.specs.Words.{legging_at, opposite, regular_at, with_regular}
use Rattle.rules.specs.Records.{Report, pair, trade}
use Rattle.rules.specs.Effects.{◌⟫◌, nothing, report}
use Rattle.rules.specs.Prices.{better, shown_size, shows_at}
use Rattle.rules.specs.Removal.{remove_of}
use Rattle.rules.specs.Trading.{fill_complex, fill_regular, pair_off, trade_at_price, trade_with}
use Rattle.rules.specs.Order.{meet}
use Rattle.rules.proofs.Filling.{Lesser, cx, fill-complex, fill-fewer, filled-other, reg}
use Rattle.rules.proofs.Sizes.{fill-shown, rests-series, shown-most, shows-held, shows-rests}
use Rattle.rules.proofs.TradingLaws.{Chain, no-more, at-price-chain, traded}
use Rattle.rules.proofs.Tests.{and_l, and_r, held-pos, pos-held}
use Rattle.replay.specs.Replay.{State, lessen_complex, lessen_order, next, noted}
use Rattle.replay.specs.Moments.{NonePassedOver}
use Rattle.replay.proofs.TellsLaws.{Tells, tells-nothing, tells-report, tells-then}
use Rattle.replay.proofs.Placing.{tells-remove}
use Rattle.replay.proofs.Lessening.{Apart, apart-lasts, lessen-complex, lessen-no-order, lessen-order}
use Rattle.replay.proofs.Passing.{Best, taking-passes-none}

-- Records -------------------------------------------------------------------------------------

pub next-trade : (s d p q x y : ℕ) (v w : Venue) → lessen_order y q (lessen_order x q v) ≡ w → (a : State) → next (trade s d p q x y) (noted a v) ≡ noted a w
unfolding next noted
next-trade s d p q x y v w e a = ap (noted a) e

next-pair : (id : ℕ) (n : ℤ) (q : ℕ) (v w : Venue) → lessen_complex id q v ≡ w → (a : State) → next (pair id n q) (noted a v) ≡ noted a w
unfolding next noted
next-pair id n q v w e a = ap (noted a) e

-- Taking at a price ---------------------------------------------------------------------------

-- no fill makes an order show that did not
shows_kept : {a b : Regular} (s e : ℕ) → Lesser a b → shown_size a ≤ shown_size b → shows_at s e a ≡ true → shows_at s e b ≡ true
unfolding shows_at
shows_kept {a} {b} s e l le h =
    let x : held (shown_size a) ≡ true = search (and_l, and_r, h) in
    let y : eqb a.series s ≡ true = search (and_l, and_r, h) in
    let z : eqb a.side e ≡ true = search (and_l, and_r, h) in
    let k = held-pos (shown_size a) x in
    rw (pos-held (shown_size b) (omega arith), rw l.series at y, rw l.side at z)

pub fill_shows : (i q : ℕ) (v : Venue) (s e n : ℕ) → shows_at s e (reg (fill_regular i q v) n) ≡ true → shows_at s e (reg v n) ≡ true
fill_shows i q v s e n = shows_kept s e ((fill-fewer i q v).lesser n) (fill-shown i q v n)

pub best-fill : (i q : ℕ) (v : Venue) (s e p : ℕ) → Best v s e p → Best (fill_regular i q v) s e p
best-fill i q v s e p b = record {
  shown = λ n t. subst (λ (x : ℕ). better e x p ≡ false) (sym ((fill-fewer i q v).lesser n).price) (b.shown n (fill_shows i q v s e n t));
  legging = unfold legging_at fill_regular with_regular in b.legging;
}

-- one trade: the complex order x, at place c of its book, with the regular order at place i
module _ (v : Venue) (a : Apart v) (s d p x c : ℕ) (b : Best v s (opposite d) p) (hc : held (cx v c).quantity ≡ true) (ex : (cx v c).id ≡ x) where
  lessens : (i q : ℕ) → held (reg v i).quantity ≡ true → lessen_order (reg v i).id q (lessen_order x q v) ≡ fill_regular i q v
  lessens i q hi =
      ap (lessen_order (reg v i).id q) (subst (λ (y : ℕ). lessen_order y q v ≡ v) ex (lessen-no-order v a c q hc)) ∙ lessen-order v a i q hi

  one-trade : (i q : ℕ) → shows_at s (opposite d) (regular_at v i) ≡ true → (regular_at v i).price ≡ p → q ≤ shown_size (regular_at v i) →
      Tells v (report (trade (regular_at v i).series d (regular_at v i).price q x (regular_at v i).id) (fill_regular i q v))
  unfolding regular_at
  one-trade i q sh e le =
      let hi = shows-held s (opposite d) (reg v i) sh in
      let rests = shows-rests s (opposite d) (reg v i) sh in
      let t = rests-series s (opposite d) (reg v i) rests in
      let most = shown-most (reg v i) in
      tells-report _ v _ (next-trade (reg v i).series d (reg v i).price q x (reg v i).id v (fill_regular i q v) (lessens i q hi))
      (subst (λ (n : ℕ). NonePassedOver v n d (reg v i).price q x (reg v i).id) (sym t)
      (subst (λ (n : ℕ). NonePassedOver v s d n q x (reg v i).id) (sym e) (taking-passes-none v a s d p x b c hc ex i q rests e (omega arith))))

-- all of them
pub tells-chain : {x s d p : ℕ} {v w : Venue} {rs : List Report} → Chain x s d p v rs w → Apart v → Best v s (opposite d) p →
    (c : ℕ) → held (cx v c).quantity ≡ true → (cx v c).id ≡ x → Tells v (record { venue = w; reports = rs })
unfolding report ◌⟫◌ nothing
tells-chain {v = v} no-more a b c hc ex = tells-nothing v
tells-chain {x = x} {s = s} {d = d} {p = p} (traded {v = v} i q {rs} {w} f sh e le rest) a b c hc ex =
    tells-then v (report (trade (regular_at v i).series d (regular_at v i).price q x (regular_at v i).id) (fill_regular i q v)) (λ _. record { venue = w; reports = rs })
    (one-trade v a s d p x c b hc ex i q sh e le)
    (tells-chain rest (apart-lasts.fill_r i q v a) (best-fill i q v s (opposite d) p b) c (rw (fill-complex i q v) hc) (rw (fill-complex i q v) ex))

pub tells-at-price : (x s d p fuel k : ℕ) (v : Venue) → Apart v → Best v s (opposite d) p → (c : ℕ) → held (cx v c).quantity ≡ true → (cx v c).id ≡ x → Tells v (trade_at_price fuel x s d p k v)
tells-at-price x s d p fuel k v a b c hc ex = tells-chain (at-price-chain x s d p fuel k v) a b c hc ex

-- The pair ------------------------------------------------------------------------------------

pub tells-pair_off : (i id : ℕ) (n : ℤ) (k : ℕ) (v : Venue) → Apart v → held (cx v i).quantity ≡ true → (cx v i).id ≡ id → Tells v (pair_off i id n k v)
unfolding pair_off remove_of
tells-pair_off i id n k v a h e =
    tells-then v _ _
    (tells-report _ v _ (next-pair id n k v (fill_complex i k v) (subst (λ (y : ℕ). lessen_complex y k v ≡ fill_complex i k v) e (lessen-complex v a i k h))) tt)
    (tells-remove _ _)

-- A regular order meets another ---------------------------------------------------------------

pub tells-meet : (i j k : ℕ) (v : Venue) → Apart v → j ≢ i → held (reg v i).quantity ≡ true → held (reg v j).quantity ≡ true →
    NonePassedOver v (reg v j).series (reg v i).side (reg v j).price k (reg v i).id (reg v j).id → Tells v (meet i j k v)
unfolding meet trade_with regular_at
tells-meet i j k v a ne hi hj none =
    subst (λ (o : Regular). Tells v (report (trade o.series (reg v i).side o.price k (reg v i).id o.id) (fill_regular j k (fill_regular i k v)))) (sym same)
    (tells-report _ v _ (next-trade (reg v j).series (reg v i).side (reg v j).price k (reg v i).id (reg v j).id v (fill_regular j k (fill_regular i k v)) lessens-both) none)
  where
    same : reg (fill_regular i k v) j ≡ reg v j
    same = filled-other i k v j ne

    lessens-both : lessen_order (reg v j).id k (lessen_order (reg v i).id k v) ≡ fill_regular j k (fill_regular i k v)
    lessens-both =
        ap (lessen_order (reg v j).id k) (lessen-order v a i k hi)
        ∙ subst (λ (o : Regular). lessen_order o.id k (fill_regular i k v) ≡ fill_regular j k (fill_regular i k v)) same
        (lessen-order (fill_regular i k v) (apart-lasts.fill_r i k v a) j k (subst (λ (o : Regular). held o.quantity ≡ true) (sym same) hj))
