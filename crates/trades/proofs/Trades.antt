-- Laws of trading and taking, for the code that does them.
use Rattle.std.specs.Prelude.{Some, None}
use mathlib.Core.Path.{◌≡◌, refl, sym, ap, ap₂, ◌∙◌}
use mathlib.Core.Bool.{Bool, true, false, not}
use mathlib.Core.List.{List, [], ◌∷◌, ◌++◌}
use Prim.Native.Nat.{ℕ, zero, suc, ◌-◌, ◌≤◌, ◌<◌, min}
use native.Mathlib.Omega.{arith}
use lib.Dec.{eqb}
use lib.ListN.{length}
use borrow.Author.Tests.{ne_eqb}
use Rattle.rules.specs.declared.Regular.{Regular}
use Rattle.rules.specs.declared.Venue.{Venue}
use Rattle.rules.specs.Base.{held, Choice, nobody, picked, first}
use Rattle.rules.specs.Words.{opposite, no_regular, regular_at, earlier}
use Rattle.rules.specs.Prices.{shown_size, shows_at, shows_for}
use Rattle.rules.specs.Records.{trade}
use Rattle.rules.specs.Effects.{Effect, nothing, report, ◌⟫◌}
use Rattle.rules.specs.Trading.{fill_regular, trade_with, trade_at_price}
use Rattle.rules.proofs.Tests.{and_l, held-pos}
use Rattle.rules.proofs.Picking.{first-chosen}
use Rattle.records.specs.Seen.{seen, ◌writes◌}
use Rattle.records.specs.Stage.{stage, ◌does◌}
use Rattle.records.proofs.StageLaws.{onward, does-nothing, does-report, does-room}
use Rattle.places.specs.Layout.{size, regulars_used, venue_of, SameCounts}
use Rattle.book.specs.Picks.{pick_of}
use Rattle.book.proofs.PicksLaws.{picked-is, nobody-is, regular-used, for-free}
use Rattle.places.proofs.Beside.{counts-on}

-- One trade -----------------------------------------------------------------------------------

pub trade-law : (taker d j k : ℕ) (v w : Venue) (o : Regular) (l m : List ℕ) (at i : ℕ) → o ≡ regular_at v j → w ≡ fill_regular j k v →
    seen l at ≡ seen m i writes (trade o.series d o.price k taker o.id ∷ []) → stage w l at ≡ seen m i does trade_with taker d j k v
unfolding trade_with
trade-law taker d j k v w o l m at i eo ew h =
    does-report w l m at i _ h
    ∙ ap (λ (x : Venue). seen m i does report (trade o.series d o.price k taker o.id) x) ew
    ∙ ap (λ (x : Regular). seen m i does report (trade x.series d x.price k taker x.id) (fill_regular j k v)) eo

-- Taking --------------------------------------------------------------------------------------

-- the same continuation, the same effect
then_same : (e : Effect) (f g : Venue → Effect) → f e.venue ≡ g e.venue → (e ⟫ f) ≡ (e ⟫ g)
unfolding ◌⟫◌
then_same e f g h = ap (λ (x : Effect). record { venue = x.venue; reports = e.reports ++ x.reports }) h

-- an order that shows for a price shows at least one contract
shows-some : (s d p : ℕ) (o : Regular) → shows_for s d p o ≡ true → 0 < shown_size o
unfolding shows_for shows_at
shows-some s d p o h = held-pos (shown_size o) (and_l (held (shown_size o)) (eqb o.series s) (and_l _ (eqb o.side d) (and_l _ (eqb o.price p) h)))

module _ (taker s d p : ℕ) where
  abbrev wanted : Venue → Choice Regular
  wanted v = first (shows_for s (opposite d) p) earlier v.regular

  pub at-price-done : (f : ℕ) (v : Venue) → nothing v ≡ trade_at_price f taker s d p 0 v
  unfolding trade_at_price
  at-price-done zero v = refl
  at-price-done (suc f) v = refl

  -- more fuel than contracts changes nothing
  at-price-fuel : (f g k : ℕ) (v : Venue) → k ≤ f → k ≤ g → trade_at_price f taker s d p k v ≡ trade_at_price g taker s d p k v
  unfolding trade_at_price
  at-price-fuel zero g k v a b =
      let z : k ≡ 0 = omega arith in
      ap (λ (x : ℕ). trade_at_price zero taker s d p x v) z ∙ at-price-done g v ∙ ap (λ (x : ℕ). trade_at_price g taker s d p x v) (sym z)
  at-price-fuel (suc f) zero k v a b =
      let z : k ≡ 0 = omega arith in
      ap (λ (x : ℕ). trade_at_price (suc f) taker s d p x v) z ∙ sym (at-price-done (suc f) v) ∙ ap (λ (x : ℕ). trade_at_price zero taker s d p x v) (sym z)
  at-price-fuel (suc f) (suc g) k v a b = go (held k) refl (wanted v) refl (λ x w. at-price-fuel f g x w)
    where
      some : (i : ℕ) (o : Regular) → wanted v ≡ picked i o → 0 < shown_size o
      some i o h = shows-some s (opposite d) p o (rw h at (first-chosen no_regular (shows_for s (opposite d) p) earlier v.regular)).is

      go : (t : Bool) → held k ≡ t → (x : Choice Regular) → wanted v ≡ x → ((y : ℕ) (w : Venue) → y ≤ f → y ≤ g → trade_at_price f taker s d p y w ≡ trade_at_price g taker s d p y w) →
          ◌≡◌ {A = Effect}
          (elim t [ false ↦ nothing v | true ↦ elim x [ nobody ↦ nothing v | picked i o ↦ trade_with taker d i (min k (shown_size o)) v ⟫ trade_at_price f taker s d p (k - min k (shown_size o)) ] ])
          (elim t [ false ↦ nothing v | true ↦ elim x [ nobody ↦ nothing v | picked i o ↦ trade_with taker d i (min k (shown_size o)) v ⟫ trade_at_price g taker s d p (k - min k (shown_size o)) ] ])
      go false e x h r = refl
      go true e nobody h r = refl
      go true e (picked i o) h r =
          let q = some i o h in
          then_same (trade_with taker d i (min k (shown_size o)) v) (trade_at_price f taker s d p (k - min k (shown_size o))) (trade_at_price g taker s d p (k - min k (shown_size o)))
          (r (k - min k (shown_size o)) (trade_with taker d i (min k (shown_size o)) v).venue (omega arith) (omega arith))

  module _ (v : Venue) where
    -- the definition, of what its tests come to
    at-price-by : (f k : ℕ) (t : Bool) (x : Choice Regular) → held k ≡ t → wanted v ≡ x →
        ◌≡◌ {A = Effect} (trade_at_price (suc f) taker s d p k v)
        (elim t [ false ↦ nothing v | true ↦ elim x [ nobody ↦ nothing v | picked i o ↦ trade_with taker d i (min k (shown_size o)) v ⟫ trade_at_price f taker s d p (k - min k (shown_size o)) ] ])
    unfolding trade_at_price
    at-price-by f k t x e h =
        ap₂ (λ (t : Bool) (x : Choice Regular). elim t [
          | false ↦ nothing v
          | true ↦ elim x [
            | nobody ↦ nothing v
            | picked i o ↦ trade_with taker d i (min k (shown_size o)) v ⟫ trade_at_price f taker s d p
                (k - min k (shown_size o))
          ]
        ]) e h

    pub at-price-out : (k : ℕ) → 0 < k → None ≡ pick_of (wanted v) → nothing v ≡ trade_at_price k taker s d p k v
    at-price-out zero n e = absurd (omega arith)
    at-price-out (suc k) n e = sym (at-price-by k (suc k) true nobody (ap not (ne_eqb (suc k) 0 (λ z. omega arith))) (nobody-is _ e))

    more : (f i : ℕ) (o : Regular) → Some (i, o) ≡ pick_of (wanted v) →
        trade_at_price (suc f) taker s d p (suc f) v ≡ (trade_with taker d i (min (suc f) (shown_size o)) v ⟫ trade_at_price f taker s d p (suc f - min (suc f) (shown_size o)))
    more f i o e = at-price-by f (suc f) true (picked i o) (ap not (ne_eqb (suc f) 0 (λ z. omega arith))) (picked-is _ i o e)

    -- a turn of the loop takes q contracts, at least one
    module _ (k i : ℕ) (o : Regular) (q : ℕ) (n : 0 < k) (e : Some (i, o) ≡ pick_of (wanted v)) (r : q ≡ min k (shown_size o)) where
      pub at-price-some : 0 < q
      at-price-some =
          let x = shows-some s (opposite d) p o (rw (picked-is _ i o e) at (first-chosen no_regular (shows_for s (opposite d) p) earlier v.regular)).is in
          omega arith

      pub at-price-turn : (w : Venue) (l m : List ℕ) (at j : ℕ) → stage w l at ≡ seen m j does trade_with taker d i q v →
          seen l at does trade_at_price (k - q) taker s d p (k - q) w ≡ seen m j does trade_at_price k taker s d p k v
      at-price-turn w l m at j h =
          let z : suc (k - 1) ≡ k = omega arith in
          ap (λ (x : Effect). seen l at does x) (at-price-fuel (k - q) (k - 1) (k - q) w (omega arith) (let y = at-price-some in omega arith))
          ∙ sym (onward (seen m j) (trade_with taker d i q v) (trade_at_price (k - 1) taker s d p (k - q)) w l at h)
          ∙ ap (λ (x : ℕ). seen m j does (trade_with taker d i x v ⟫ trade_at_price (k - 1) taker s d p (k - x))) r
          ∙ ap (λ (x : ℕ). seen m j does (trade_with taker d i (min x (shown_size o)) v ⟫ trade_at_price (k - 1) taker s d p (x - min x (shown_size o)))) (sym z)
          ∙ ap (λ (x : Effect). seen m j does x) (sym (more (k - 1) i o e))
          ∙ ap (λ (x : ℕ). seen m j does trade_at_price x taker s d p x v) z

-- The loop ------------------------------------------------------------------------------------

-- its invariant: what is left to take
pub record Taking (taker s d p k : ℕ) (b₀ out₀ : List ℕ) (at : ℕ) (b out : List ℕ) (pos left : ℕ) : Type 0 where
  pub whole : length b ≡ size
  pub counts : SameCounts b₀ b
  pub rest : seen out pos does trade_at_price left taker s d p left (venue_of b) ≡ seen out₀ at does trade_at_price k taker s d p k (venue_of b₀)

pub taking-start : (taker s d p k : ℕ) (b out : List ℕ) (at : ℕ) → length b ≡ size → Taking taker s d p k b out at b out at k
taking-start taker s d p k b out at h = record { whole = h; counts = record { regulars = refl; complexes = refl; right = λ h. h }; rest = refl }

module _ {taker s d p k : ℕ} {b₀ out₀ b out : List ℕ} {at pos left : ℕ} (i : Taking taker s d p k b₀ out₀ at b out pos left) where
  taken_out : nothing (venue_of b) ≡ trade_at_price left taker s d p left (venue_of b) →
      (stage (venue_of b) out pos ≡ seen out₀ at does trade_at_price k taker s d p k (venue_of b₀)) × SameCounts b₀ b
  taken_out e = (does-nothing (venue_of b) out pos ∙ ap (λ (x : Effect). seen out pos does x) e ∙ i.rest, i.counts)

  pub taking-end : left ≤ 0 → (stage (venue_of b) out pos ≡ seen out₀ at does trade_at_price k taker s d p k (venue_of b₀)) × SameCounts b₀ b
  taking-end h =
      let z : left ≡ 0 = omega arith in
      taken_out (rw z (at-price-done taker s d p 0 (venue_of b)))

  pub taking-none : (other : ℕ) → 0 < left → other ≡ opposite d → None ≡ pick_of (first (shows_for s other p) earlier (venue_of b).regular) →
      (stage (venue_of b) out pos ≡ seen out₀ at does trade_at_price k taker s d p k (venue_of b₀)) × SameCounts b₀ b
  taking-none other h eo e =
      taken_out (at-price-out taker s d p (venue_of b) left h (e ∙ ap (λ (x : ℕ). pick_of (first (shows_for s x p) earlier (venue_of b).regular)) eo))

  module _ (other j : ℕ) (o : Regular) (q : ℕ) (h : 0 < left) (eo : other ≡ opposite d)
      (e : Some (j, o) ≡ pick_of (first (shows_for s other p) earlier (venue_of b).regular)) (x : ℕ) (ex : x ≡ shown_size o) (r : q ≡ min x left) where
    taken : q ≡ min left (shown_size o)
    taken = omega arith

    found : Some (j, o) ≡ pick_of (first (shows_for s (opposite d) p) earlier (venue_of b).regular)
    found = e ∙ ap (λ (x : ℕ). pick_of (first (shows_for s x p) earlier (venue_of b).regular)) eo

    pub taking-used : j < regulars_used b
    taking-used = (regular-used _ _ (for-free s other p) b j o (picked-is _ j o e)).used

    pub taking-less : left - q < left
    taking-less = let x = at-price-some taker s d p (venue_of b) left j o q h found taken in omega arith

    pub taking-turn : (b₁ out₁ : List ℕ) (pos₁ : ℕ) → length b₁ ≡ length b →
        (stage (venue_of b₁) out₁ pos₁ ≡ seen out pos does trade_with taker d j q (venue_of b)) × SameCounts b b₁ →
        Taking taker s d p k b₀ out₀ at b₁ out₁ pos₁ (left - q)
    taking-turn b₁ out₁ pos₁ n w = record {
      whole = n ∙ i.whole;
      counts = counts-on b₀ b b₁ i.counts w.1;
      rest = at-price-turn taker s d p (venue_of b) left j o q h found taken (venue_of b₁) out₁ out pos₁ pos w.0 ∙ i.rest;
    }

  pub taking-room : length out ≡ length out₀
  taking-room = does-room out out₀ pos at _ _ i.rest
