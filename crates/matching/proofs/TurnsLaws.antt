-- Laws of turns: what an incoming order does next, and the loop of it.
use Rattle.std.specs.Prelude.{if◌then◌else◌, Option, Some, None}
use mathlib.Core.Path.{◌≡◌, refl, sym, ap, ◌∙◌}
use mathlib.Core.Bool.{Bool, true, false, not}
use mathlib.Core.List.{List}
use Prim.Native.Nat.{ℕ, zero, suc, ◌≤◌, ◌<◌, min}
use native.Mathlib.Omega.{arith}
use lib.ListN.{length}
use borrow.Author.Tests.{eq-eqb, ne_eqb}
use Rattle.rules.specs.declared.Regular.{Regular}
use Rattle.rules.specs.declared.Legging.{Legging}
use Rattle.rules.specs.declared.Venue.{Venue}
use Rattle.rules.specs.Base.{held, Choice, nobody, picked, first}
use Rattle.rules.specs.Words.{opposite, regular_at, legging_at}
use Rattle.rules.specs.Prices.{own_price, better, reaches, shown_size}
use Rattle.rules.specs.Effects.{Effect, nothing, ◌⟫◌, Turn, ended, turned, repeat}
use Rattle.rules.specs.Trading.{free_regular, put_regular}
use Rattle.rules.specs.Order.{is_met, price_then_id, at_once, first_met, legging_first, meet, hit, meet_turn, enter_regular}
use Rattle.records.specs.Seen.{seen}
use Rattle.records.specs.Stage.{stage, ◌does◌}
use Rattle.records.proofs.StageLaws.{onward, does-nothing, does-room}
use Rattle.places.specs.Layout.{size, regulars_used, venue_of, SameCounts}
use Rattle.book.specs.Picks.{pick_of}
use Rattle.book.proofs.PicksLaws.{picked-is, nobody-is, regular-used, met-free}
use Rattle.places.proofs.Beside.{counts-on}

-- Who comes first -----------------------------------------------------------------------------

module _ (o : Regular) (l : Legging) (p own : ℕ) (e : own ≡ own_price l) where
  pub first-none : own ≡ 0 → false ≡ legging_first o l p
  unfolding legging_first
  first-none h = rw (← e) (simp (eq-eqb _ _ h))

  pub first-far : (own ≡ 0 → ⊥) → reaches o.side o.price own ≡ false → false ≡ legging_first o l p
  unfolding legging_first
  first-far n h = rw (← e) (simp (ne_eqb _ _ n, h))

  pub first-near : (t : Bool) (facing : ℕ) → (own ≡ 0 → ⊥) → reaches o.side o.price own ≡ true → facing ≡ opposite o.side → t ≡ better facing own p → t ≡ legging_first o l p
  unfolding legging_first
  first-near t facing n h f b = rw (← e) (simp (ne_eqb _ _ n, h) (b ∙ ap (λ (z : ℕ). better z own p) f))

-- What is traded at once ------------------------------------------------------------------------

module _ (m : Regular) (x : ℕ) (e : x ≡ shown_size m) where
  pub once-reserve : x ≡ 0 → m.quantity ≡ at_once m
  unfolding at_once
  once-reserve h = rw (← e, h)

  pub once-size : (x ≡ 0 → ⊥) → x ≡ at_once m
  unfolding at_once
  once-size n = rw (← e, ne_eqb x 0 n)

-- What comes next -----------------------------------------------------------------------------

-- the turn of the order at place i, by its parts
module _ (i : ℕ) (v : Venue) where
  abbrev by-pick : Regular → Legging → Choice Regular → Turn
  by-pick o l x = elim x [
    | nobody ↦ if legging_first o l 0 then turned (hit i l (min o.quantity l.quantity) v) else ended
    | picked j m ↦
        if legging_first o l m.price then turned (hit i l (min o.quantity l.quantity) v)
        else turned (meet i j (min o.quantity (at_once m)) v)
  ]

  abbrev by-test : Bool → Turn → Turn
  by-test t x = if t then ended else x

  turn_by : let o = regular_at v i in
      meet_turn i v ≡ by-test (not (held o.quantity)) (by-pick o (legging_at v o.series (opposite o.side)) (first (is_met o.series o.side o.price) price_then_id v.regular))
  unfolding meet_turn first_met
  turn_by = refl

module _ (i : ℕ) (v : Venue) (o : Regular) (eo : o ≡ regular_at v i) where
  pub turn-idle : o.quantity ≡ 0 → ended ≡ meet_turn i v
  unfolding meet_turn
  turn-idle h = rw (ap (λ (x : Regular). not (held x.quantity)) (sym eo) ∙ ap (λ (b : Bool). not (not b)) (eq-eqb _ _ h), meet_turn)

  module _ (l : Legging) (n : o.quantity ≡ 0 → ⊥) (el : l ≡ legging_at v o.series (opposite o.side)) where
    -- the definition, of this order and this legging order
    turn_is : (x : Choice Regular) → first (is_met o.series o.side o.price) price_then_id v.regular ≡ x → by-pick i v o l x ≡ meet_turn i v
    turn_is x e =
        sym (turn_by i v
        ∙ ap (λ (o : Regular). by-test i v (not (held o.quantity))
        (by-pick i v o (legging_at v o.series (opposite o.side)) (first (is_met o.series o.side o.price) price_then_id v.regular)))
        (sym eo)
        ∙ ap (λ (t : Bool). by-test i v (not (not t))
        (by-pick i v o (legging_at v o.series (opposite o.side)) (first (is_met o.series o.side o.price) price_then_id v.regular)))
        (ne_eqb _ _ n)
        ∙ ap (λ (l : Legging). by-pick i v o l (first (is_met o.series o.side o.price) price_then_id v.regular)) (sym el)
        ∙ ap (by-pick i v o l) e)

    abbrev met : Option (ℕ × Regular)
    met = pick_of (first (is_met o.series o.side o.price) price_then_id v.regular)

    pub none-hit : (k : ℕ) → None ≡ met → legging_first o l 0 ≡ true → k ≡ min o.quantity l.quantity → turned (hit i l k v) ≡ meet_turn i v
    none-hit k e g q = ap (λ (x : ℕ). turned (hit i l x v)) q ∙ sym (ap (λ (t : Bool). if t then turned (hit i l (min o.quantity l.quantity) v) else ended) g) ∙ turn_is nobody (nobody-is _ e)

    pub none_end : None ≡ met → legging_first o l 0 ≡ false → ended ≡ meet_turn i v
    none_end e g = sym (ap (λ (t : Bool). if t then turned (hit i l (min o.quantity l.quantity) v) else ended) g) ∙ turn_is nobody (nobody-is _ e)

    module _ (j : ℕ) (m : Regular) (e : Some (j, m) ≡ met) where
      abbrev either : Bool → Turn
      either t = if t then turned (hit i l (min o.quantity l.quantity) v) else turned (meet i j (min o.quantity (at_once m)) v)

      pub some-hit : (k : ℕ) → legging_first o l m.price ≡ true → k ≡ min o.quantity l.quantity → turned (hit i l k v) ≡ meet_turn i v
      some-hit k g q = ap (λ (x : ℕ). turned (hit i l x v)) q ∙ sym (ap either g) ∙ turn_is (picked j m) (picked-is _ j m e)

      pub some-meet : (k x : ℕ) → legging_first o l m.price ≡ false → x ≡ at_once m → k ≡ min o.quantity x → turned (meet i j k v) ≡ meet_turn i v
      some-meet k x g ex q = ap (λ (x : ℕ). turned (meet i j x v)) (q ∙ ap (min o.quantity) ex) ∙ sym (ap either g) ∙ turn_is (picked j m) (picked-is _ j m e)

-- whoever is met stands at a place in use
pub met-used : (b : List ℕ) (s d p j : ℕ) (m : Regular) → Some (j, m) ≡ pick_of (first (is_met s d p) price_then_id (venue_of b).regular) → j < regulars_used b
met-used b s d p j m e = (regular-used _ _ (met-free s d p) b j m (picked-is _ j m e)).used

-- The loop ------------------------------------------------------------------------------------

-- turns upon a venue: none left, one that ended, one more
module _ (turn : Venue → Turn) (v : Venue) where
  repeat-zero : (f : ℕ) → f ≡ 0 → nothing v ≡ repeat f turn v
  unfolding repeat
  repeat-zero f e = rw e

  repeat-stop : (f : ℕ) → ended ≡ turn v → nothing v ≡ repeat f turn v
  unfolding repeat
  repeat-stop zero e = refl
  repeat-stop (suc f) e = rw (sym e, repeat)

  more : (f : ℕ) (e : Effect) → turned e ≡ turn v → repeat (suc f) turn v ≡ (e ⟫ repeat f turn)
  unfolding repeat
  more f e q = rw (sym q, repeat)

  repeat-turn : (t f : ℕ) (e : Effect) (w : Venue) (l m : List ℕ) (at j : ℕ) → suc f ≡ t → turned e ≡ turn v →
      stage w l at ≡ seen m j does e → seen l at does repeat f turn w ≡ seen m j does repeat t turn v
  repeat-turn t f e w l m at j z q s =
      sym (onward (seen m j) e (repeat f turn) w l at s)
      ∙ ap (λ (x : Effect). seen m j does x) (sym (more f e q))
      ∙ ap (λ (x : ℕ). seen m j does repeat x turn v) z

-- the invariant of a loop of turns: the turns that are left
pub record Turning (turn : Venue → Turn) (k : ℕ) (b₀ out₀ : List ℕ) (at : ℕ) (b out : List ℕ) (pos turns : ℕ) : Type 0 where
  pub whole : length b ≡ size
  pub counts : SameCounts b₀ b
  pub rest : seen out pos does repeat turns turn (venue_of b) ≡ seen out₀ at does repeat k turn (venue_of b₀)

pub turning-start : (turn : Venue → Turn) (k : ℕ) (b out : List ℕ) (at : ℕ) → length b ≡ size → Turning turn k b out at b out at k
turning-start turn k b out at h = record { whole = h; counts = record { regulars = refl; complexes = refl; right = λ h. h }; rest = refl }

module _ {turn : Venue → Turn} {k : ℕ} {b₀ out₀ b out : List ℕ} {at pos turns : ℕ} (i : Turning turn k b₀ out₀ at b out pos turns) where
  turned-out : nothing (venue_of b) ≡ repeat turns turn (venue_of b) →
      (stage (venue_of b) out pos ≡ seen out₀ at does repeat k turn (venue_of b₀)) × SameCounts b₀ b
  turned-out e = (does-nothing (venue_of b) out pos ∙ ap (λ (x : Effect). seen out pos does x) e ∙ i.rest, i.counts)

  pub turning-end : turns ≤ 0 → (stage (venue_of b) out pos ≡ seen out₀ at does repeat k turn (venue_of b₀)) × SameCounts b₀ b
  turning-end h = turned-out (repeat-zero turn (venue_of b) turns (omega arith))

  pub turning-stop : ended ≡ turn (venue_of b) → (stage (venue_of b) out pos ≡ seen out₀ at does repeat k turn (venue_of b₀)) × SameCounts b₀ b
  turning-stop e = turned-out (repeat-stop turn (venue_of b) turns e)

  pub turning-turn : (e : Effect) (b₁ out₁ : List ℕ) (pos₁ next : ℕ) → suc next ≡ turns → turned e ≡ turn (venue_of b) → length b₁ ≡ length b →
      (stage (venue_of b₁) out₁ pos₁ ≡ seen out pos does e) × SameCounts b b₁ → Turning turn k b₀ out₀ at b₁ out₁ pos₁ next
  turning-turn e b₁ out₁ pos₁ next h q n w = record {
    whole = n ∙ i.whole;
    counts = counts-on b₀ b b₁ i.counts w.1;
    rest = repeat-turn turn (venue_of b) turns next e (venue_of b₁) out₁ out pos₁ pos h q w.0 ∙ i.rest;
  }

  pub turning-room : length out ≡ length out₀
  turning-room = does-room out out₀ pos at _ _ i.rest

-- Entering ------------------------------------------------------------------------------------

pub enter-law : (o : Regular) (v w : Venue) (i : ℕ) → i ≡ free_regular v → w ≡ put_regular i o v → repeat o.quantity (meet_turn i) w ≡ enter_regular o v
unfolding enter_regular
enter-law o v w i e q =
    ap (λ (x : Venue). repeat o.quantity (meet_turn i) x) q
    ∙ ap (λ (k : ℕ). repeat o.quantity (meet_turn k) (put_regular k o v)) e
