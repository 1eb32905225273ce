-- `Carries v e`: the effect e upon v moves the ledger and keeps the invariant. Here for what a complex order does: cross, touch, leg in.
use mathlib.Core.Path.{◌∙◌, ◌≡◌, ap, refl, subst, sym}
use mathlib.Core.Bool.{◌&&◌, ◌||◌, false≢true, true}
use mathlib.Core.Logic.{◌≢◌}
use mathlib.Core.List.{List}
use Prim.Native.Nat.{◌<◌, min, suc, zero, ℕ}
use native.Mathlib.Omega.{arith}
use lib.Dec.{eqb}
use lib.ListN.{get_or}
use borrow.Author.Tests.{eq-eqb, ne_eqb}
use Rattle.rules.specs.declared.Cause.TheVariants.{Executed}
use Rattle.rules.specs.declared.Complex.{Complex}
use Rattle.rules.specs.declared.Legging.{Legging}
use Rattle.rules.specs.declared.Venue.{Venue}
use Rattle.rules.specs.declared.Verdict.{Verdict}
use Rattle.rules.specs.Base.{held}
use Rattle.rules.specs.Words.{complex_at, no_complex, opposite, with_complex, with_legging, with_regular}
use Rattle.rules.specs.Bytes.{i32}
use Rattle.rules.specs.Effects.{Effect, Turn, ◌⟫◌, ended, nothing, repeat, report, turned}
use Rattle.rules.specs.Prices.{best_regular, best_size}
use Rattle.rules.specs.Removal.{remove, remove_of}
use Rattle.rules.specs.Standing.{settle, show_again, verdict}
use Rattle.rules.specs.Trading.{fill_complex}
use Rattle.rules.specs.Complex.{any_closed, cross, cross_turn, crosses, leg_in, leg_in_turn, legs_in, reversed, touch, touches, units_in, work}
use Rattle.rules.proofs.Cases.{cross_turn-by, if-by, repeat-by}
use Rattle.rules.proofs.Ending.{legs-facts}
use Rattle.rules.proofs.Filling.{cx}
use Rattle.rules.proofs.Ledger.{Moves, moves-nothing, moves-remove, moves-settle, moves-then}
use Rattle.rules.proofs.Moving.{Crosses, moves-cross, other-same_c}
use Rattle.rules.proofs.Pairing.{LegsIn, leg_in-venue, legged, legged-complex, legged-legging, moves-leg_in}
use Rattle.rules.proofs.Picking.{At}
use Rattle.rules.proofs.Tests.{and_l, and_r}
use Rattle.rules.proofs.Units.{units-open, units-size1, units-size2}
use Rattle.demands.proofs.Homes.{Fine, Homes, good-kept, homes-fill, homes-pair_off, homes-remove, homes_same}

pub record Carries (v : Venue) (e : Effect) : Type 0 where
  pub moves : Moves v e
  pub homes : Homes e.venue

pub fine-after : {v : Venue} {e : Effect} → Fine v → Carries v e → Fine e.venue
fine-after f c = record { good = good-kept c.moves f.good; homes = c.homes }

pub carries-then : {v : Venue} (e : Effect) (f : Venue → Effect) → Carries v e → Carries e.venue (f e.venue) → Carries v (e ⟫ f)
unfolding ◌⟫◌
carries-then e f a b = record { moves = moves-then e f a.moves b.moves; homes = b.homes }

pub carries-nothing : (v : Venue) → Fine v → Carries v (nothing v)
unfolding nothing
carries-nothing v f = record { moves = moves-nothing v; homes = f.homes }

pub carries-remove : (g : ℕ → Legging → Verdict) (v : Venue) → Fine v → Carries v (remove g v)
carries-remove g v f = record { moves = moves-remove g v; homes = homes-remove g v f.homes }

pub settle-carries : (v : Venue) → Fine v → Carries v (settle v)
unfolding settle
settle-carries v f =
    let w = show_again v in
    record { moves = moves-settle v; homes = homes-remove (verdict w) w (unfold show_again with_regular in (homes_same refl refl f.homes)) }

-- Turns ---------------------------------------------------------------------------------------

-- what a turn upon v carries, with an invariant E of its own
abbrev pub TurnOk : (Venue → Type 0) → Venue → Turn → Type 0
TurnOk E v ended = Unit {0}
TurnOk E v (turned e) = Carries v e × E e.venue

pub repeat-carries : (E : Venue → Type 0) (turn : Venue → Turn) → ((v : Venue) → Fine v → E v → TurnOk E v (turn v)) →
    (fuel : ℕ) (v : Venue) → Fine v → E v → Carries v (repeat fuel turn v)
repeat-carries E turn ok zero v f x = unfold repeat in (carries-nothing v f)
repeat-carries E turn ok (suc fuel) v f x =
    repeat-by (Carries v) fuel turn v (λ _. carries-nothing v f)
    (λ e is. let k = subst (TurnOk E v) is (ok v f x) in carries-then e _ k.0 (repeat-carries E turn ok fuel _ (fine-after f k.0) k.1))

-- Cross ---------------------------------------------------------------------------------------

pub opposite-not : (d : ℕ) → d ≢ opposite d
unfolding opposite
opposite-not d e = omega arith

-- an order is not its own reverse
reversed-not : (c : Complex) → c.series1 ≢ c.series2 → reversed c c ≡ true → ⊥
unfolding reversed
reversed-not c ne h =
    let z : (eqb c.series1 c.series1 && eqb c.side1 (opposite c.side1) && eqb c.ratio1 c.ratio1
    && eqb c.series2 c.series2 && eqb c.side2 (opposite c.side2) && eqb c.ratio2 c.ratio2
    || eqb c.series1 c.series2 && eqb c.side1 (opposite c.side2) && eqb c.ratio1 c.ratio2
    && eqb c.series2 c.series1 && eqb c.side2 (opposite c.side1) && eqb c.ratio2 c.ratio1) ≡ true = h in
    false≢true (rw (ne_eqb c.series1 c.series2 ne, ne_eqb c.side1 (opposite c.side1) (opposite-not _), eq-eqb c.series1 c.series1 refl) at z)

module _ (i j k : ℕ) (v : Venue) (f : Fine v) (m : Crosses v i j k) where
  cross-homes : Homes (cross i j k v).venue
  unfolding cross report ◌⟫◌ remove_of remove with_legging fill_complex with_complex complex_at
  cross-homes =
      subst (λ (id : ℕ). Homes (remove_of id Executed (fill_complex j k (remove_of (cx v i).id Executed (fill_complex i k v)).venue)).venue)
      (ap (λ (c : Complex). c.id) (other-same_c i j k v m))
      (homes-fill j k Executed (remove_of (cx v i).id Executed (fill_complex i k v)).venue (homes-fill i k Executed v f.homes))

  pub carries-cross : Carries v (cross i j k v)
  carries-cross = record { moves = moves-cross i j k v m; homes = cross-homes }

module _ (i : ℕ) (i32 : i < 32) where
  -- the order that is picked crosses
  picked-crosses : (v : Venue) (j : ℕ) (m : Complex) → Fine v → held (cx v i).quantity ≡ true → At no_complex (crosses v (cx v i)) v.complex j m →
      Crosses v i j (min (cx v i).quantity m.quantity)
  unfolding crosses
  picked-crosses v j m f h a =
      let z = a.is in
      let hm : held m.quantity ≡ true = search (and_l, and_r, z) in
      let rv : reversed (cx v i) m ≡ true = search (and_l, and_r, z) in
      record {
        apart = λ e. reversed-not (cx v i) (f.good.ranges i h).apart (subst (λ (x : Complex). reversed (cx v i) x ≡ true) (sym (ap (λ (n : ℕ). cx v n) e ∙ a.at)) rv);
        fits1 = rw f.good.len2 i32;
        fits2 = a.fits;
        held1 = h;
        held2 = rw a.at hm;
        enough1 = omega arith;
        enough2 = rw a.at (omega arith);
      }

  pub cross_turn-ok : (v : Venue) → Fine v → Unit {0} → TurnOk (λ _. Unit {0}) v (cross_turn i v)
  unfolding complex_at
  cross_turn-ok v f _ =
      cross_turn-by (TurnOk (λ _. Unit {0}) v) i v (λ _. tt) (λ _ _. tt) (λ e j m a. (carries-cross i j _ v f (picked-crosses v j m f e a), tt))

  -- Touch
  pub touch-carries : (v : Venue) → Fine v → Carries v (touch i v)
  unfolding touch
  touch-carries v f = if-by (Carries v) (touches v (complex_at v i)) (λ _. carries-remove _ v f) (λ _. carries-nothing v f)

  -- Leg in
  module _ (a b k : ℕ) (v : Venue) (f : Fine v) (m : LegsIn v i a b k) where
    pub carries-leg_in : Carries v (leg_in i a b k v)
    carries-leg_in = record {
      moves = moves-leg_in v i a b k m;
      homes = rw (leg_in-venue v i a b k) (homes-pair_off i _ _ k (legged v i a b k)
          (ap (λ (l : List Complex). (get_or l i no_complex).id) (sym (legged-complex v i a b k)))
          (homes_same (legged-complex v i a b k) (legged-legging v i a b k) f.homes));
    }

  pub leg_in_turn-ok : (v : Venue) → Fine v → Unit {0} → TurnOk (λ _. Unit {0}) v (leg_in_turn i v)
  unfolding leg_in_turn complex_at best_size
  leg_in_turn-ok v f _ =
      let c = cx v i in
      let a = best_regular v c.series1 (opposite c.side1) in
      let b = best_regular v c.series2 (opposite c.side2) in
      if-by (TurnOk (λ _. Unit {0}) v) (legs_in v c a b && held (units_in v c))
      (λ e. (
        carries-leg_in a b _ v f (record {
          fits = rw f.good.len2 i32;
          holds = (legs-facts v c a b (and_l _ (held (units_in v c)) e)).0;
          apart = (f.good.ranges i (legs-facts v c a b (and_l _ (held (units_in v c)) e)).0).apart;
          enough = units-open v c;
          size1 = units-size1 v c;
          size2 = units-size2 v c;
        }),
        tt,
      ))
      (λ _. tt)

  pub work-carries : (v : Venue) → Fine v → Carries v (work i v)
  unfolding work
  work-carries v f =
      let n = (complex_at v i).quantity in
      if-by (Carries v) (any_closed v (complex_at v i)) (λ _. carries-nothing v f)
      (λ _.
      let p = repeat-carries (λ _. Unit {0}) (cross_turn i) cross_turn-ok n v f tt in
      let q = carries-then _ (touch i) p (touch-carries _ (fine-after f p)) in
      carries-then _ (repeat n (leg_in_turn i)) q (repeat-carries (λ _. Unit {0}) (leg_in_turn i) leg_in_turn-ok n _ (fine-after f q) tt))
