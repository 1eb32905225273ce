-- Generation and sweeps carry the invariant and leave every legging order standing. `Stood v e`: the effect e upon v does both.
use Rattle.std.specs.Prelude.{if◌then◌else◌}
use mathlib.Core.Path.{◌∙◌, ◌≡◌, ap, refl, subst, sym}
use mathlib.Core.Bool.{Bool, ◌&&◌, false, true}
use mathlib.Core.Logic.{◌≢◌, inl, inr}
use mathlib.Core.List.{List, [], ◌∷◌}
use Prim.Native.Nat.{◌<◌, ℕ}
use native.Mathlib.Decide.{ℕ_discrete}
use native.Mathlib.Omega.{arith}
use lib.Dec.{eqb}
use lib.ListN.{get_or, length, length-set, set, take}
use lib.Seq.{get_or-set_other, get_or-set_same}
use Rattle.rules.specs.declared.Cause.TheVariants.{Replaced}
use Rattle.rules.specs.declared.Complex.{Complex}
use Rattle.rules.specs.declared.Legging.{Legging}
use Rattle.rules.specs.declared.Venue.{Venue}
use Rattle.rules.specs.declared.Verdict.{Verdict}
use Rattle.rules.specs.Base.{held}
use Rattle.rules.specs.Words.{complex_at, no_complex, no_legging, one_to_one, opposite, place_of, with_generations, with_legging, with_reached}
use Rattle.rules.specs.Bytes.{i32}
use Rattle.rules.specs.Records.{generated, looked}
use Rattle.rules.specs.Effects.{Effect, ◌⟫◌, nothing, report}
use Rattle.rules.specs.Removal.{fail_if, remove}
use Rattle.rules.specs.Standing.{other_leg, settle}
use Rattle.rules.specs.Generation.{counted, generate, generate_leg, make, makes, new_legging, placed}
use Rattle.rules.specs.Complex.{each_of, examined, going_round, id_reached, limited_sweep, resting_places, sweep, work}
use Rattle.rules.proofs.Afforded.{new-open}
use Rattle.rules.proofs.AllSettled.{settled}
use Rattle.rules.proofs.Cases.{if-by}
use Rattle.rules.proofs.Dating.{steps-generate, steps-leg, steps-swept}
use Rattle.rules.proofs.Editions.{Stepped, steps-same}
use Rattle.rules.proofs.Filling.{cx}
use Rattle.rules.proofs.Finding.{LegOf}
use Rattle.rules.proofs.Generating.{AllStand, Makes, generate-stands, made, place-series, place-side}
use Rattle.rules.proofs.Hitting.{other-is₁, other-is₂}
use Rattle.rules.proofs.Ledger.{moved-silent, moves-placed}
use Rattle.rules.proofs.Traffic.{Each, looked-each, resting-each}
use Rattle.rules.proofs.Sweeping.{leg-same}
use Rattle.rules.specs.Sums.{cancelled_of, contracts, crossed_for, paired, total}
use Rattle.rules.proofs.Tests.{and_r}
use Rattle.demands.proofs.ComplexCarries.{Carries, carries-nothing, carries-remove, carries-then, fine-after, settle-carries, work-carries}
use Rattle.demands.proofs.Homes.{Fine, Home, Homes, InRange, found, home_same, homes_same}

-- One leg -------------------------------------------------------------------------------------

-- s, d is a leg of c
pub record IsLeg (c : Complex) (s d : ℕ) : Type 0 where
  pub side : d < 2
  pub series : s < 8
  pub leg : LegOf c s d
  pub other : s ≢ (other_leg c s).series

pub first-leg : (c : Complex) → InRange c → IsLeg c c.series1 c.side1
first-leg c r = record { side = r.side1; series = r.series1; leg = inl (refl, refl); other = λ e. r.apart (e ∙ other-is₂ c c.series1 refl) }

pub second-leg : (c : Complex) → InRange c → IsLeg c c.series2 c.side2
second-leg c r = record { side = r.side2; series = r.series2; leg = inr (refl, refl); other = λ e. r.apart (sym (e ∙ other-is₁ c c.series2 r.apart)) }

-- a legging order at place n, whose home is known
placed-homes : (n : ℕ) (l : Legging) (v : Venue) → n < length v.legging → Home v n l → Homes v → Homes (placed n l v)
unfolding placed with_legging
placed-homes n l v n16 a h = record { len = length-set v.legging n l ∙ h.len; home = λ m. go m (ℕ_discrete m n) }
  where
    keep : (m : ℕ) (x : Legging) → Home v m x → Home (placed n l v) m x
    keep m x b = record { at = b.at; fits = b.fits; id = b.id; leg = b.leg; even = b.even; enough = b.enough }

    go : (m : ℕ) → Dec (m ≡ n) → held (get_or (set v.legging n l) m no_legging).quantity ≡ true → Home (placed n l v) m (get_or (set v.legging n l) m no_legging)
    go m (yes e) t = rw (e, get_or-set_same v.legging n l no_legging n16) (keep n l a)
    go m (no ne) t = rw (get_or-set_other v.legging n m l no_legging ne) (keep m _ (h.home m (rw (get_or-set_other v.legging n m l no_legging ne) at t)))

homes-counted : (number s : ℕ) (v : Venue) → Homes v → Homes (counted number s v)
unfolding counted with_generations
homes-counted number s v h = homes_same {v = v} refl refl h

remove-complex : (f : ℕ → Legging → Verdict) (v : Venue) → (remove f v).venue.complex ≡ v.complex
unfolding remove with_legging
remove-complex f v = refl

place-fits : (s d : ℕ) → s < 8 → d < 2 → place_of s d < 16
unfolding place_of
place-fits s d a b = omega arith

module _ (v : Venue) (i : ℕ) (i32 : i < 32) (f : Fine v) (h : held (cx v i).quantity ≡ true) (s d : ℕ) (g : IsLeg (cx v i) s d) where
  abbrev c : Complex
  c = cx v i

  fits_c : i < length v.complex
  fits_c = rw f.good.len2 i32

  fits_l : place_of s d < length v.legging
  fits_l = rw f.homes.len (place-fits s d g.series g.side)

  new_home : one_to_one c ≡ true → Home v (place_of s d) (new_legging v c s d)
  unfolding new_legging
  new_home e = record { at = i; fits = fits_c; id = refl; leg = rw (place-series s d g.side, place-side s d g.side) g.leg; even = e; enough = new-open v c s d }

  -- when the holder has gone, the new order takes its place
  placed-carries : (number : ℕ) (w : Venue) (id p x q : ℕ) → one_to_one c ≡ true → Fine w → w.complex ≡ v.complex →
      Carries w (report (generated id s d p x q) (counted number s (placed (place_of s d) (new_legging v c s d) w)))
  placed-carries number w id p x q even g' e = record {
    moves = moves-placed number (place_of s d) (new_legging v c s d) id s d p x q w;
    homes = unfold report in
        (homes-counted number s _ (placed-homes (place_of s d) (new_legging v c s d) w (rw g'.homes.len (place-fits s d g.series g.side))
        (home_same e (new_home even)) g'.homes));
  }

  make-carries : (number : ℕ) → Makes number v c s d → Carries v (make number c s d v)
  unfolding make
  make-carries number m =
      let a = carries-remove (λ n _. fail_if (eqb n (place_of s d)) Replaced) v f in
      carries-then _ _ a (placed-carries number _ _ _ _ _ m.even (fine-after f a) (remove-complex _ v))

  pub leg-carries : (number : ℕ) → Carries v (generate_leg number c s d v)
  unfolding generate_leg
  leg-carries number = if-by (Carries v) (held c.quantity && makes number v c s d) (λ e. make-carries number (made (and_r (held c.quantity) (makes number v c s d) e))) (λ _. carries-nothing v f)

  opposite-small : (x : ℕ) → opposite x < 2
  unfolding opposite
  opposite-small x = omega arith

  pub leg-stands : (number : ℕ) → Stepped v → AllStand v → AllStand (generate_leg number c s d v).venue
  leg-stands number z = generate-stands v c s d (z s g.series) g.side (opposite-small _) g.other (found v f.good i fits_c h) fits_l number

-- Both legs -----------------------------------------------------------------------------------

-- carries, and leaves all standing
pub record Stood (v : Venue) (e : Effect) : Type 0 where
  pub carries : Carries v e
  pub stand : AllStand e.venue

pub stood-then : {v : Venue} (e : Effect) (f : Venue → Effect) → Carries v e → Stood e.venue (f e.venue) → Stood v (e ⟫ f)
unfolding ◌⟫◌
stood-then e f a b = record { carries = carries-then e f a b.carries; stand = b.stand }

module _ (number i : ℕ) (i32 : i < 32) where
  -- a leg of the order at place i, or of a free place
  one-leg : (v : Venue) (c : Complex) (s d : ℕ) → c ≡ cx v i → (held c.quantity ≡ true → IsLeg c s d) → Fine v → Stepped v → AllStand v → Stood v (generate_leg number c s d v)
  unfolding generate_leg nothing
  one-leg v c s d e g f z st = go (held c.quantity) refl
    where
      go : (b : Bool) → held c.quantity ≡ b → Stood v (if held c.quantity && makes number v c s d then make number c s d v else nothing v)
      go true h =
          subst (λ (x : Complex). Stood v (generate_leg number x s d v)) (sym e)
          (let h' = subst (λ (x : Complex). held x.quantity ≡ true) e h in
          let g' = subst (λ (x : Complex). IsLeg x s d) e (g h) in
          record { carries = leg-carries v i i32 f h' s d g' number; stand = leg-stands v i i32 f h' s d g' number z st })
      go false h = rw h (record { carries = carries-nothing v f; stand = st })

  pub generate-stood : (v : Venue) → Fine v → Stepped v → AllStand v → Stood v (generate number i v)
  unfolding generate complex_at
  generate-stood v f z st =
      let c = cx v i in
      let a = one-leg v c c.series1 c.side1 refl (λ h. first-leg c (f.good.ranges i h)) f z st in
      stood-then _ _ a.carries
      (one-leg (generate_leg number c c.series1 c.side1 v).venue c c.series2 c.side2
      (ap (λ (x : List Complex). get_or x i no_complex) (sym (leg-same number v c c.series1 c.side1)))
      (λ h. second-leg c (f.good.ranges i h)) (fine-after f a.carries) (steps-leg number c c.series1 c.side1 v z) a.stand)

-- Sweep ---------------------------------------------------------------------------------------

-- f for the order at each of these places: f carries (and leaves standing)
each_of-carries : (fn : ℕ → Venue → Effect) → ((i : ℕ) → i < 32 → (v : Venue) → Fine v → Carries v (fn i v)) →
    (places : List ℕ) → Each (λ i. i < 32) places → (v : Venue) → Fine v → Carries v (each_of fn places v)
unfolding each_of
each_of-carries fn ok [] h v f = carries-nothing v f
each_of-carries fn ok (i ∷ places) h v f =
    let k = ok i h.0 v f in
    carries-then _ _ k (each_of-carries fn ok places h.1 _ (fine-after f k))

stood-nothing : (v : Venue) → Fine v → AllStand v → Stood v (nothing v)
unfolding nothing
stood-nothing v f st = record { carries = carries-nothing v f; stand = st }

each_of-stood : (number : ℕ) (places : List ℕ) → Each (λ i. i < 32) places → (v : Venue) → Fine v → Stepped v → AllStand v → Stood v (each_of (generate number) places v)
unfolding each_of
each_of-stood number [] h v f z st = stood-nothing v f st
each_of-stood number (i ∷ places) h v f z st =
    let k = generate-stood number i h.0 v f z st in
    stood-then _ _ k.carries (each_of-stood number places h.1 _ (fine-after f k.carries) (steps-generate number i v z) k.stand)

pub sweep-stood : (number : ℕ) (v : Venue) → Fine v → Stepped v → Stood v (sweep number v)
unfolding sweep
sweep-stood number v f z =
    let places = resting_places v in
    let low = resting-each (λ i. i < 32) v (λ j l _. (let e = f.good.len2 in omega arith)) in
    let a = each_of-carries work work-carries places low v f in
    let b = carries-then _ settle a (settle-carries _ (fine-after f a)) in
    stood-then _ _ b (each_of-stood number places low _ (fine-after f b) (steps-swept places v z) (settled (each_of work places v)))

-- Limited sweep -------------------------------------------------------------------------------

-- its 72, which tells no quantity
looked-carries : (k x : ℕ) (v : Venue) → Fine v → Carries v (report (looked k) (with_reached v x))
unfolding report with_reached total contracts paired crossed_for cancelled_of
looked-carries k x v f = record {
  moves = moved-silent refl refl refl (record { contracts0 = λ _ _. refl; paired0 = λ _. refl; crossed0 = λ _. refl; cancelled0 = λ _. refl });
  homes = homes_same {v = v} refl refl f.homes;
}

pub limited-stood : (number n : ℕ) (v : Venue) → Fine v → Stepped v → Stood v (limited_sweep number n v)
unfolding limited_sweep
limited-stood number n v f z =
    let places = take n (going_round v) in
    let u = with_reached v (id_reached v places) in
    let low = looked-each (λ i. i < 32) n v (λ j l _. (let e = f.good.len2 in omega arith)) in
    let a = looked-carries (examined n v) (id_reached v places) v f in
    let b = carries-then (report (looked (examined n v)) u) (each_of work places) a (each_of-carries work work-carries places low _ (fine-after f a)) in
    let c = carries-then _ settle b (settle-carries _ (fine-after f b)) in
    stood-then _ _ c (each_of-stood number places low _ (fine-after f c) (steps-there places u (steps-same v u (unfold with_reached in refl) z))
    (settled (report (looked (examined n v)) u ⟫ each_of work places)))
  where
    steps-there : (places : List ℕ) (u : Venue) → Stepped u → Stepped (report (looked (examined n v)) u ⟫ each_of work places ⟫ settle).venue
    steps-there places u h = unfold report ◌⟫◌ in (steps-swept places u h)
