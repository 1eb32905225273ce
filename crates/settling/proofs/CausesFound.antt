-- Laws of the loops over the legging places: their causes, and whether the others stand.
use mathlib.Core.Path.{◌≡◌, refl, sym, ap, ◌∙◌}
use mathlib.Core.Bool.{Bool, true, false, ◌&&◌, ◌||◌}
use mathlib.Core.List.{List}
use Prim.Native.Nat.{ℕ, zero, suc, ◌+◌, ◌*◌, ◌-◌, ◌/◌, ◌^◌, ◌≤◌, ◌<◌}
use native.Mathlib.Omega.{arith}
use native.Mathlib.Numerals.{add-one}
use native.Mathlib.Nat.{pow-le-pow_right}
use borrow.Author.Tests.{eq-eqb, ne_eqb}
use lib.Dec.{eqb}
use lib.ListN.{get_or}
use Rattle.rules.specs.declared.Legging.{Legging}
use Rattle.rules.specs.declared.Verdict.{Verdict}
use Rattle.rules.specs.declared.Verdict.TheVariants.{Stands, Fails}
use Rattle.rules.specs.declared.Cause.{Cause}
use Rattle.rules.specs.declared.Cause.TheVariants.{Worse, Unpaired, Executed, Withdrawn, OutOfBand, NotOpen, Replaced, Touched, NoUnit}
use Rattle.rules.specs.Words.{no_legging}
use Rattle.rules.specs.Standing.{verdict, verdict_number, stands}
use Rattle.rules.specs.Generation.{others_stand}
use Rattle.places.specs.Layout.{upto, legging_in, venue_of}
use Rattle.levels.proofs.Scans.{upto-on, upto-end}
use Rattle.removal.specs.Causes.{cause_at}
use Rattle.places.proofs.Parts.{legging-at}
use Rattle.settling.proofs.PartsLaws.{verdict-free}

-- Causes ---------------------------------------------------------------------------------------

pub number_small : (x : Verdict) → verdict_number x < 16
number_small Stands = omega arith
number_small (Fails Worse) = omega arith
number_small (Fails Unpaired) = omega arith
number_small (Fails Executed) = omega arith
number_small (Fails Withdrawn) = omega arith
number_small (Fails OutOfBand) = omega arith
number_small (Fails NotOpen) = omega arith
number_small (Fails Replaced) = omega arith
number_small (Fails Touched) = omega arith
number_small (Fails NoUnit) = omega arith

-- a number put below the causes is that of place 0, and the others move on by one place
module _ (causes x : ℕ) (h : x < 16) where
  cause-first : cause_at (causes * 16 + x) 0 ≡ x
  unfolding cause_at
  cause-first = omega arith

  cause-next : (k : ℕ) → cause_at (causes * 16 + x) (suc k) ≡ cause_at causes k
  unfolding cause_at
  cause-next k =
      let z : (causes * 16 + x) / 16 ≡ causes = omega arith in
      ap (λ (m : ℕ). cause_at m k) z

-- the causes of the places from n on
pub record CausesFrom (b : List ℕ) (causes n : ℕ) : Type 0 where
  pub few : n ≤ 16
  pub small : causes < 16 ^ (16 - n)
  pub cause : (k : ℕ) → n + k < 16 → cause_at causes k ≡ verdict_number (verdict (venue_of b) (n + k) (legging_in b (n + k)))

module _ (b : List ℕ) (causes n : ℕ) (i : CausesFrom b causes n) (p : 0 < n) where
  -- there is room for one more
  pub causes-room : causes < 1152921504606846976
  causes-room =
      let r = pow-le-pow_right {n = 16} (omega arith) {i = 16 - n} {j = 15} (omega arith) in
      omega (arith, i.small)

  causes-by : (x : ℕ) → x < 16 → x ≡ verdict_number (verdict (venue_of b) (n - 1) (legging_in b (n - 1))) → CausesFrom b (causes * 16 + x) (n - 1)
  causes-by x h e =
      let z : 16 - (n - 1) ≡ suc (16 - n) = omega (arith, i.few) in
      record { few = omega (arith, i.few); small = rw z (omega (arith, i.small)); cause = go }
    where
      go : (k : ℕ) → n - 1 + k < 16 → cause_at (causes * 16 + x) k ≡ verdict_number (verdict (venue_of b) (n - 1 + k) (legging_in b (n - 1 + k)))
      go zero q =
          let z : n - 1 + 0 ≡ n - 1 = omega arith in
          rw z (cause-first causes x h ∙ e)
      go (suc k) q =
          let z : n - 1 + suc k ≡ n + k = omega arith in
          rw z (cause-next causes x h k ∙ i.cause k (omega arith))

  -- a free place stands
  pub causes-free : (l : Legging) → l ≡ legging_in b (n - 1) → l.quantity ≡ 0 → CausesFrom b (causes * 16) (n - 1)
  causes-free l el q =
      let z : causes * 16 + 0 ≡ causes * 16 = omega arith in
      rw z at (causes-by 0 (omega arith) (ap verdict_number (verdict-free (venue_of b) (n - 1) l (legging_in b (n - 1)) el q)))

  pub causes-on : (x : ℕ) (r : Verdict) → x ≡ verdict_number r → r ≡ verdict (venue_of b) (n - 1) (get_or (venue_of b).legging (n - 1) no_legging) → CausesFrom b (causes * 16 + x) (n - 1)
  causes-on x r ex er =
      causes-by x (omega (arith, number_small r)) (ex ∙ ap verdict_number (er ∙ ap (verdict (venue_of b) (n - 1)) (legging-at b (n - 1) (omega (arith, i.few)))))

-- Whether the others stand --------------------------------------------------------------------

-- the legging places of a venue, as a scan reads them
legging-scan : (b : List ℕ) → upto (legging_in b) 0 (16 - 0) ≡ (venue_of b).legging
unfolding venue_of
legging-scan b = refl

module _ (b : List ℕ) (m n : ℕ) where
  -- those from place n on
  abbrev pub stand_from : Bool
  stand_from = others_stand (venue_of b) m n (upto (legging_in b) n (16 - n))

  stand-on : n < 16 → stand_from ≡ ((eqb n m || stands (verdict (venue_of b) n (legging_in b n))) && others_stand (venue_of b) m (n + 1) (upto (legging_in b) (n + 1) (16 - (n + 1))))
  unfolding others_stand
  stand-on h =
      ap (others_stand (venue_of b) m n) (upto-on (legging_in b) n 16 h)
      ∙ ap (λ (k : ℕ). (eqb n m || stands (verdict (venue_of b) n (legging_in b n))) && others_stand (venue_of b) m k (upto (legging_in b) (n + 1) (16 - (n + 1)))) (sym (add-one n))

  pub stand-own : n < 16 → n ≡ m → others_stand (venue_of b) m (n + 1) (upto (legging_in b) (n + 1) (16 - (n + 1))) ≡ stand_from
  stand-own h e = sym (stand-on h ∙ rw (eq-eqb n m e))

  module _ (h : n < 16) (k : n ≡ m → ⊥) (x : Verdict) (ex : x ≡ verdict (venue_of b) n (get_or (venue_of b).legging n no_legging)) where
    here : verdict (venue_of b) n (legging_in b n) ≡ x
    here = ap (verdict (venue_of b) n) (sym (legging-at b n h)) ∙ sym ex

    pub stand-past : x ≡ Stands → others_stand (venue_of b) m (n + 1) (upto (legging_in b) (n + 1) (16 - (n + 1))) ≡ stand_from
    unfolding stands
    stand-past e = sym (stand-on h ∙ rw (ne_eqb n m k, here, e))

    pub stand-fails : (c : Cause) → x ≡ Fails c → false ≡ stand_from
    unfolding stands
    stand-fails c e = sym (stand-on h ∙ rw (ne_eqb n m k, here, e))

  pub stand-free : n < 16 → (n ≡ m → ⊥) → (l : Legging) → l ≡ legging_in b n → l.quantity ≡ 0 →
      others_stand (venue_of b) m (n + 1) (upto (legging_in b) (n + 1) (16 - (n + 1))) ≡ stand_from
  stand-free h k l el q = stand-past h k Stands (verdict-free (venue_of b) n l (get_or (venue_of b).legging n no_legging) (el ∙ sym (legging-at b n h)) q) refl

  pub stand-end : 16 ≤ n → true ≡ stand_from
  unfolding others_stand
  stand-end h = rw (upto-end (legging_in b) n 16 h)

pub stand-all : (b : List ℕ) (m : ℕ) → stand_from b m 0 ≡ others_stand (venue_of b) m 0 (venue_of b).legging
stand-all b m = ap (others_stand (venue_of b) m 0) (legging-scan b)
