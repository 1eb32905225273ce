-- One message: its 64 comes first and is its only answer, and all its records fit.
use Rattle.std.specs.Prelude.{if◌then◌else◌}
use mathlib.Core.Path.{◌≡◌, refl}
use mathlib.Core.Bool.{Bool, false, true}
use mathlib.Core.List.{List, [], ◌∷◌}
use Prim.Native.Nat.{◌*◌, ◌+◌, ◌<◌, ◌^◌, ◌≤◌, suc, ℕ}
use native.Mathlib.Nat.{pow-suc}
use native.Mathlib.Omega.{arith}
use lib.Dec.{eqb}
use lib.ListN.{length}
use Rattle.rules.specs.declared.Legging.{Legging}
use Rattle.rules.specs.declared.Venue.{Venue}
use Rattle.rules.specs.Base.{held}
use Rattle.rules.specs.Messages.{message_of}
use Rattle.rules.specs.Records.{ForAll, Fits, Report, TwoBytes, FourBytes, OneByte, answer}
use Rattle.rules.specs.Effects.{Effect, nothing}
use Rattle.rules.specs.Refusals.{refusal}
use Rattle.rules.specs.Step.{accept, answered, filled, mask, step}
use Rattle.rules.proofs.CallsLaws.{step_by}
use Rattle.rules.proofs.Quiet.{NoAnswer, Quiet, quiet-accept, quiet-nothing}
use Rattle.rules.proofs.RefusalsLaws.{accepted, refusal-small}
use Rattle.rules.proofs.Widths.{Ranged}
use Rattle.rules.proofs.Writing.{Writes, writes-accept, writes_nothing}

-- Mask and count ------------------------------------------------------------------------------

mask-small : (ls : List Legging) → mask ls < 2 ^ length ls
unfolding mask
mask-small [] = omega arith
mask-small (l ∷ ls) = rw (pow-suc 2 (length ls)) (go (held l.quantity) (mask-small ls))
  where
    go : (b : Bool) → mask ls < 2 ^ length ls → (if b then 1 else 0) + 2 * mask ls < 2 ^ length ls * 2
    go true h = omega arith
    go false h = omega arith

filled-small : (ls : List Legging) → filled ls ≤ length ls
unfolding filled
filled-small [] = omega arith
filled-small (l ∷ ls) = go (held l.quantity) (filled-small ls)
  where
    go : (b : Bool) → filled ls ≤ length ls → (if b then 1 else 0) + filled ls ≤ suc (length ls)
    go true h = omega arith
    go false h = omega arith

mask_fits : (ls : List Legging) → length ls ≡ 16 → TwoBytes (mask ls)
mask_fits ls e = rw e at (mask-small ls)

count_fits : (ls : List Legging) → length ls ≡ 16 → OneByte (filled ls)
count_fits ls e = let z = filled-small ls in omega arith

-- The step ------------------------------------------------------------------------------------

-- its 64, and after it records that are no answers
pub record Told (v : Venue) (n : ℕ) (bs : List ℕ) : Type 0 where
  pub mask : ℕ
  pub count : ℕ
  pub effects : List Report
  pub is : (step v n bs).effect.reports ≡ answer n (step v n bs).refused mask count ∷ effects
  pub quiet : ForAll NoAnswer effects
  pub ranged : Ranged (step v n bs).effect.venue
  pub fits : FourBytes n → ForAll Fits (step v n bs).effect.reports

told_of : (n x : ℕ) (e : Effect) → x ≤ 14 → Writes e → FourBytes n → ForAll Fits (answered n x e).effect.reports
unfolding answered
told_of n x e s w h =
    ((h, omega arith, mask_fits e.venue.legging w.ranged.len, count_fits e.venue.legging w.ranged.len), w.fits)

pub told : (v : Venue) → Ranged v → (n : ℕ) (bs : List ℕ) → Told v n bs
unfolding step answered
told v r n bs =
    let e = if eqb (refusal v bs) 0 then accept n (message_of bs) v else nothing v in
    let w : Writes e = step_by Writes v n bs (λ h. writes-accept n (message_of bs) v (accepted v bs h).range r) (λ _. writes_nothing v r) in
    record {
      mask = mask e.venue.legging;
      count = filled e.venue.legging;
      effects = e.reports;
      is = refl;
      quiet = step_by Quiet v n bs (λ _. quiet-accept n (message_of bs) v) (λ _. quiet-nothing v);
      ranged = w.ranged;
      fits = told_of n (refusal v bs) e (refusal-small v bs) w;
    }
