-- The theorems but those of Most, Agree and Truth: of one message, and by the induction over calls with the account as its invariant.
use mathlib.Core.Path.{◌∙◌, sym}
use mathlib.Core.Bool.{true≢false}
use mathlib.Core.Logic.{◌≢◌}
use mathlib.Core.List.{List}
use Prim.Native.Nat.{suc, zero, ℕ}
use native.Mathlib.Omega.{arith}
use lib.ListN.{length}
use Rattle.rules.specs.declared.Complex.{Complex}
use Rattle.rules.specs.declared.Venue.{Venue}
use Rattle.rules.specs.Words.{fresh_venue}
use Rattle.rules.specs.Records.{FourBytes}
use Rattle.rules.specs.Step.{answered, step}
use Rattle.rules.specs.Calls.{after, called, ends, one, one_from, run_from, run_upon, run_upon_from}
use Rattle.demands.specs.Soundness.{AlwaysSound, DoneFits, FreshSound, StaysSound, NeverNine, SoundAt}
use Rattle.demands.specs.Demand.{ComplexAdds, Demand3, Later, Opening, Seen, by_list, by_message, call_upon, calls, opening}
use Rattle.demands.specs.ReadsBack.{ReadsBack, StepFits, WholeMemory}
use Rattle.rules.proofs.Answering.{told}
use Rattle.rules.proofs.CallsLaws.{one-memory, one_from-by, run-memory, run_from-by, run_upon_from-by, upon-memory}
use Rattle.rules.proofs.Dating.{some_number, step_follows}
use Rattle.rules.proofs.Editions.{dated-steps}
use Rattle.rules.proofs.Reading.{reads-back}
use Rattle.rules.proofs.RefusalsLaws.{refusal-own}
use Rattle.rules.proofs.Showing.{showing-shown}
use Rattle.rules.proofs.Tests.{and_in}
use Rattle.rules.proofs.Traffic.{step-above}
use Rattle.demands.proofs.Account.{Account, ComplexAccount, advance, onto}
use Rattle.demands.proofs.Fresh.{fresh-follows, fresh-invariant, start-account}
use Rattle.demands.proofs.Induction.{all_keep}
use Rattle.demands.proofs.Messages.{step-invariant, step-takes}
use Rattle.demands.proofs.SoundnessLaws.{sound-in, sound-out}
use Rattle.demands.proofs.Standing.{standing}

-- One message ---------------------------------------------------------------------------------

-- soundness is kept by every message
pub stays-sound : StaysSound
stays-sound v n few s bs =
    let k = sound-out v s.venue in
    record {
      venue = sound-in _ (step-invariant v k n (omega arith) s.next bs);
      next = (let some = some_number n v k.edited.len s.next in step_follows v n bs some s.next (step-above v n bs some k.busy s.next));
    }

pub fresh-sound : FreshSound
fresh-sound = record { venue = sound-in fresh_venue fresh-invariant; next = fresh-follows }

pub step_fits : StepFits
step_fits v s n h bs = (told v (sound-out v s).ranged n bs).fits h

-- and so is the account
step-account : (s : Seen) (bs : List ℕ) → Account s → FourBytes (suc s.done) → Account (onto s bs (step s.venue (suc s.done) bs).effect)
step-account s bs a few =
    let i = a.invariant in
    let n = suc s.done in
    let t = step-takes s.venue i.fine (dated-steps s.venue i.ranged.dated) i.stand i.tidy n bs in
    let y = told s.venue i.ranged n bs in
    advance bs a t.takes t.ends (step s.venue n bs).refused y.mask y.count y.effects y.is y.quiet t.brings
    (step-invariant s.venue i n (omega arith) a.dated bs) few (step_follows s.venue n bs (omega arith) a.dated (step-above s.venue n bs (omega arith) i.busy a.dated))

all-account : (o : Opening) (cs : List Later) → Account (calls (opening o) cs)
all-account = all_keep Account (λ s a. a.invariant.ranged) start-account step-account

-- The theorems --------------------------------------------------------------------------------

adds : (s : Seen) (c : Complex) → ComplexAccount s c → ComplexAdds s c
adds s c x = record { first = x.first; second = x.second; adds = x.adds }

pub demand3 : Demand3
demand3 o cs =
    let a = all-account o cs in
    record {
      standing = standing (calls (opening o) cs).venue a.invariant.fine a.invariant.stand
          (showing-shown (calls (opening o) cs).venue a.invariant.ranged a.invariant.showing);
      complexes = λ c m. adds _ c (a.complexes c m);
      orders = λ o m. record { adds = (a.orders o m).adds };
    }

pub always-sound : AlwaysSound
always-sound o cs = let a = all-account o cs in record { venue = sound-in _ a.invariant; next = a.dated }

-- upon a sound venue the number is 10, or the message's own
not-nine : (v : Venue) (n : ℕ) → SoundAt (suc n) v → (room : ℕ) (bs : List ℕ) → (one_from v n room bs).number ≢ 9
unfolding ends after step answered
not-nine v n h room bs =
    one_from-by (λ r. r.number ≢ 9) v n room bs (λ u _. true≢false (sym (and_in _ _ h.venue.is h.next) ∙ u)) (λ _ _ e. omega arith)
    (λ _ _. refusal-own v bs 9 (omega arith) (omega arith))

-- nor is a run's 9
run-not-nine : (fuel : ℕ) (v : Venue) (n room : ℕ) (bs : List ℕ) → (run_from fuel v n room bs).number ≢ 9
unfolding ends after
run-not-nine zero v n room bs = unfold run_from in (λ e. omega arith)
run-not-nine (suc fuel) v n room bs =
    run_from-by (λ r. r.number ≢ 9) v n room bs fuel (λ _ e. omega arith) (λ _ _ e. omega arith) (λ _ _ e. omega arith) (λ _ _. run-not-nine fuel _ (suc n) _ _)

upon-not-nine : (v : Venue) (n : ℕ) → SoundAt (suc n) v → (room : ℕ) (bs : List ℕ) → (run_upon_from v n room bs).number ≢ 9
upon-not-nine v n h room bs =
    run_upon_from-by (λ r. r.number ≢ 9) v n room bs (λ u _. true≢false (sym (and_in _ _ h.venue.is h.next) ∙ u)) (λ _. run-not-nine (length bs) v n room bs)

call-not-nine : (c : Later) (v : Venue) (n : ℕ) → SoundAt (suc n) v → (call_upon c v n).returned.number ≢ 9
unfolding call_upon one run_upon called
call-not-nine (by_message g) v n h = not-nine v n h g.room g.bytes
call-not-nine (by_list g) v n h = upon-not-nine v n h g.room g.bytes

pub never-nine : NeverNine
never-nine o cs c = let s = calls (opening o) cs in call-not-nine c s.venue s.done (always-sound o cs)

pub done-fits : DoneFits
done-fits o cs = (all-account o cs).few

pub sheet-reads-back : ReadsBack
sheet-reads-back = reads-back

pub whole-memory : WholeMemory
whole-memory = record { by_run = run-memory; by_one = one-memory; by_run_upon = upon-memory }
