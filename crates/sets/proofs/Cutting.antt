-- A day that is cut by sets goes on as if it were not.
use mathlib.Core.Path.{◌≡◌, ◌∙◌, ap, refl, subst, sym}
use mathlib.Core.List.{List, [], ◌∷◌}
use Prim.Native.Nat.{ℕ, zero, suc, ◌+◌, ◌≤◌}
use native.Mathlib.Nat.{add-suc, add-zero, suc-add}
use lib.ListN.{length}
use borrow.Author.Tests.{le-ltb}
use Rattle.rules.specs.declared.Venue.{Venue}
use Rattle.rules.specs.Records.{FourBytes}
use Rattle.rules.specs.Effects.{Effect}
use Rattle.rules.specs.Step.{step}
use Rattle.rules.specs.Calls.{Outcome, after, called, ends, one, one_from, run_from, run_upon}
use Rattle.rules.proofs.CallsLaws.{one_from-by, run_from-by, run_upon_from-by}
use Rattle.demands.specs.Demand.{Later, by_list, by_message, call_upon}
use Rattle.demands.specs.Soundness.{SoundAt}
use Rattle.demands.specs.Agree.{Progress, by_calls, onward}
use Rattle.demands.proofs.Agree.{agree}
use Rattle.demands.proofs.Calls.{stays-sound}
use Rattle.sets.specs.Set.{carries, joined, set_of, write_set}
use Rattle.sets.specs.Promises.{Cut, CutCalls, Going, SetsFit, call, carried, cut, going_on, uncut}
use Rattle.sets.proofs.ReadBack.{reads-back}

-- a sound venue after a number of messages that is a u32
pub record Stands (n : ℕ) (v : Venue) : Type 0 where
  pub at : SoundAt (suc n) v
  pub few : FourBytes n

-- after a call that went so
abbrev StandsAfter : ℕ → Outcome → Type 0
StandsAfter n o = Stands (n + o.done) o.venue

idle-stands : (n k : ℕ) (v : Venue) → Stands n v → StandsAfter n (ends k v)
unfolding ends
idle-stands n k v s = rw (add-zero n) s

step-stands : (n : ℕ) (v : Venue) (bs : List ℕ) → Stands n v → FourBytes (suc n) → Stands (suc n) (step v (suc n) bs).effect.venue
step-stands n v bs s few = record { at = stays-sound v (suc n) few s.at bs; few = few }

more-stands : (n : ℕ) (e : Effect) (r : Outcome) → StandsAfter (suc n) r → StandsAfter n (after e r)
unfolding after
more-stands n e r s = rw (add-suc, ← suc-add) s

-- a call leaves one
one-stands : (n room : ℕ) (v : Venue) (bs : List ℕ) → Stands n v → StandsAfter n (one_from v n room bs)
one-stands n room v bs s =
    one_from-by (StandsAfter n) v n room bs (λ _. idle-stands n 9 v s) (λ _ _. idle-stands n 10 v s)
    (λ _ d. more-stands n _ _ (idle-stands (suc n) _ _ (step-stands n v bs s d.0)))

run-stands : (fuel n room : ℕ) (v : Venue) (bs : List ℕ) → Stands n v → StandsAfter n (run_from fuel v n room bs)
run-stands zero n room v bs s = unfold run_from in idle-stands n 0 v s
run-stands (suc fuel) n room v bs s =
    run_from-by (StandsAfter n) v n room bs fuel (λ _. idle-stands n 0 v s) (λ _ _. idle-stands n 10 v s)
    (λ d _. more-stands n _ _ (idle-stands (suc n) 1 _ (step-stands n v bs s d.0)))
    (λ d _. more-stands n _ _ (run-stands fuel (suc n) _ _ _ (step-stands n v bs s d.0)))

call-stands : (c : Later) (n : ℕ) (v : Venue) → Stands n v → Stands (n + (call_upon c v n).returned.done) (call_upon c v n).returned.venue
unfolding call_upon one run_upon called
call-stands (by_message g) n v s = one-stands n g.room v g.bytes s
call-stands (by_list g) n v s =
    run_upon_from-by (StandsAfter n) v n g.room g.bytes (λ _. idle-stands n 9 v s) (λ _. run-stands (length g.bytes) n g.room v g.bytes s)

-- and so does a set
written : (n room : ℕ) (v : Venue) → Stands n v → length (joined (set_of n v)) ≤ room → (write_set n v room).number ≡ 0
unfolding write_set carries
written n room v s le = rw (s.at.venue.is, s.at.next, le-ltb room (length (joined (set_of n v))) le)

carried_same : (room : ℕ) (p : Progress) → Stands p.done p.venue → length (joined (set_of p.done p.venue)) ≤ room → carried room p ≡ p
unfolding carried
carried_same room p s le = rw (reads-back p.done room p.venue s.few s.at.venue.shaped (written p.done room p.venue s le))

going : (gs : List Going) (p : Progress) → Stands p.done p.venue → SetsFit gs p → going_on gs p ≡ by_calls (uncut gs) p
unfolding going_on by_calls uncut onward
going [] p s fit = refl
going (call c ∷ gs) p s fit = going gs (onward p (call_upon c p.venue p.done)) (call-stands c p.done p.venue s) fit
going (cut room ∷ gs) p s fit =
    let same = carried_same room p s fit.0 in
    rw same (going gs p s (subst (SetsFit gs) same fit.1))

pub cut-calls : CutCalls
cut-calls gs p at few fit = going gs p (record { at = at; few = few }) fit

pub cuts : Cut
cuts p room gs at few fit of e =
    let is = cut-calls gs p at few fit in
    is ∙ agree p room (uncut gs) of (ap (λ (q : Progress). q.done) (sym is) ∙ e)
