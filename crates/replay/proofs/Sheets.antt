-- The theorems: of one message upon a sound venue, and of every list of calls.
use Rattle.std.specs.Prelude.{if◌then◌else◌}
use mathlib.Core.Path.{◌∙◌, ◌≡◌, ap, refl, subst, sym}
use mathlib.Core.Bool.{Bool, false, true}
use mathlib.Core.List.{List, [], ◌++◌, ◌∷◌, append_assoc, append-nil}
use Prim.Native.Nat.{suc, ℕ}
use lib.Dec.{eqb}
use borrow.Author.Tests.{eqb-true}
use Rattle.rules.specs.declared.Venue.{Venue}
use Rattle.rules.specs.Words.{fresh_venue}
use Rattle.rules.specs.Messages.{message_of}
use Rattle.rules.specs.Records.{FourBytes, Report, answer}
use Rattle.rules.specs.Effects.{Effect, ◌⟫◌, nothing}
use Rattle.rules.specs.Places.{close_gaps}
use Rattle.rules.specs.Refusals.{refusal}
use Rattle.rules.specs.Sound.{complexes_sound, regulars_sound, sound}
use Rattle.rules.specs.Step.{accept, answered, perform, step}
use Rattle.rules.proofs.Arranging.{closed_same}
use Rattle.rules.proofs.RefusalsLaws.{accepted}
use Rattle.rules.proofs.Showing.{again-same}
use Rattle.rules.proofs.Tests.{and_l, and_r}
use Rattle.demands.specs.Demand.{Later, Opening, Seen, calls, opening, start}
use Rattle.demands.specs.Soundness.{SoundVenue}
use Rattle.demands.proofs.Account.{onto}
use Rattle.demands.proofs.Induction.{all_keep}
use Rattle.demands.proofs.SoundnessLaws.{sound-out}
use Rattle.demands.proofs.Truth.{Told, more-told, start-told}
use Rattle.replay.specs.Replay.{Replays, State, after_answer, entered, finished, next, noted, replay, upon}
use Rattle.replay.specs.Moments.{AtEach, NoBetterPassedOver}
use Rattle.replay.proofs.TellsLaws.{each_append, replay-append}
use Rattle.replay.proofs.Performing.{performs}

-- One message ---------------------------------------------------------------------------------

-- between messages there is nothing to finish
finished-same : (v : Venue) → SoundVenue v → finished v ≡ v
unfolding finished sound
finished-same v s =
    let z = s.is in
    let r : regulars_sound v ≡ true = search (and_l, and_r, z) depth 12 in
    let c : complexes_sound v ≡ true = search (and_l, and_r, z) depth 12 in
    ap close_gaps (again-same v (sound-out v s).showing) ∙ closed_same v r c

-- from the state x, an effect's records lead to the venue that it leaves, with the messages ns still to come, and each is as claimed at its moment
record Follows (x : State) (e : Effect) (ns : List (List ℕ)) : Type 0 where
  venue : finished (replay x e.reports).books ≡ e.venue
  messages : (replay x e.reports).messages ≡ ns
  moments : AtEach x e.reports

-- the books v in the message of a number, with the messages ns still to come
abbrev during : (number : ℕ) → Venue → List (List ℕ) → State
during number v ns = record { books = v; number = number; messages = ns }

-- the effects of an accepted message, from the books with what it brings
accepts : (number : ℕ) (v : Venue) (bs : List ℕ) → SoundVenue v → refusal v bs ≡ 0 → (ns : List (List ℕ)) →
    Follows (during number (entered number (message_of bs) v) ns) (accept number (message_of bs) v) ns
unfolding accept nothing ◌⟫◌ noted
accepts number v bs s h ns =
    let m = message_of bs in
    let e = performs v (sound-out v s) number m (accepted v bs h) in
    let t = e.tells (during number v ns) refl in
    rw (append-nil (perform number m v).reports) (record {
      venue = ap (λ (y : State). finished y.books) t.replays ∙ (unfold finished noted in (ap close_gaps (sym e.shows)));
      messages = ap (λ (y : State). y.messages) t.replays ∙ (unfold noted in refl);
      moments = t.moments;
    })

-- those of a refused one
refuses : (number : ℕ) (v : Venue) → SoundVenue v → (ns : List (List ℕ)) → Follows (during number v ns) (nothing v) ns
unfolding nothing replay
refuses number v s ns = record { venue = finished-same v s; messages = refl; moments = tt }

-- its 64 begins it
begins : (x : State) (v : Venue) (bs : List ℕ) (ns : List (List ℕ)) → finished x.books ≡ v → x.messages ≡ bs ∷ ns → (number r : ℕ) →
    after_answer number r x ≡ during number (if eqb r 0 then entered number (message_of bs) v else v) ns
unfolding after_answer
begins x v bs ns e q number r = rw (e, q)

follows-answer : (x : State) (number r m c : ℕ) (e : Effect) (ns : List (List ℕ)) → Follows (after_answer number r x) e ns →
    Follows x (record { venue = e.venue; reports = answer number r m c ∷ e.reports }) ns
unfolding replay next
follows-answer x number r m c e ns f = record { venue = f.venue; messages = f.messages; moments = (tt, f.moments) }

follows-step : (x : State) (v : Venue) → SoundVenue v → finished x.books ≡ v → (number : ℕ) (bs : List ℕ) (ns : List (List ℕ)) → x.messages ≡ bs ∷ ns →
    Follows x (step v number bs).effect ns
unfolding step answered
follows-step x v s e number bs ns q =
    follows-answer x number (refusal v bs) _ _ _ ns
    (subst (λ (y : State). Follows y (if eqb (refusal v bs) 0 then accept number (message_of bs) v else nothing v) ns) (sym (begins x v bs ns e q number (refusal v bs)))
    (go (eqb (refusal v bs) 0) refl))
  where
    go : (b : Bool) → eqb (refusal v bs) 0 ≡ b →
        Follows (during number (if b then entered number (message_of bs) v else v) ns) (if b then accept number (message_of bs) v else nothing v) ns
    go true h = accepts number v bs s (eqb-true (refusal v bs) 0 h) ns
    go false h = refuses number v s ns

-- A list of calls -----------------------------------------------------------------------------

-- so far, whatever messages come next
record Sheet (s : Seen) : Type 0 where
  told : Told s
  follows : (ns : List (List ℕ)) → Follows (upon fresh_venue (s.messages ++ ns)) (record { venue = s.venue; reports = s.reports }) ns

start-sheet : Sheet start
unfolding start
start-sheet = record { told = start-told; follows = λ ns. unfold nothing upon in (refuses 0 fresh_venue start-told.sound.venue ns) }

-- records joined
follows_then : (x : State) (v : Venue) (a : List Report) (e : Effect) (ms ns : List (List ℕ)) → Follows x (record { venue = v; reports = a }) ms →
    ((y : State) → finished y.books ≡ v → y.messages ≡ ms → Follows y e ns) → Follows x (record { venue = e.venue; reports = a ++ e.reports }) ns
follows_then x v a e ms ns f g =
    let k = g (replay x a) f.venue f.messages in
    let j = replay-append x a e.reports in
    record {
      venue = ap (λ (y : State). finished y.books) j ∙ k.venue;
      messages = ap (λ (y : State). y.messages) j ∙ k.messages;
      moments = each_append x a e.reports f.moments k.moments;
    }

more-sheet : (s : Seen) (bs : List ℕ) → Sheet s → FourBytes (suc s.done) → Sheet (onto s bs (step s.venue (suc s.done) bs).effect)
unfolding onto
more-sheet s bs h few = record {
  told = unfold onto in (more-told s bs h.told few);
  follows = λ ns.
      rw (append_assoc s.messages (bs ∷ []) ns)
      (follows_then (upon fresh_venue (s.messages ++ (bs ∷ ns))) s.venue s.reports (step s.venue (suc s.done) bs).effect (bs ∷ ns) ns (h.follows (bs ∷ ns))
      (λ y e q. follows-step y s.venue h.told.sound.venue e (suc s.done) bs ns q));
}

all-sheets : (o : Opening) (cs : List Later) → Sheet (calls (opening o) cs)
all-sheets = all_keep Sheet (λ s h. (sound-out s.venue h.told.sound.venue).ranged) start-sheet more-sheet

-- The theorems --------------------------------------------------------------------------------

one-message : (v : Venue) → SoundVenue v → (number : ℕ) (bs : List ℕ) → Follows (upon v (bs ∷ [])) (step v number bs).effect []
unfolding upon
one-message v s number bs = follows-step (upon v (bs ∷ [])) v s (finished-same v s) number bs [] refl

whole-sheet : (o : Opening) (cs : List Later) →
    let s = calls (opening o) cs in
    Follows (upon fresh_venue s.messages) (record { venue = s.venue; reports = s.reports }) []
whole-sheet o cs = rw (append-nil (calls (opening o) cs).messages) at ((all-sheets o cs).follows [])

pub replays : Replays
replays = record { message = λ v s number bs. (one-message v s number bs).venue; list = λ o cs. (whole-sheet o cs).venue }

pub no-better-passed-over : NoBetterPassedOver
no-better-passed-over = record { message = λ v s number bs. (one-message v s number bs).moments; list = λ o cs. (whole-sheet o cs).moments }
