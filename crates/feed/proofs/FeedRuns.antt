-- The call message by message is the run of the list handed out.
use Rattle.std.specs.Prelude.{if◌then◌else◌}
use mathlib.Core.Path.{◌≡◌, refl, sym, ap, ap₂, subst, ◌∙◌}
use mathlib.Core.Bool.{Bool, true, false, ◌&&◌}
use mathlib.Core.List.{List, ◌++◌}
use Prim.Native.Nat.{ℕ, zero, suc, ◌+◌, ◌-◌, ◌<◌, ◌≤◌}
use native.Mathlib.Omega.{arith}
use lib.Dec.{eqb}
use lib.ListN.{length, take, drop, length-append}
use lib.Seq.{take-append_seam, drop-append_seam}
use Rattle.rules.specs.declared.Venue.{Venue}
use Rattle.rules.specs.Words.{fresh_venue}
use Rattle.rules.specs.Bytes.{length_field}
use Rattle.rules.specs.Records.{encode_all}
use Rattle.rules.specs.Effects.{Effect}
use Rattle.rules.specs.Step.{StepOutcome, step, answered}
use Rattle.rules.specs.Calls.{Outcome, called, exceeds, ends, after, run_from, run}
use Rattle.rules.proofs.CallsLaws.{run-full, run_on, run_none}
use Rattle.rules.proofs.Front.{length-same, front-step}
use Rattle.rules.proofs.RefusalsLaws.{whole_in}
use Rattle.reader.proofs.Heads.{whole-refused}
use Rattle.feed.specs.Feed.{Part, Next, message, stop, next, Handed, stopped, first, handed_from, handed, joined, numbered, feed, faultless, parts_of}
use Rattle.feed.specs.Sent.{WholeMessage}
use Rattle.feed.specs.Turns.{hands, fed_from}
use Rattle.feed.proofs.Handing.{handed-on, handed-stop}

-- An outcome with another number --------------------------------------------------------------

unfoldable ending : (number : ℕ) → Outcome → Outcome
ending k o = record { number = if eqb o.number 0 then k else o.number; done = o.done; venue = o.venue; reports = o.reports }

numbered-called : (k room : ℕ) (o : Outcome) → numbered k (called room o) ≡ called room (ending k o)
unfolding numbered called ending
numbered-called k room o = refl

ending-after : (k : ℕ) (e : Effect) (o : Outcome) → ending k (after e o) ≡ after e (ending k o)
unfolding ending after
ending-after k e o = refl

-- One message in front of others --------------------------------------------------------------

module _ (m rest : List ℕ) (w : WholeMessage m) where
  field_is : length_field (m ++ rest) ≡ length m
  field_is = length-same m rest (let a = w.0 in omega arith) ∙ w.1

  whole_is : (4 ≤ length_field (m ++ rest)) × (length_field (m ++ rest) ≤ length (m ++ rest))
  whole_is = let a = w.0 in let f = field_is in let l = length-append m rest in (omega arith, omega arith)

  front-is : (v : Venue) (number : ℕ) → step v number (m ++ rest) ≡ step v number m
  front-is v number = front-step v number (m ++ rest) whole_is ∙ ap (step v number) (ap (λ (k : ℕ). take k (m ++ rest)) field_is ∙ take-append_seam m rest)

  not-one : (v : Venue) (number : ℕ) → eqb (step v number m).refused 1 ≡ false
  unfolding step answered
  not-one v number = let a = w.0 in let b = w.1 in whole-refused v m (whole_in m (omega arith, omega arith))

  some : 0 < length (m ++ rest)
  some = let a = w.0 in let l = length-append m rest in omega arith

  rest-is : drop (length_field (m ++ rest)) (m ++ rest) ≡ rest
  rest-is = ap (λ (k : ℕ). drop k (m ++ rest)) field_is ∙ drop-append_seam m rest

  module _ (fuel : ℕ) (v : Venue) (n room : ℕ) where
    abbrev a : StepOutcome
    a = step v (suc n) m

    front-full : exceeds (suc n) room a.effect.reports ≡ true → run_from (suc fuel) v n room (m ++ rest) ≡ ends 10 v
    front-full e = run-full fuel v n room (m ++ rest) some (ap (λ (x : StepOutcome). exceeds (suc n) room x.effect.reports) (front-is v (suc n)) ∙ e)

    front-more : exceeds (suc n) room a.effect.reports ≡ false →
        run_from (suc fuel) v n room (m ++ rest) ≡ after a.effect (run_from fuel a.effect.venue (suc n) (room - length (encode_all a.effect.reports)) rest)
    front-more e =
        run_on fuel v n room (m ++ rest) some (ap (λ (x : StepOutcome). exceeds (suc n) room x.effect.reports) (front-is v (suc n)) ∙ e)
        (ap (λ (x : StepOutcome). eqb x.refused 1) (front-is v (suc n)) ∙ not-one v (suc n))
        ∙ ap₂ (λ (x : StepOutcome) (r : List ℕ). after x.effect (run_from fuel x.effect.venue (suc n) (room - length (encode_all x.effect.reports)) r)) (front-is v (suc n)) rest-is

module _ (v : Venue) (n room : ℕ) (bs : List ℕ) (rest : Venue → ℕ → Outcome) where
  pub hands-full : exceeds (suc n) room (step v (suc n) bs).effect.reports ≡ true → hands v n room bs rest ≡ ends 10 v
  unfolding hands
  hands-full e = rw (e, hands)

  pub hands_more : exceeds (suc n) room (step v (suc n) bs).effect.reports ≡ false →
      hands v n room bs rest ≡ after (step v (suc n) bs).effect (rest (step v (suc n) bs).effect.venue (room - length (encode_all (step v (suc n) bs).effect.reports)))
  unfolding hands
  hands_more e = rw (e, hands)

module _ (fuel : ℕ) (v : Venue) (n room : ℕ) (m s : List Part) where
  pub fed-on : (bs : List ℕ) → next (suc n) m s ≡ message bs → fed_from (suc fuel) v n room m s ≡ hands v n room bs (λ w left. fed_from fuel w (suc n) left m s)
  unfolding fed_from
  fed-on bs e = rw (e, fed_from)

  pub fed-stop : (k : ℕ) → next (suc n) m s ≡ stop k → fed_from (suc fuel) v n room m s ≡ ends k v
  unfolding fed_from
  fed-stop k e = rw (e, fed_from)

-- The law -------------------------------------------------------------------------------------

-- what it says of a list handed out
Runs : (F : ℕ) (v : Venue) (n room : ℕ) (h : Handed) (o : Outcome) → Type 0
Runs F v n room h o = o ≡ ending h.number (run_from F v n room (joined h.messages))

runs-stop : (F : ℕ) (v : Venue) (n room k : ℕ) → Runs F v n room (stopped k) (ends k v)
unfolding Runs stopped joined
runs-stop F v n room k = sym (ap (ending k) (run_none F v n room) ∙ (unfold ending ends in refl))

runs-first : (F : ℕ) (v : Venue) (n room : ℕ) (bs : List ℕ) (h : Handed) (rest : Venue → ℕ → Outcome) → WholeMessage bs → length (joined (first bs h).messages) ≤ F →
    ((G : ℕ) (w : Venue) (left : ℕ) → length (joined h.messages) ≤ G → Runs G w (suc n) left h (rest w left)) →
    Runs F v n room (first bs h) (hands v n room bs rest)
unfolding Runs first joined
runs-first zero v n room bs h rest w le on = let a = w.0 in let l = length-append bs (joined h.messages) in absurd (omega arith)
runs-first (suc F) v n room bs h rest w le on = go (exceeds (suc n) room (step v (suc n) bs).effect.reports) refl
  where
    go : (t : Bool) → exceeds (suc n) room (step v (suc n) bs).effect.reports ≡ t →
        hands v n room bs rest ≡ ending h.number (run_from (suc F) v n room (bs ++ joined h.messages))
    go true e =
        hands-full v n room bs rest e
        ∙ sym (ap (ending h.number) (front-full bs (joined h.messages) w F v n room e) ∙ (unfold ending ends in refl))
    go false e =
        let a = w.0 in
        let l = length-append bs (joined h.messages) in
        hands_more v n room bs rest e
        ∙ ap (after (step v (suc n) bs).effect) (on F _ _ (omega arith))
        ∙ sym (ap (ending h.number) (front-more bs (joined h.messages) w F v n room e) ∙ ending-after h.number _ _)

module _ (m s : List Part) (all : (k : ℕ) (bs : List ℕ) → next k m s ≡ message bs → WholeMessage bs) where
  fed-run : (fuel F : ℕ) (v : Venue) (n room : ℕ) → length (joined (handed_from fuel n m s).messages) ≤ F →
      Runs F v n room (handed_from fuel n m s) (fed_from fuel v n room m s)
  fed-run zero F v n room le = unfold handed_from fed_from in (runs-stop F v n room 0)
  fed-run (suc fuel) F v n room le = go (next (suc n) m s) refl (λ G w left k. fed-run fuel G w (suc n) left k)
    where
      go : (x : Next) → next (suc n) m s ≡ x →
          ((G : ℕ) (w : Venue) (left : ℕ) → length (joined (handed_from fuel (suc n) m s).messages) ≤ G → Runs G w (suc n) left (handed_from fuel (suc n) m s) (fed_from fuel w (suc n) left m s)) →
          Runs F v n room (handed_from (suc fuel) n m s) (fed_from (suc fuel) v n room m s)
      go (stop k) e on = rw (handed-stop fuel n m s k e, fed-stop fuel v n room m s k e) (runs-stop F v n room k)
      go (message bs) e on =
          rw (handed-on fuel n m s bs e, fed-on fuel v n room m s bs e)
          (runs-first F v n room bs (handed_from fuel (suc n) m s) (λ w left. fed_from fuel w (suc n) left m s) (all (suc n) bs e)
          (subst (λ (h : Handed). length (joined h.messages) ≤ F) (handed-on fuel n m s bs e) le) on)

  -- of two lines that rise
  pub feed-is : (room : ℕ) (main spare : List ℕ) → m ≡ parts_of main → s ≡ parts_of spare → faultless main ≡ true → faultless spare ≡ true →
      called room (fed_from (length main + length spare) fresh_venue 0 room m s) ≡ feed room main spare
  unfolding feed handed run Runs
  feed-is room main spare a b c d =
      rw (c, d, sym a, sym b)
      (ap (called room) (fed-run (length main + length spare) _ fresh_venue 0 room (omega arith)) ∙ sym (numbered-called _ room _))

-- a line that does not
pub feed-not : (room : ℕ) (main spare : List ℕ) → (faultless main && faultless spare) ≡ false → called room (ends 21 fresh_venue) ≡ feed room main spare
unfolding feed handed run stopped joined run_from
feed-not room main spare e = rw e (sym (numbered-called 21 room (ends 0 fresh_venue) ∙ ap (called room) (unfold ending ends in refl)))
