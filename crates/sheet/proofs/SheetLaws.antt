-- One call more, and its text; and then the whole list.
use mathlib.Core.Path.{◌≡◌, refl, sym, ap, ap₂, ◌∙◌}
use mathlib.Core.Bool.{Bool, true, false}
use mathlib.Core.Logic.{◌≢◌}
use mathlib.Core.List.{List, ◌++◌, append_assoc, append-nil}
use Prim.Native.Nat.{ℕ, suc, ◌+◌, ◌-◌, ◌≤◌, ◌<◌}
use native.Mathlib.Omega.{arith}
use lib.Dec.{eqb}
use lib.ListN.{length, take, drop, length-drop}
use lib.Seq.{drop-drop}
use borrow.Author.Tests.{eqb-true, eqb-false}
use Rattle.rules.specs.declared.Returned.{Returned}
use Rattle.rules.specs.declared.Venue.{Venue}
use Rattle.rules.specs.Bytes.{length_field}
use Rattle.rules.specs.Records.{Report, records}
use Rattle.rules.specs.Step.{answered, step}
use Rattle.rules.specs.Calls.{Call, after, called, ends, one}
use Rattle.rules.proofs.CallsLaws.{not-exceeds, one_from-done, torn-not}
use Rattle.rules.proofs.Reading.{reads-back}
use Rattle.rules.proofs.RefusalsLaws.{whole}
use Rattle.demands.specs.Soundness.{SoundAt}
use Rattle.demands.specs.Most.{most_report_bytes}
use Rattle.demands.proofs.Calls.{fresh-sound, stays-sound, step_fits}
use Rattle.demands.proofs.Most.{writes-at-most}
use Rattle.engine.specs.Runs.{call_of}
use Rattle.records.specs.Seen.{Seen, seen, pasted}
use Rattle.records.proofs.SeenLaws.{part-all, pasted_length, pasted-to}
use Rattle.text.specs.Lines.{text_of}
use Rattle.text.specs.Typing.{◌types◌}
use Rattle.text.proofs.TypingLaws.{types-fits}
use Rattle.text.proofs.WidthsLaws.{text-at-most}
use Rattle.sheet.specs.declared.Progress.{Progress}
use Rattle.sheet.specs.Sheet.{Printed, Prints, Stands, Whole, none_printed, message_end, left, more, most_input, most_text, sheet_text, started, text_from}
use Rattle.sheet.proofs.Texts.{begins, text-last, text-none, text-on}

-- The call ------------------------------------------------------------------------------------

-- the message was done
record Did (v : Venue) (n : ℕ) (bs : List ℕ) (r : Returned) (report : List ℕ) : Type 0 where
  number : r.number ≡ (step v (suc n) bs).refused
  done : r.done ≡ 1
  venue : r.venue ≡ (step v (suc n) bs).effect.venue
  reports : records report ≡ (step v (suc n) bs).effect.reports

did : (v : Venue) (n room : ℕ) (bs : List ℕ) (r : Returned) (report : List ℕ) → SoundAt (suc n) v → n < 4294967295 → most_report_bytes ≤ room →
    call_of r report ≡ one v n room bs → Did v n bs r report
unfolding one called after ends
did v n room bs r report s few enough e =
    let a = step v (suc n) bs in
    let w = writes-at-most v s.venue (suc n) bs in
    let o = one_from-done v n room bs s.venue.is s.next (not-exceeds (suc n) room a.effect.reports (omega arith) (omega arith)) in
    let x : call_of r report ≡ called room (after a.effect (ends a.refused a.effect.venue)) = e ∙ ap (called room) o in
    record {
      number = ap (λ (c : Call). c.returned.number) x;
      done = ap (λ (c : Call). c.returned.done) x;
      venue = ap (λ (c : Call). c.returned.venue) x;
      reports =
          ap (λ (c : Call). records c.report) x
          ∙ rw (append-nil a.effect.reports) (reads-back room a.effect.reports (step_fits v s.venue (suc n) (omega arith) bs) (omega arith));
    }

-- The text ------------------------------------------------------------------------------------

-- text typed from the start of a memory that has room for it
record Stood (text memory : List ℕ) (end : ℕ) : Type 0 where
  is : take end memory ≡ text
  fits : end ≤ length memory

stood : (l m text : List ℕ) (end : ℕ) → 0 + length text ≤ length l → seen m end ≡ seen l 0 types text → Stood text m end
unfolding seen
stood l m text end h e =
    let x : seen m end ≡ seen (pasted l 0 text) (0 + length text) = e ∙ types-fits l 0 text h in
    let a : end ≡ 0 + length text = ap (λ (w : Seen). w.at) x in
    let b : m ≡ pasted l 0 text = ap (λ (w : Seen). w.memory) x in
    record {
      is = ap₂ take a b ∙ pasted-to l text 0 (omega arith);
      fits = (let k = ap length b ∙ pasted_length l text 0 h in omega arith);
    }

-- One message more ----------------------------------------------------------------------------

module _ (m : List ℕ) (p : Progress) (stands : Stands m p) (inside : p.at < length m) (few : length m ≤ most_input) where
  -- what is left of the list
  abbrev bs : List ℕ
  bs = drop p.at m

  bs-length : length bs ≡ length m - p.at
  bs-length = length-drop p.at m

  some : length bs ≢ 0
  some z = let q = bs-length in omega arith

  -- where the printing stands then
  abbrev then : Returned → (next end : ℕ) → Progress
  then r next end = record { number = r.number; done = p.done + r.done; at = p.at + next; written = end; venue = r.venue }

  module _ (room : ℕ) (r : Returned) (report : List ℕ) (d : Did p.venue p.done bs r report) where
    abbrev refused : ℕ
    refused = (step p.venue (suc p.done) bs).refused

    abbrev reports : List Report
    reports = (step p.venue (suc p.done) bs).effect.reports

    abbrev after-it : Venue
    after-it = (step p.venue (suc p.done) bs).effect.venue

    numbers : p.done + length bs ≤ 4294967295
    numbers = let q = bs-length in let h = stands.counted in omega arith

    -- what a message leaves to print
    left-on : (next end : ℕ) → left m (then r next end) ≡ text_from after-it (suc p.done) (drop next bs)
    unfolding left
    left-on next end =
        let n : p.done + r.done ≡ suc p.done = (let h = d.done in omega arith) in
        rw (n, d.venue, drop-drop next p.at m)

    -- the message was torn, or not
    by_number : (next : ℕ) → next ≡ message_end r.number bs → (Q : Type 0) → (refused ≡ 1 → next ≡ length bs → Q) → (refused ≢ 1 → next ≡ length_field bs → Q) → Q
    unfolding message_end
    by_number next e Q torn on = go (eqb refused 1) refl
      where
        n : next ≡ message_end refused bs
        n = rw d.number at e

        go : (t : Bool) → eqb refused 1 ≡ t → Q
        go true x = torn (eqb-true refused 1 x) (n ∙ rw x)
        go false x = on (eqb-false refused 1 x) (n ∙ rw x)

    left_is : (next end : ℕ) → next ≡ message_end r.number bs → text_of reports ++ left m (then r next end) ≡ left m p
    unfolding left
    left_is next end e =
        by_number next e _
        (λ t k.
        let z : length (drop next bs) ≡ 0 = length-drop next bs ∙ (omega arith) in
        ap (λ (x : List ℕ). text_of reports ++ x) (left-on next end ∙ text-none _ _ (drop next bs) z)
        ∙ append-nil (text_of reports)
        ∙ sym (text-last p.venue p.done bs stands.sound some numbers t))
        (λ t k.
        ap (λ (x : List ℕ). text_of reports ++ x) (left-on next end ∙ ap (λ (j : ℕ). text_from after-it (suc p.done) (drop j bs)) k)
        ∙ sym (text-on p.venue p.done bs stands.sound some numbers t))

    moved : (next : ℕ) → next ≡ message_end r.number bs → (0 < next) × (next ≤ length bs)
    moved next e =
        by_number next e _ (λ _ k. (let z = some in omega (arith, bs-length), omega arith))
        (λ t k. let w = whole bs (torn-not p.venue p.done bs t) in (omega arith, omega arith))

  module _ (room : ℕ) (r : Returned) (report : List ℕ) (enough : most_report_bytes ≤ room) (e : call_of r report ≡ one p.venue p.done room (take (length m - p.at) bs)) where
    was : Did p.venue p.done bs r report
    was = did p.venue p.done room bs r report stands.sound (let h = stands.counted in omega arith) enough (e ∙ ap (one p.venue p.done room) (part-all m p.at))

    pub one-done : r.done ≡ 1
    one-done = was.done

    module _ (next : ℕ) (k : next ≡ message_end r.number (take (length m - p.at) bs)) where
      end_is : next ≡ message_end r.number bs
      end_is = k ∙ ap (message_end r.number) (part-all m p.at)

      forward : (0 < next) × (next ≤ length bs)
      forward = moved room r report was next end_is

      pub within : p.at + next ≤ length m
      within = let y = forward.1 in let z = bs-length in omega arith

      pub advanced : (l text : List ℕ) (end : ℕ) → most_text ≤ length l → seen text end ≡ seen l 0 types text_of (records report) → Prints m p text (then r next end)
      unfolding step answered
      advanced l text end wide q = record {
        is = ap (λ (x : List ℕ). x ++ left m (then r next end)) st.is ∙ left_is room r report was next end end_is;
        fits = st.fits;
        stands = record {
          sound =
              let x = was.done in
              let n : suc (p.done + r.done) ≡ suc (suc p.done) = omega arith in
              rw (was.venue, n) (stays-sound p.venue (suc p.done) (let h = stands.counted in omega arith) stands.sound bs);
          counted = (let x = was.done in let y = forward.0 in let z = stands.counted in omega arith);
          inside = within;
        };
        further = (let y = forward.0 in omega arith);
        done = (let x = was.done in omega arith);
      }
        where
          st : Stood (text_of (reports room r report was)) text end
          st =
              let t = text-at-most (reports room r report was) (step_fits p.venue stands.sound.venue (suc p.done) (let h = stands.counted in omega arith) bs) in
              let w = writes-at-most p.venue stands.sound.venue (suc p.done) bs in
              stood l text (text_of (reports room r report was)) end (omega arith) (q ∙ ap (λ (rs : List Report). seen l 0 types text_of rs) was.reports)

-- The whole list ------------------------------------------------------------------------------

-- what was printed and what is left are the sheet
joined : (m text : List ℕ) (p : Progress) → Printed m text p → text ++ left m p ≡ sheet_text m
joined m text p none_printed = begins m
joined m text p (more {text = old} {p = q} memory r before x) =
    append_assoc old (take r.written memory) (left m r) ∙ ap (λ (y : List ℕ). old ++ y) x.is ∙ joined m old q before

pub whole-list : Whole
unfolding left
whole-list m few text p x h =
    sym (ap (λ (y : List ℕ). text ++ y) (text-none p.venue p.done (drop p.at m) (length-drop p.at m ∙ omega arith)) ∙ append-nil text)
    ∙ joined m text p x

-- the start
pub stands-start : (m : List ℕ) → Stands m started
stands-start m = record { sound = fresh-sound; counted = omega arith; inside = omega arith }

-- Where the loop stands: what it has printed so far, and its memories.
pub record Going (m : List ℕ) (p : Progress) (report text : List ℕ) : Type 0 where
  pub printed : List ℕ
  pub so_far : Printed m printed p
  pub stands : Stands m p
  pub report-length : length report ≡ most_report_bytes
  pub text-length : length text ≡ most_text
