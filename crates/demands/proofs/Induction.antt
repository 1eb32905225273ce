-- The induction over the messages of a run and then over the calls: what each message keeps of what callers have seen, holds of every list of calls.
use mathlib.Core.List.{List, [], ◌++◌, ◌∷◌, append_assoc, append-nil}
use Prim.Native.Nat.{◌+◌, ◌≤◌, suc, zero, ℕ}
use native.Mathlib.Nat.{add-suc, add-zero, suc-add}
use lib.ListN.{drop, length}
use Rattle.rules.specs.Words.{fresh_venue}
use Rattle.rules.specs.Bytes.{length_field}
use Rattle.rules.specs.Records.{ForAll, Fits, FourBytes, encode_all}
use Rattle.rules.specs.Effects.{Effect}
use Rattle.rules.specs.Step.{step}
use Rattle.rules.specs.Calls.{Outcome, after, called, ends, one, one_from, run, run_from, run_upon, run_upon_from}
use Rattle.demands.specs.Demand.{Later, Opening, Seen, alone, by_list, by_message, by_run, call_upon, calls, extend, given_to, opening, parts, start}
use Rattle.rules.proofs.Answering.{told}
use Rattle.rules.proofs.CallsLaws.{one-room, one_from-by, run_room, run_from-by, run_upon_from-by, upon-room}
use Rattle.rules.proofs.Reading.{reads-back}
use Rattle.rules.proofs.Widths.{Ranged, each_append}
use Rattle.demands.proofs.Account.{onto}

-- how a call went, seen: as it would be if its records were read
unfoldable went : Seen → List ℕ → Outcome → Seen
went s bs r = record {
  venue = r.venue;
  done = s.done + r.done;
  messages = s.messages ++ parts r.done bs;
  reports = s.reports ++ r.reports;
}

-- what holds at first, of fields in range, and is kept by each message
module _ (P : Seen → Type 0) (ranged : (s : Seen) → P s → Ranged s.venue) (begins : P start)
    (more : (s : Seen) (bs : List ℕ) → P s → FourBytes (suc s.done) → P (onto s bs (step s.venue (suc s.done) bs).effect)) where
  -- what is kept holds after a call that was given bs, and its records fit their widths
  record Onward (s : Seen) (bs : List ℕ) (r : Outcome) : Type 0 where
    holds : P (went s bs r)
    fits : ForAll Fits r.reports

  onward-ends : (s : Seen) (bs : List ℕ) (k : ℕ) → P s → Onward s bs (ends k s.venue)
  unfolding ends parts went
  onward-ends s bs k a = record { holds = rw (append-nil s.messages, append-nil s.reports, add-zero) a; fits = tt }

  onward-after : (s : Seen) (e : Effect) (bs : List ℕ) (r : Outcome) → ForAll Fits e.reports → Onward (onto s bs e) (drop (length_field bs) bs) r → Onward s bs (after e r)
  unfolding after parts went onto
  onward-after s e bs r f x = record {
    holds = rw (add-suc, ← suc-add, ← append_assoc s.messages (bs ∷ []) (parts r.done (drop (length_field bs) bs)), ← append_assoc s.reports e.reports r.reports) x.holds;
    fits = each_append Fits e.reports r.reports f x.fits;
  }

  -- the messages of a run, one after another
  run-keeps : (fuel : ℕ) (s : Seen) (room : ℕ) (bs : List ℕ) → P s → Onward s bs (run_from fuel s.venue s.done room bs)
  unfolding onto
  run-keeps zero s room bs a = unfold run_from in (onward-ends s bs 0 a)
  run-keeps (suc fuel) s room bs a =
      let v = s.venue in
      let e = (step v (suc s.done) bs).effect in
      let f = (told v (ranged s a) (suc s.done) bs).fits in
      run_from-by (Onward s bs) v s.done room bs fuel (λ _. onward-ends s bs 0 a) (λ _ _. onward-ends s bs 10 a)
      (λ d _. onward-after s e bs _ (f d.0) (onward-ends (onto s bs e) _ 1 (more s bs a d.0)))
      (λ d _. onward-after s e bs _ (f d.0) (run-keeps fuel (onto s bs e) _ _ (more s bs a d.0)))

  one-keeps : (s : Seen) (room : ℕ) (bs : List ℕ) → P s → Onward s bs (one_from s.venue s.done room bs)
  unfolding onto
  one-keeps s room bs a =
      let v = s.venue in
      let e = (step v (suc s.done) bs).effect in
      one_from-by (Onward s bs) v s.done room bs (λ _. onward-ends s bs 9 a) (λ _ _. onward-ends s bs 10 a)
      (λ _ d. onward-after s e bs _ ((told v (ranged s a) (suc s.done) bs).fits d.0) (onward-ends (onto s bs e) _ _ (more s bs a d.0)))

  upon-keeps : (s : Seen) (room : ℕ) (bs : List ℕ) → P s → Onward s bs (run_upon_from s.venue s.done room bs)
  upon-keeps s room bs a =
      run_upon_from-by (Onward s bs) s.venue s.done room bs (λ _. onward-ends s bs 9 a) (λ _. run-keeps (length bs) s room bs a)

  -- The calls ---------------------------------------------------------------------------------

  -- the report memory gives back the records
  extend-keeps : (s : Seen) (bs : List ℕ) (room : ℕ) (r : Outcome) → length (encode_all r.reports) ≤ room → Onward s bs r → P (extend s bs (called room r))
  unfolding extend called went
  extend-keeps s bs room r le x = rw (reads-back room r.reports x.fits le) x.holds

  opening-keeps : (o : Opening) → P (opening o)
  unfolding opening run start
  opening-keeps (by_run g) =
      extend-keeps start g.bytes g.room _ (run_room (length g.bytes) fresh_venue 0 g.room g.bytes) (run-keeps (length g.bytes) start g.room g.bytes begins)
  opening-keeps alone = begins

  call-keeps : (c : Later) (s : Seen) → P s → P (extend s (given_to c).bytes (call_upon c s.venue s.done))
  unfolding call_upon given_to one run_upon
  call-keeps (by_message g) s a = extend-keeps s g.bytes g.room _ (one-room s.venue s.done g.room g.bytes) (one-keeps s g.room g.bytes a)
  call-keeps (by_list g) s a = extend-keeps s g.bytes g.room _ (upon-room s.venue s.done g.room g.bytes) (upon-keeps s g.room g.bytes a)

  calls-keep : (cs : List Later) (s : Seen) → P s → P (calls s cs)
  unfolding calls
  calls-keep [] s a = a
  calls-keep (c ∷ cs) s a = calls-keep cs _ (call-keeps c s a)

  pub all_keep : (o : Opening) (cs : List Later) → P (calls (opening o) cs)
  all_keep o cs = calls-keep cs (opening o) (opening-keeps o)
