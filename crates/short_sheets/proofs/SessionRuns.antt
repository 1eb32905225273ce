-- The run of a session: every message is done, and its records fit their widths.
use Rattle.std.specs.Prelude.{Result, Ok, Err}
use mathlib.Core.Path.{◌≡◌, refl, sym, ap, ◌∙◌, subst}
use mathlib.Core.Bool.{true≢false}
use mathlib.Core.Logic.{◌≢◌}
use mathlib.Core.List.{List, [], ◌∷◌, ◌++◌}
use Prim.Native.Nat.{ℕ, zero, suc, ◌+◌, ◌-◌, ◌*◌, ◌≤◌, ◌<◌}
use native.Mathlib.Omega.{arith}
use lib.ListN.{length, length-append, drop}
use lib.Seq.{drop-append_seam}
use Rattle.rules.specs.declared.Message.{Message}
use Rattle.rules.specs.declared.Returned.{Returned}
use Rattle.rules.specs.declared.Venue.{Venue}
use Rattle.rules.specs.declared.Refusal.{Refusal}
use Rattle.rules.specs.Bytes.{length_field}
use Rattle.rules.specs.Messages.{message_of}
use Rattle.rules.specs.Words.{fresh_venue}
use Rattle.rules.specs.Records.{ForAll, Fits, encode_all}
use Rattle.rules.specs.Refusals.{refusal, refusal_of, refusal_number}
use Rattle.rules.specs.Step.{answered, step}
use Rattle.rules.specs.Calls.{Call, Outcome, after, called, ends, run, run_from}
use Rattle.rules.proofs.CallsLaws.{not-exceeds, run_none, run_from-by}
use Rattle.rules.proofs.RefusalsLaws.{decoded-by, refusal_of-by, whole_in}
use Rattle.rules.proofs.Widths.{each_append}
use Rattle.demands.specs.Soundness.{SoundAt}
use Rattle.demands.specs.Most.{most_report_bytes}
use Rattle.demands.proofs.Calls.{fresh-sound, stays-sound, step_fits}
use Rattle.demands.proofs.Most.{writes-at-most}
use Rattle.engine.specs.Runs.{call_of}
use Rattle.short_sessions.specs.Sessions.{Within}
use Rattle.short_sheets.specs.Short.{Completes, message_at, messages_of, room}
use Rattle.short_sheets.proofs.Listed.{listed, tells_first}

-- a message that is not torn is not refused by 1
abbrev of : Venue → Result Message Refusal → ℕ
of v x = elim x [ Ok m ↦ refusal_of v m | Err r ↦ refusal_number r ]

not-refused : (v : Venue) (n : ℕ) (bs : List ℕ) → (4 ≤ length_field bs) × (length_field bs ≤ length bs) → (step v n bs).refused ≢ 1
unfolding step answered refusal
not-refused v n bs w =
    decoded-by (λ x. of v x ≢ 1) bs
    (λ t _. true≢false (sym t ∙ whole_in bs w)) (λ _ _ e. omega arith) (λ _ _ e. omega arith) (λ _ _ e. omega arith) (λ _ _ e. omega arith)
    (λ _ _ _. refusal_of-by (λ x. x ≢ 1) v (message_of bs) (λ e. omega arith) (λ e. omega arith) (λ e. omega arith) (λ e. omega arith)
    (λ e. omega arith) (λ e. omega arith) (λ e. omega arith) (λ e. omega arith)
    (λ _ _ _ _ _ _ _ _ e. omega arith))

-- a run that did all its messages
pub record Ran (o : Outcome) : Type 0 where
  pub all_done : o.number ≡ 0
  pub fits : ForAll Fits o.reports

-- the first message of some
module _ (p : ℕ) (rest : List ℕ) (h : p < 12) where
  abbrev bs : List ℕ
  bs = message_at p ++ rest

  field : length_field bs ≡ length (message_at p)
  field = tells_first p rest (listed p h)

  bs-whole : (4 ≤ length_field bs) × (length_field bs ≤ length bs)
  bs-whole =
      let l = listed p h in
      let a = l.some_bytes in
      let e = field in
      let n = length-append (message_at p) rest in
      (omega arith, omega arith)

  bs-rest : drop (length_field bs) bs ≡ rest
  bs-rest = ap (λ (n : ℕ). drop n bs) field ∙ drop-append_seam (message_at p) rest

ran : (s : List ℕ) (fuel : ℕ) (v : Venue) (n room : ℕ) → Within 12 s → SoundAt (suc n) v → n + length s ≤ 4294967295 → length (messages_of s) ≤ fuel →
    most_report_bytes * length s ≤ room → Ran (run_from fuel v n room (messages_of s))
unfolding messages_of Within ends after
ran [] fuel v n room w is few enough roomy = subst Ran (sym (run_none fuel v n room)) (record { all_done = refl; fits = tt })
ran (p ∷ s) zero v n room w is few enough roomy = let x = bs-whole p (messages_of s) w.0 in absurd (omega arith)
ran (p ∷ s) (suc fuel) v n room w is few enough roomy =
    let rest = messages_of s in
    let bytes = message_at p ++ rest in
    let x = bs-whole p rest w.0 in
    let y = writes-at-most v is.venue (suc n) bytes in
    let l = (listed p w.0).some_bytes in
    let e = length-append (message_at p) rest in
    let rs = (step v (suc n) bytes).effect.reports in
    let next = (step v (suc n) bytes).effect.venue in
    run_from-by Ran v n room bytes fuel
    (λ z. absurd (omega arith))
    (λ _ z. absurd (true≢false (sym z ∙ not-exceeds (suc n) room rs (omega arith) (omega arith))))
    (λ _ z. absurd (not-refused v (suc n) bytes x z))
    (λ d _.
    let r = ran s fuel next (suc n) (room - length (encode_all rs)) w.1 (stays-sound v (suc n) (omega arith) is bytes) (omega arith) (omega arith) (omega arith) in
    let q = subst (λ (b : List ℕ). Ran (run_from fuel next (suc n) (room - length (encode_all rs)) b)) (sym (bs-rest p rest w.0)) r in
    record { all_done = q.all_done; fits = each_append Fits rs _ (step_fits v is.venue (suc n) d.0 bytes) q.fits })

-- The session's run
pub ran-session : (s : List ℕ) → length s ≤ 3 → Within 12 s → Ran (run_from (length (messages_of s)) fresh_venue 0 room (messages_of s))
ran-session s few w = ran s (length (messages_of s)) fresh_venue 0 room w fresh-sound (omega arith) (omega arith) (omega arith)

pub completes : Completes
unfolding run called
completes s few w = (ran-session s few w).all_done

-- what the call leaves in the report memory
pub report-is : (memory : ℕ) (r : Returned) (report m bs : List ℕ) → call_of r report ≡ run memory m → m ≡ bs → report ≡ (run memory bs).report
report-is memory r report m bs e k = ap (λ (c : Call). c.report) e ∙ ap (λ (x : List ℕ). (run memory x).report) k
