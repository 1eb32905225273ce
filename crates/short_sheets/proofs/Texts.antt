-- The text of a session fits its memory.
use mathlib.Core.Path.{◌≡◌, refl, sym, ap, ◌∙◌}
use mathlib.Core.List.{List, [], ◌∷◌, ◌++◌, map}
use Prim.Native.Nat.{ℕ, suc, ◌+◌, ◌*◌, ◌≤◌}
use native.Mathlib.Omega.{arith}
use lib.ListN.{length, length-append}
use Rattle.rules.specs.Words.{fresh_venue}
use Rattle.rules.specs.Records.{records}
use Rattle.rules.specs.Calls.{called, run, run_from}
use Rattle.rules.proofs.CallsLaws.{run_room}
use Rattle.rules.proofs.Reading.{reads-back}
use Rattle.records.specs.Seen.{Seen, seen}
use Rattle.text.specs.Lines.{line, text_of, word, words}
use Rattle.text.specs.Typing.{◌types◌}
use Rattle.text.proofs.TypingLaws.{types-append, types-fits}
use Rattle.text.proofs.WidthsLaws.{text-at-most}
use Rattle.short_sessions.specs.declared.Session.{Session}
use Rattle.short_sessions.specs.declared.Session.TheVariants.{Empty, One, Two, Three}
use Rattle.short_sessions.specs.Sessions.{Within}
use Rattle.short_sessions.specs.Values.{places_of}
use Rattle.short_sheets.specs.Short.{Stands, messages_of, most_text, places_line, room, session_text}
use Rattle.short_sheets.proofs.Listed.{listed}
use Rattle.short_sheets.proofs.SessionMessages.{stands_on}
use Rattle.short_sheets.proofs.SessionRuns.{ran-session}

words-length : (s : List ℕ) → Within 12 s → length (words (map suc s)) ≤ 3 * length s
unfolding words word Within
words-length [] w = omega arith
words-length (p ∷ s) w =
    let a = (listed p w.0).two_digits in
    let b = words-length s w.1 in
    let c = length-append (word (suc p)) (words (map suc s)) in
    omega arith

places-length : (s : List ℕ) → length s ≤ 3 → Within 12 s → length (places_line s) ≤ 9
unfolding places_line line Within
places-length [] few w = omega arith
places-length (p ∷ s) few w =
    let a = (listed p w.0).two_digits in
    let b = words-length s w.1 in
    simp length-append (omega arith)

-- the records of its run
read_back : (s : List ℕ) → length s ≤ 3 → Within 12 s → records (run room (messages_of s)).report ≡ (run_from (length (messages_of s)) fresh_venue 0 room (messages_of s)).reports
unfolding run called
read_back s few w = reads-back room _ (ran-session s few w).fits (run_room (length (messages_of s)) fresh_venue 0 room (messages_of s))

run_length : (s : List ℕ) → length s ≤ 3 → Within 12 s → 2 * length (text_of (records (run room (messages_of s)).report)) ≤ 5 * room
run_length s few w =
    let rs = (run_from (length (messages_of s)) fresh_venue 0 room (messages_of s)).reports in
    let a = text-at-most rs (ran-session s few w).fits in
    let b = run_room (length (messages_of s)) fresh_venue 0 room (messages_of s) in
    rw (read_back s few w) (omega arith)

text-length : (s : List ℕ) → length s ≤ 3 → Within 12 s → length (session_text s) ≤ most_text
unfolding session_text
text-length s few w =
    let a = places-length s few w in
    let b = run_length s few w in
    simp length-append (omega arith)

-- the line of its places, and then the lines of its run
pub text-stands : (s : List ℕ) → length s ≤ 3 → Within 12 s → (l m o report : List ℕ) (i j : ℕ) → most_text ≤ length l → report ≡ (run room (messages_of s)).report →
    seen m i ≡ seen l 0 types places_line s → seen o j ≡ seen m i types text_of (records report) → Stands (session_text s) o j
text-stands s few w l m o report i j enough r x y =
    let t = text-length s few w in
    let h : 0 + length (session_text s) ≤ length l = omega arith in
    let typed : seen o j ≡ seen l 0 types session_text s =
    y ∙ ap (λ (v : Seen). v types text_of (records report)) x ∙ sym (types-append (seen l 0) (places_line s) (text_of (records report)))
    ∙ ap (λ (b : List ℕ). seen l 0 types (places_line s ++ text_of (records b))) r ∙ (unfold session_text in refl) in
    stands_on l o [] (session_text s) 0 j (record { is = refl; fits = omega arith }) h (typed ∙ types-fits l 0 (session_text s) h)

-- a session has at most three messages
pub short-enough : (s : Session) → length (places_of s) ≤ 3
short-enough Empty = omega arith
short-enough (One a) = omega arith
short-enough (Two a b) = omega arith
short-enough (Three a b c) = omega arith
