-- Where the loop over the sessions stands, and what the writer took on the way.
use Rattle.std.proofs.Common.{◌≡◌, ℕ, ◌<◌, suc, List, [], ◌∷◌, ◌++◌, length, take, refl, sym, ap, subst, ◌∙◌, arith, None, Some}
use Rattle.std.proofs.Math.Option.{none}
use Rattle.std.specs.declared.option.Option.{Option}
use Rattle.std.specs.Io.KnownBytes.{Appends}
use Rattle.std.proofs.KnownBytes.{Appends-nil, Appends-trans}
use Rattle.short_sessions.specs.declared.Session.{Session}
use Rattle.short_sessions.specs.Sessions.{following, sessions}
use Rattle.short_sessions.specs.Held.{advanced, held, moved}
use Rattle.short_sessions.specs.Values.{found, places_of}
use Rattle.short_sessions.proofs.Holding.{came}
use Rattle.short_sessions.proofs.SessionsLeft.{left, one_less}
use Rattle.short_sheets.specs.Short.{Printed, Stands, none_printed, more, most_text, room, session_text, texts_of}
use Rattle.short_sheets.proofs.ShortLaws.{Going, goes_to, in_list, whole}
use Rattle.short_sheets.proofs.Texts.{short-enough}

-- before a session
abbrev pub Before : (s report text memory : List ℕ) (a b : Option (List ℕ)) → Type 0
Before s report text memory a b = (x : Going s report text memory) × Appends a b x.printed

-- before the next session, or at the end
abbrev pub Reached : (next : Option Session) (report text memory : List ℕ) (a b : Option (List ℕ)) → Type 0
Reached (Some s) report text memory a b = Before (places_of s) report text memory a b
Reached None report text memory a b = Appends a b (texts_of (sessions 12))

-- how many sessions are still to print
abbrev pub still : Option Session → ℕ
still (Some s) = suc (left 12 (places_of s))
still None = 0

pub at_first : (s report text : List ℕ) (a : Option (List ℕ)) → s ≡ [] → length report ≡ room → length text ≡ most_text → Before s report text (0 ∷ 0 ∷ 0 ∷ 0 ∷ []) a a
unfolding held
at_first s report text a e h k = (
  record {
    holds = ap held (sym e);
    printed = [];
    so_far = subst (Printed []) (sym e) none_printed;
    report-length = h;
    text-length = k;
    memory-length = refl;
  },
  Appends-nil a,
)

pub at_session : (next : Option Session) (s : Session) (report text memory : List ℕ) (a b : Option (List ℕ)) → next ≡ Some s → Reached next report text memory a b →
    Before (places_of s) report text memory a b
at_session next s report text memory a b e x = subst (λ n. Reached n report text memory a b) e x

pub at_end : (next : Option Session) (report text memory : List ℕ) (a b : Option (List ℕ)) → next ≡ None → Reached next report text memory a b → Appends a b (texts_of (sessions 12))
at_end next report text memory a b e x = subst (λ n. Reached n report text memory a b) e x

-- one session more
module _ (next : Option Session) (s : Session) (report text memory : List ℕ) (a b : Option (List ℕ)) (is : next ≡ Some s) (reached : Reached next report text memory a b) where
  before : Before (places_of s) report text memory a b
  before = at_session next s report text memory a b is reached

  pub fewer : (o : Option Session) (memory2 : List ℕ) → moved (found o) memory2 ≡ advanced 12 memory → still o < still next
  fewer None memory2 e = rw is (omega arith)
  fewer (Some t) memory2 e =
      let on = goes_to _ _ _ _ before.0 (short-enough s) _ _ (places_of t) e refl in
      let less = one_less 12 _ _ (sym on.to-next) in
      rw is (omega arith)

  pub and_then : (o : Option Session) (report2 text2 memory2 : List ℕ) (written : ℕ) (d : Option (List ℕ)) → moved (found o) memory2 ≡ advanced 12 memory →
      Stands (session_text (places_of s)) text2 written → length report2 ≡ length report → length text2 ≡ length text → length memory2 ≡ length memory →
      Appends b d (take written text2) → Reached o report2 text2 memory2 a d
  and_then None report2 text2 memory2 written d e h k l n y =
      let x = before.0 in
      let last : following 12 (places_of s) ≡ none = sym (came 12 _ _ memory2 (short-enough s) (in_list _ _ x.so_far) (e ∙ ap (advanced 12) x.holds)).to-next in
      subst (Appends a d) (whole x.printed _ text2 written x.so_far h last) (Appends-trans a b d _ _ before.1 y)
  and_then (Some t) report2 text2 memory2 written d e h k l n y =
      let x = before.0 in
      let on = goes_to _ _ _ _ x (short-enough s) _ _ (places_of t) e refl in (
        record {
          holds = on.there (places_of t) refl;
          printed = x.printed ++ take written text2;
          so_far = more text2 written (places_of t) x.so_far h (sym on.to-next);
          report-length = k ∙ x.report-length;
          text-length = l ∙ x.text-length;
          memory-length = n ∙ x.memory-length;
        },
        Appends-trans a b d _ _ before.1 y,
      )
