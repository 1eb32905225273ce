-- What is printed, session by session: together it is the text of all.
use mathlib.Core.Path.{◌≡◌, refl, sym, ap, ap₂, ◌∙◌, subst}
use mathlib.Core.List.Memᴰ
use mathlib.Core.List.{List, Memᴰ, [], ◌∷◌, ◌++◌, append_assoc, append-nil}
use mathlib.Core.Option.{Option, none, some}
use Prim.Native.Nat.{ℕ, ◌≤◌}
use native.Mathlib.Omega.{arith}
use lib.ListN.{length, take}
use Rattle.short_sessions.specs.Sessions.{Follow, Within, following, sessions}
use Rattle.short_sessions.specs.Held.{advanced, held, moved}
use Rattle.short_sessions.proofs.Following.{one-after-another}
use Rattle.short_sessions.proofs.Listing.{no_other, number}
use Rattle.short_sessions.proofs.Holding.{Came, came}
use Rattle.short_sheets.specs.Short.{Counted, Printed, Stands, Whole, none_printed, more, most_text, room, session_text, texts_of}

none-some : {t : List ℕ} → none ≡ some t → ⊥
none-some e = let z : ◌≡◌ {A = ℕ} 0 1 = cc in omega arith

pub counted : Counted
counted = number 12

texts-one : (l : List (List ℕ)) (s : List ℕ) → texts_of (l ++ (s ∷ [])) ≡ texts_of l ++ session_text s
unfolding texts_of
texts-one [] s = append-nil (session_text s)
texts-one (t ∷ l) s = ap (λ (x : List ℕ). session_text t ++ x) (texts-one l s) ∙ sym (append_assoc (session_text t) (texts_of l) (session_text s))

-- the sessions printed before s, and those that follow it
record Reached (text s : List ℕ) : Type 0 where
  before : List (List ℕ)
  rest : List (List ℕ)
  all : sessions 12 ≡ before ++ (s ∷ rest)
  follow : Follow 12 s rest
  printed : text ≡ texts_of before

-- one session more
next-reached : (text s memory : List ℕ) (written : ℕ) (t : List ℕ) → Reached text s → Stands (session_text s) memory written → following 12 s ≡ some t → Reached (text ++ take written memory) t
unfolding Follow
next-reached text s memory written t x h e = go x.rest x.all x.follow
  where
    go : (l : List (List ℕ)) → sessions 12 ≡ x.before ++ (s ∷ l) → Follow 12 s l → Reached (text ++ take written memory) t
    go [] a f = absurd (none-some (sym f ∙ e))
    go (u ∷ l) a f =
        let same : u ≡ t = cc f.0 in
        record {
          before = x.before ++ (s ∷ []);
          rest = l;
          all = a ∙ sym (append_assoc x.before (s ∷ []) (u ∷ l)) ∙ ap (λ (v : List ℕ). x.before ++ (s ∷ []) ++ (v ∷ l)) same;
          follow = subst (λ (v : List ℕ). Follow 12 v l) same f.1;
          printed = ap₂ (λ (a b : List ℕ). a ++ b) x.printed h.is ∙ sym (texts-one x.before s);
        }

reached : (text s : List ℕ) → Printed text s → Reached text s
unfolding texts_of
reached text s none_printed =
    let f = one-after-another 12 in
    record { before = []; rest = f.rest; all = f.all; follow = f.follow; printed = refl }
reached text s (more {text = old} {s = r} memory written t before x e) = next-reached old r memory written s (reached old r before) x e

pub whole : Whole
unfolding Follow
whole text s memory written p h e = go r.rest r.all r.follow
  where
    r : Reached text s
    r = reached text s p

    go : (l : List (List ℕ)) → sessions 12 ≡ r.before ++ (s ∷ l) → Follow 12 s l → text ++ take written memory ≡ texts_of (sessions 12)
    go [] a f = ap₂ (λ (a b : List ℕ). a ++ b) r.printed h.is ∙ sym (texts-one r.before s) ∙ ap texts_of (sym a)
    go (t ∷ l) a f = absurd (none-some (sym e ∙ f.0))

-- each session that is reached is one of the list's
pub in_list : (text s : List ℕ) → Printed text s → Within 12 s
in_list text s p = let r = reached text s p in (no_other 12 s (subst (λ (l : List (List ℕ)). Memᴰ s l) (sym r.all) (Memᴰ.append_right r.before (Memᴰ.head refl)))).1

-- Where the loop stands: what it has printed so far, and its memories.
pub record Going (s report text memory : List ℕ) : Type 0 where
  pub holds : memory ≡ held s
  pub printed : List ℕ
  pub so_far : Printed printed s
  pub report-length : length report ≡ room
  pub text-length : length text ≡ most_text
  pub memory-length : length memory ≡ 4

-- where it goes on: to the session that the memory was moved to
pub goes_to : (s report text memory : List ℕ) → Going s report text memory → length s ≤ 3 → (o : Option (List ℕ)) (memory2 t : List ℕ) → moved o memory2 ≡ advanced 12 memory → o ≡ some t →
    Came 12 s (some t) memory2
goes_to s report text memory g few o memory2 t e k =
    subst (λ (x : Option (List ℕ)). Came 12 s x memory2) k (came 12 s o memory2 few (in_list g.printed s g.so_far) (e ∙ ap (advanced 12) g.holds))
