-- The sessions one after another: what follows a session, and that all follow one another from the empty one on.
use mathlib.Core.Path.{◌≡◌, refl, sym, ap, ◌∙◌, subst}
use mathlib.Core.Bool.{Bool, true, false}
use mathlib.Core.Logic.{◌≢◌}
use mathlib.Core.List.{List, [], ◌∷◌, ◌++◌, append-nil, map}
use mathlib.Core.Option.{Option, none, some}
use Prim.Native.Nat.{ℕ, zero, suc, ◌+◌, ◌-◌, ◌≤◌, ◌<◌}
use native.Mathlib.Omega.{arith}
use borrow.Author.Tests.{lt-ltb, le-ltb, ltb-true, ltb-false}
use lib.Dec.{ltb}
use lib.ListN.{length, length-replicate, replicate}
use Rattle.short_sessions.specs.Sessions.{Follow, OneAfterAnother, beginning_at, following, of_length, raised, sessions}

-- What follows a session ----------------------------------------------------------------------

-- a place before those that have a next stays
pub stays : (k p : ℕ) (s t : List ℕ) → raised k s ≡ some t → raised k (p ∷ s) ≡ some (p ∷ t)
unfolding raised
stays k p s t e = rw (e, raised)

-- one before those that have none goes up
pub goes-up : (k p : ℕ) (s : List ℕ) → raised k s ≡ none → suc p < k → raised k (p ∷ s) ≡ some (suc p ∷ replicate (length s) 0)
unfolding raised
goes-up k p s e h = rw (e, lt-ltb (suc p) k h, raised)

-- or there is none
pub at_last : (k p : ℕ) (s : List ℕ) → raised k s ≡ none → k ≤ suc p → raised k (p ∷ s) ≡ none
unfolding raised
at_last k p s e h = rw (e, le-ltb (suc p) k h, raised)

pub no-places : (k : ℕ) → raised k [] ≡ none
unfolding raised
no-places k = refl

pub same_length : (k : ℕ) (s t : List ℕ) → raised k s ≡ some t → following k s ≡ some t
unfolding following
same_length k s t e = rw (e, following)

pub longer : (k : ℕ) (s : List ℕ) → raised k s ≡ none → 0 < k → length s < 3 → following k s ≡ some (replicate (suc (length s)) 0)
unfolding following
longer k s e h few = rw (e, lt-ltb (length s) 3 few, lt-ltb 0 k h, following)

pub longest : (k : ℕ) (s : List ℕ) → raised k s ≡ none → 3 ≤ length s → following k s ≡ none
unfolding following
longest k s e h = rw (e, le-ltb (length s) 3 h, following)

-- of a list of no message
raised-none : (s : List ℕ) → raised 0 s ≡ none
raised-none [] = no-places 0
raised-none (p ∷ s) = at_last 0 p s (raised-none s) (omega arith)

pub of_none : (s : List ℕ) → following 0 s ≡ none
unfolding following
of_none s = go (ltb (length s) 3) refl
  where
    go : (b : Bool) → ltb (length s) 3 ≡ b → following 0 s ≡ none
    go true e = rw (raised-none s, e, following)
    go false e = rw (raised-none s, e, following)

pub none_left : (k : ℕ) (s : List ℕ) → (1 ≤ k → ⊥) → none ≡ following k s
none_left zero s h = sym (of_none s)
none_left (suc k) s h = absurd (h (omega arith))

-- of a list whose last place is one less than its number of messages
pub by_last : (k last : ℕ) (o : Option (List ℕ)) (s t : List ℕ) → (1 ≤ k) × (last ≡ k - 1) → s ≡ t → o ≡ following (suc last) t → o ≡ following k s
by_last k last o s t h e x = let z : suc last ≡ k = omega arith in cc

pub first_one : (k : ℕ) (s : List ℕ) → k ≢ 0 → s ≡ [] → some (0 ∷ []) ≡ following k s
first_one zero s h e = absurd (h refl)
first_one (suc k) s h e = rw e (sym (longer (suc k) [] (no-places (suc k)) (omega arith) (omega arith)))

-- Sessions of one length ----------------------------------------------------------------------

-- from s on, l are those of its length that follow one another, to the last
abbrev Raise : (k : ℕ) → List ℕ → List (List ℕ) → Type 0
Raise k s [] = raised k s ≡ none
Raise k s (t ∷ l) = (raised k s ≡ some t) × Raise k t l

pub raised-length : (k : ℕ) (s t : List ℕ) → raised k s ≡ some t → length t ≡ length s
raised-length k [] t e = cc (no-places k)
raised-length k (p ∷ s) t e = go (raised k s) refl (ltb (suc p) k) refl (raised-length k s)
  where
    go : (o : Option (List ℕ)) → raised k s ≡ o → (b : Bool) → ltb (suc p) k ≡ b → ((u : List ℕ) → raised k s ≡ some u → length u ≡ length s) → length t ≡ suc (length s)
    go (some u) x b y below = let z : t ≡ p ∷ u = cc (stays k p s u x) in ap length z ∙ ap suc (below u x)
    go none x true y below =
        let z : t ≡ suc p ∷ replicate (length s) 0 = cc (goes-up k p s x (ltb-true (suc p) k y)) in
        ap length z ∙ ap suc (length-replicate (length s) 0)
    go none x false y below = cc (at_last k p s x (ltb-false (suc p) k y))

-- Each place p is put before all that follow one another from s on, and then `more` follows.
put-before : (k p : ℕ) (s : List ℕ) (l more : List (List ℕ)) → Raise k s l → ((t : List ℕ) → length t ≡ length s → raised k t ≡ none → Raise k (p ∷ t) more) →
    Raise k (p ∷ s) (map (λ (t : List ℕ). p ∷ t) l ++ more)
put-before k p s [] more x end = end s refl x
put-before k p s (t ∷ l) more x end = (stays k p s t x.0, put-before k p t l more x.1 (λ u e. end u (e ∙ raised-length k s t x.0)))

-- those that begin at p and at each place after it
from_place : (k n p count : ℕ) (l : List (List ℕ)) → p + suc count ≡ k → Raise k (replicate n 0) l →
    Raise k (p ∷ replicate n 0) (map (λ (t : List ℕ). p ∷ t) l ++ beginning_at (suc p) count (replicate n 0 ∷ l))
unfolding beginning_at
from_place k n p zero l e x = put-before k p (replicate n 0) l [] x (λ t _ y. at_last k p t y (omega arith))
from_place k n p (suc count) l e x =
    put-before k p (replicate n 0) l (beginning_at (suc p) (suc count) (replicate n 0 ∷ l)) x
    (λ t len y. (
      goes-up k p t y (omega arith) ∙ ap (λ (j : ℕ). some (suc p ∷ replicate j 0)) (len ∙ length-replicate n 0),
      from_place k n (suc p) count l (omega arith) x,
    ))

-- the sessions of one length follow one another
record Raised (k n : ℕ) : Type 0 where
  rest : List (List ℕ)
  all : of_length k n ≡ replicate n 0 ∷ rest
  raise : Raise k (replicate n 0) rest

raised_all : (k n : ℕ) → Raised (suc k) n
unfolding of_length beginning_at
raised_all k zero = record { rest = []; all = refl; raise = no-places (suc k) }
raised_all k (suc n) =
    let x = raised_all k n in
    record {
      rest = map (λ (t : List ℕ). 0 ∷ t) x.rest ++ beginning_at 1 k (replicate n 0 ∷ x.rest);
      all = ap (beginning_at 0 (suc k)) x.all;
      raise = from_place (suc k) n 0 k x.rest (omega arith) x.raise;
    }

-- All -----------------------------------------------------------------------------------------

-- after those of one length
and_then : (k : ℕ) (s : List ℕ) (l more : List (List ℕ)) → Raise k s l → ((t : List ℕ) → length t ≡ length s → raised k t ≡ none → Follow k t more) → Follow k s (l ++ more)
unfolding Follow
and_then k s [] more x end = end s refl x
and_then k s (t ∷ l) more x end = (same_length k s t x.0, and_then k t l more x.1 (λ u e. end u (e ∙ raised-length k s t x.0)))

follows_on : (k : ℕ) (s t : List ℕ) (l : List (List ℕ)) → following k s ≡ some t → Follow k t l → Follow k s (t ∷ l)
unfolding Follow
follows_on k s t l e x = (e, x)

-- those of n messages, from the last session of fewer on
record Onward (k n : ℕ) (l : List (List ℕ)) : Type 0 where
  rest : List (List ℕ)
  all : l ≡ replicate n 0 ∷ rest
  follow : Follow k (replicate n 0) rest

lengthen : (k n : ℕ) (more : List (List ℕ)) → n < 3 → Onward (suc k) (suc n) more → Onward (suc k) n (of_length (suc k) n ++ more)
lengthen k n more h o =
    let x = raised_all k n in
    record {
      rest = x.rest ++ more;
      all = ap (λ (l : List (List ℕ)). l ++ more) x.all;
      follow = and_then (suc k) (replicate n 0) x.rest more x.raise (λ t len y.
          let e : length t ≡ n = len ∙ length-replicate n 0 in
          subst (Follow (suc k) t) (sym o.all) (follows_on _ t _ _ (longer (suc k) t y (omega arith) (omega arith) ∙ ap (λ (j : ℕ). some (replicate (suc j) 0)) e) o.follow));
    }

of_three : (k : ℕ) → Onward (suc k) 3 (of_length (suc k) 3)
unfolding Follow
of_three k =
    let x = raised_all k 3 in
    record {
      rest = x.rest;
      all = x.all;
      follow = subst (Follow (suc k) (replicate 3 0)) (append-nil x.rest)
          (and_then (suc k) (replicate 3 0) x.rest [] x.raise (λ t len y. longest (suc k) t y (omega arith)));
    }

pub one-after-another : OneAfterAnother
unfolding sessions
one-after-another zero = record { rest = []; all = unfold of_length beginning_at in refl; follow = unfold Follow in (of_none []) }
one-after-another (suc k) =
    let x = lengthen k 0 _ (omega arith) (lengthen k 1 _ (omega arith) (lengthen k 2 _ (omega arith) (of_three k))) in
    record { rest = x.rest; all = x.all; follow = x.follow }
