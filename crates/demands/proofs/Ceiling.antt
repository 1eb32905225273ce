-- The ceiling: of each series the records of any 256 consecutive messages have at most 20 of 67. What the venue counts are the last 20; the induction over
-- calls has that of messages after the oldest of them nothing is missing.
use Rattle.std.specs.Prelude.{if◌then◌else◌}
use mathlib.Core.Path.{◌∙◌, ◌≡◌, ap, refl, subst, sym}
use mathlib.Core.Bool.{Bool, ◌&&◌, ◌||◌, false, not, true, true≢false}
use mathlib.Core.List.{List, [], ◌++◌, ◌∷◌}
use Prim.Native.Nat.{◌+◌, ◌<◌, ◌≤◌, suc, zero, ℕ}
use native.Mathlib.Nat.{zero-add}
use native.Mathlib.Omega.{arith}
use lib.Dec.{eqb, leb}
use lib.ListN.{get_or, length}
use borrow.Author.Tests.{leb-true}
use Rattle.rules.specs.Base.{held}
use Rattle.rules.specs.Words.{within}
use Rattle.rules.specs.Records.{ForAll, FourBytes, Report, answer, cancelled, crossed, generated, looked, pair, removed, trade}
use Rattle.rules.specs.Generation.{generations_of, one_more, under_ceiling}
use Rattle.rules.specs.Step.{step}
use Rattle.rules.specs.Sound.{unfallen}
use Rattle.rules.specs.Sums.{generated_of, total}
use Rattle.demands.specs.Ceiling.{Ceiling, generated_by}
use Rattle.demands.specs.Demand.{Seen, start}
use Rattle.rules.proofs.Answering.{told}
use Rattle.rules.proofs.Quiet.{NoAnswer}
use Rattle.rules.proofs.Tests.{and_l, and_r, pos-held}
use Rattle.rules.proofs.Traffic.{Allowed, Level, busy-levels, one-level, pushed, tracks-step}
use Rattle.demands.proofs.Account.{onto}
use Rattle.demands.proofs.Induction.{all_keep}
use Rattle.demands.proofs.SoundnessLaws.{sound-out}
use Rattle.demands.proofs.Truth.{Told, more-told, start-told}

-- The last twenty -----------------------------------------------------------------------------

-- how many numbers of a list pass a test
unfoldable count_in : (ℕ → Bool) → List ℕ → ℕ
count_in f [] = 0
count_in f (n ∷ ns) = (if f n then 1 else 0) + count_in f ns

count_most : (f : ℕ → Bool) (l : List ℕ) → count_in f l ≤ length l
unfolding count_in
count_most f [] = omega arith
count_most f (n ∷ l) = go (f n) (count_most f l)
  where
    go : (b : Bool) → count_in f l ≤ length l → (if b then 1 else 0) + count_in f l ≤ suc (length l)
    go true h = omega arith
    go false h = omega arith

count-more : (f : ℕ → Bool) (l : List ℕ) (n : ℕ) → count_in f (l ++ (n ∷ [])) ≡ count_in f l + (if f n then 1 else 0)
unfolding count_in
count-more f [] n = omega arith
count-more f (x ∷ l) n = let z = count-more f l n in omega arith

-- all that was generated so far, by what a test of its message's number counts; l is the last twenty
record Under (C : (ℕ → Bool) → ℕ) (l : List ℕ) : Type 0 where
  -- after the oldest of them nothing is missing
  late : (a : ℕ) → get_or l 0 0 < a → C (leb a) ≤ count_in (leb a) l
  inside : (a : ℕ) → C (within (suc a) (a + 256)) ≤ C (leb (suc a))
  window : (a : ℕ) → C (within (suc a) (a + 256)) ≤ 20

under_same : (C D : (ℕ → Bool) → ℕ) (l : List ℕ) → ((f : ℕ → Bool) → D f ≡ C f) → Under C l → Under D l
under_same C D l e u = record {
  late = λ a h. (let x = e (leb a) in let y = u.late a h in omega arith);
  inside = λ a. (let x = e (within (suc a) (a + 256)) in let y = e (leb (suc a)) in let z = u.inside a in omega arith);
  window = λ a. (let x = e (within (suc a) (a + 256)) in let z = u.window a in omega arith);
}

-- the oldest is none, or so long ago
old : (n x : ℕ) (l : List ℕ) → under_ceiling n (x ∷ l) ≡ true → (a : ℕ) → n ≤ a + 256 → x < suc a
unfolding under_ceiling
old n x l h a le = go (held x) refl h
  where
    go : (b : Bool) → held x ≡ b → (not b || leb (x + 256) n) ≡ true → x < suc a
    go true e h = let z = leb-true (x + 256) n h in omega arith
    go false e h = none x e
      where
        none : (x : ℕ) → held x ≡ false → x < suc a
        none zero e = omega arith
        none (suc x) e = absurd (true≢false (sym (pos-held (suc x) (omega arith)) ∙ e))

-- one more
module _ (C : (ℕ → Bool) → ℕ) (n x y : ℕ) (l : List ℕ) (v : Level n (x ∷ y ∷ l)) (u : Under C (x ∷ y ∷ l)) (allowed : under_ceiling n (x ∷ y ∷ l) ≡ true) where
  abbrev more : (ℕ → Bool) → ℕ
  more f = C f + (if f n then 1 else 0)

  -- from above the oldest on, the others are all
  others : (a : ℕ) → x < a → C (leb a) ≤ count_in (leb a) (y ∷ l)
  unfolding count_in
  others a h = let z = u.late a h in let y = rw (gt-leb a x h) at z in omega arith
    where
      gt-leb : (a b : ℕ) → b < a → leb a b ≡ false
      gt-leb a b h = go (leb a b) refl
        where
          go : (c : Bool) → leb a b ≡ c → leb a b ≡ false
          go true e = let z = leb-true a b e in absurd (omega arith)
          go false e = e

  rising : x ≤ y
  unfolding unfallen
  rising = let r = v.rises in leb-true x y (and_l (leb x y) _ (and_r (leb 0 x) _ r))

  late-more : (a : ℕ) → y < a → more (leb a) ≤ count_in (leb a) (y ∷ (l ++ (n ∷ [])))
  late-more a h =
      let r = rising in
      let z = others a (omega arith) in
      let c = count-more (leb a) (y ∷ l) n in
      omega arith

  inside-more : (a : ℕ) → more (within (suc a) (a + 256)) ≤ more (leb (suc a))
  unfolding within
  inside-more a = let z = u.inside a in go (leb (suc a) n) (leb n (a + 256)) z
    where
      go : (p q : Bool) → C (within (suc a) (a + 256)) ≤ C (leb (suc a)) → C (within (suc a) (a + 256)) + (if p && q then 1 else 0) ≤ C (leb (suc a)) + (if p then 1 else 0)
      go true true h = omega arith
      go true false h = omega arith
      go false q h = omega arith

  window_more : (a : ℕ) → more (within (suc a) (a + 256)) ≤ 20
  window_more a = go (within (suc a) (a + 256) n) refl
    where
      go : (b : Bool) → within (suc a) (a + 256) n ≡ b → C (within (suc a) (a + 256)) + (if b then 1 else 0) ≤ 20
      go true e =
          let le = leb-true n (a + 256) (unfold within in (and_r (leb (suc a) n) _ e)) in
          let o = old n x (y ∷ l) allowed a le in
          let z = others (suc a) o in
          let i = u.inside a in
          let m = count_most (leb (suc a)) (y ∷ l) in
          let k = v.len in
          omega arith
      go false e = let z = u.window a in omega arith

  under_more : Under more (y ∷ (l ++ (n ∷ [])))
  under_more = record { late = late-more; inside = inside-more; window = window_more }

under_one : (C : (ℕ → Bool) → ℕ) (n : ℕ) (l : List ℕ) → Level n l → Under C l → under_ceiling n l ≡ true → Under (λ f. C f + (if f n then 1 else 0)) (one_more n l)
unfolding one_more
under_one C n [] v u h = let z = v.len in absurd (omega arith)
under_one C n (x ∷ []) v u h = let z = v.len in absurd (omega arith)
under_one C n (x ∷ y ∷ l) v u h = under_more C n x y l v u h

under-many : (C : (ℕ → Bool) → ℕ) (n k : ℕ) (l : List ℕ) → Level n l → Under C l → Allowed n k l → Under (λ f. C f + (if f n then k else 0)) (pushed n k l)
unfolding pushed
under-many C n zero l v u h = under_same C _ l (λ f. none (C f) (f n)) u
  where
    none : (c : ℕ) (b : Bool) → c + (if b then 0 else 0) ≡ c
    none c true = omega arith
    none c false = omega arith
under-many C n (suc k) l v u h =
    under_same _ _ (pushed n k (one_more n l)) (λ f. joined (C f) (f n))
    (under-many (λ f. C f + (if f n then 1 else 0)) n k (one_more n l) (one-level n l v) (under_one C n l v u h.0) h.1)
  where
    joined : (c : ℕ) (b : Bool) → c + (if b then suc k else 0) ≡ c + (if b then 1 else 0) + (if b then k else 0)
    joined c true = omega arith
    joined c false = omega arith

-- The records ---------------------------------------------------------------------------------

plain : (b : Bool) (k : ℕ) → (if b then k else 0) ≡ (if b then 0 + k else 0)
plain true k = omega arith
plain false k = refl

-- of one message
by_one : (f : ℕ → Bool) (s now : ℕ) (rs : List Report) → ForAll NoAnswer rs → generated_by f s now rs ≡ (if f now then total (generated_of s) rs else 0)
unfolding generated_by total generated_of
by_one f s now [] h = nothing (f now)
  where
    nothing : (b : Bool) → ◌≡◌ {A = ℕ} 0 (if b then 0 else 0)
    nothing true = refl
    nothing false = refl
by_one f s now (answer _ _ _ _ ∷ rs) h = absurd h.0
by_one f s now (trade _ _ _ _ _ _ ∷ rs) h = by_one f s now rs h.1 ∙ plain (f now) _
by_one f s now (pair _ _ _ ∷ rs) h = by_one f s now rs h.1 ∙ plain (f now) _
by_one f s now (generated id t side price displayed quantity ∷ rs) h = one (f now) (eqb t s) (by_one f s now rs h.1)
  where
    one : (b c : Bool) → generated_by f s now rs ≡ (if b then total (generated_of s) rs else 0) →
        (if b && c then 1 else 0) + generated_by f s now rs ≡ (if b then (if c then 1 else 0) + total (generated_of s) rs else 0)
    one true c e = omega arith
    one false c e = omega arith
by_one f s now (removed _ _ _ _ ∷ rs) h = by_one f s now rs h.1 ∙ plain (f now) _
by_one f s now (crossed _ _ _ _ ∷ rs) h = by_one f s now rs h.1 ∙ plain (f now) _
by_one f s now (cancelled _ _ ∷ rs) h = by_one f s now rs h.1 ∙ plain (f now) _
by_one f s now (looked _ ∷ rs) h = by_one f s now rs h.1 ∙ plain (f now) _

-- and then a message's records, its 64 first
by-more : (f : ℕ → Bool) (s now : ℕ) (rs : List Report) (n x m c : ℕ) (es : List Report) → ForAll NoAnswer es →
    generated_by f s now (rs ++ (answer n x m c ∷ es)) ≡ generated_by f s now rs + (if f n then total (generated_of s) es else 0)
unfolding generated_by
by-more f s now [] n x m c es h = let z = by_one f s n es h in omega arith
by-more f s now (answer k _ _ _ ∷ rs) n x m c es h = by-more f s k rs n x m c es h
by-more f s now (trade _ _ _ _ _ _ ∷ rs) n x m c es h = by-more f s now rs n x m c es h
by-more f s now (pair _ _ _ ∷ rs) n x m c es h = by-more f s now rs n x m c es h
by-more f s now (generated _ _ _ _ _ _ ∷ rs) n x m c es h = let z = by-more f s now rs n x m c es h in omega arith
by-more f s now (removed _ _ _ _ ∷ rs) n x m c es h = by-more f s now rs n x m c es h
by-more f s now (crossed _ _ _ _ ∷ rs) n x m c es h = by-more f s now rs n x m c es h
by-more f s now (cancelled _ _ ∷ rs) n x m c es h = by-more f s now rs n x m c es h
by-more f s now (looked _ ∷ rs) n x m c es h = by-more f s now rs n x m c es h

-- What callers see ----------------------------------------------------------------------------

record UnderCeiling (s : Seen) : Type 0 where
  told : Told s
  under : (t : ℕ) → t < 8 → Under (λ f. generated_by f t 0 s.reports) (generations_of s.venue t)

start-kept : UnderCeiling start
start-kept = record { told = start-told; under = λ t _. start_under t }
  where
    start_under : (t : ℕ) → Under (λ f. generated_by f t 0 start.reports) (generations_of start.venue t)
    start_under t = unfold start generated_by in (record { late = λ a h. omega arith; inside = λ a. omega arith; window = λ a. omega arith })

under-step : (s : Seen) (bs : List ℕ) → UnderCeiling s → (t : ℕ) → t < 8 →
    Under (λ f. generated_by f t 0 (s.reports ++ (step s.venue (suc s.done) bs).effect.reports)) (generations_of (step s.venue (suc s.done) bs).effect.venue t)
under-step s bs k t t8 =
    let v = s.venue in
    let n = suc s.done in
    let i = sound-out v k.told.sound.venue in
    let w = told v i.ranged n bs in
    let r = tracks-step v n bs in
    let in8 : t < length v.generations = (let e = i.busy.eight in omega arith) in
    let c : total (generated_of t) (step v n bs).effect.reports ≡ total (generated_of t) w.effects = ap (total (generated_of t)) w.is ∙ (unfold total generated_of in (zero-add _)) in
    subst (Under _) (sym (r.pushes t in8))
    (under_same _ _ _ (λ f. ap (λ (q : List Report). generated_by f t 0 (s.reports ++ q)) w.is ∙ by-more f t 0 s.reports n _ _ _ w.effects
    w.quiet ∙ ap (λ (q : ℕ). generated_by f t 0 s.reports + (if f n then q else 0)) (sym c))
    (under-many _ n _ _ (busy-levels v n (omega arith) i.busy k.told.sound.next t) (k.under t t8) (r.allowed t in8)))

more-kept : (s : Seen) (bs : List ℕ) → UnderCeiling s → FourBytes (suc s.done) → UnderCeiling (onto s bs (step s.venue (suc s.done) bs).effect)
more-kept s bs k few = record { told = more-told s bs k.told few; under = under s bs k }
  where
    under : (s : Seen) (bs : List ℕ) → UnderCeiling s → (t : ℕ) → t < 8 →
        Under (λ f. generated_by f t 0 (onto s bs (step s.venue (suc s.done) bs).effect).reports) (generations_of (onto s bs (step s.venue (suc s.done) bs).effect).venue t)
    under s bs k t t8 = unfold onto in (under-step s bs k t t8)

pub ceiling : Ceiling
ceiling o cs s first s8 = ((all_keep UnderCeiling (λ s k. (sound-out s.venue k.told.sound.venue).ranged) start-kept more-kept o cs).under s s8).window first
