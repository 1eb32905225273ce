-- Traffic: what a message generates in a series is counted there, each under the ceiling; the counts keep their length and do not fall; and the id
-- that a limited sweep reached is at most the last.
use Rattle.std.specs.Prelude.{if◌then◌else◌}
use mathlib.Core.Path.{◌∙◌, ◌≡◌, ap, refl, subst, sym}
use mathlib.Core.Bool.{Bool, ◌&&◌, false, not, true}
use mathlib.Core.List.{List, [], ◌++◌, ◌∷◌}
use Prim.Native.Nat.{◌+◌, ◌<◌, ◌≤◌, suc, zero, ℕ}
use native.Mathlib.Decide.{dec_lt, ℕ_discrete}
use native.Mathlib.Nat.{add-zero, suc-add, zero-add}
use native.Mathlib.Omega.{arith}
use lib.Dec.{eqb, leb, ltb}
use lib.ListN.{get_or-eq_default, get_or, length, length-append, length-set, length-take, replicate, set, take}
use lib.Seq.{get_or-set_other, get_or-set_same}
use borrow.Author.Tests.{eq-eqb, le-leb, leb-false, leb-true, lt-ltb, ltb-true, ne_eqb}
use Rattle.rules.specs.declared.Complex.{Complex}
use Rattle.rules.specs.declared.Generations.{Generations}
use Rattle.rules.specs.declared.Legging.{Legging}
use Rattle.rules.specs.declared.Message.{Message}
use Rattle.rules.specs.declared.Message.TheVariants.{Away, Cancel, Increment, LimitedSweep, Order, Percent, Status, Sweep, TwoLeg}
use Rattle.rules.specs.declared.Venue.{Venue}
use Rattle.rules.specs.declared.Verdict.{Verdict}
use Rattle.rules.specs.declared.Cause.TheVariants.{Replaced}
use Rattle.rules.specs.Base.{all, held, keep}
use Rattle.rules.specs.Words.{complex_at, no_complex, no_generations, place_of, with_complex, with_editions, with_generations, with_last, with_legging, with_reached, with_regular, with_series}
use Rattle.rules.specs.Settings.{enter_edition}
use Rattle.rules.specs.Messages.{message_of}
use Rattle.rules.specs.Records.{ForAll, Report, answer, cancelled, crossed, generated, looked, pair, removed, trade}
use Rattle.rules.specs.Effects.{Effect, ◌⟫◌, nothing, report}
use Rattle.rules.specs.Removal.{fail_if, remove}
use Rattle.rules.specs.Standing.{settle, show_again}
use Rattle.rules.specs.Trading.{fill_complex, fill_regular, put_complex, put_regular}
use Rattle.rules.specs.Order.{enter_regular, order}
use Rattle.rules.specs.Generation.{counted, generate, generate_leg, generations_of, make, makes, one_more, placed, under_ceiling}
use Rattle.rules.specs.Complex.{cancel, complex, each_of, examined, going_round, id_reached, limited_sweep, places_of, resting_places, sweep, work}
use Rattle.rules.specs.Places.{close_gaps}
use Rattle.rules.specs.Refusals.{id_too_low, refusal}
use Rattle.rules.specs.Step.{accept, answered, perform, set_away, set_figure, set_status, step}
use Rattle.rules.specs.Sound.{follows, generations_sound, unfallen}
use Rattle.rules.specs.Sums.{generated_of, total}
use Rattle.rules.proofs.Adding.{total-append}
use Rattle.rules.proofs.Arranging.{all-at, all_in}
use Rattle.rules.proofs.CallsLaws.{step_by}
use Rattle.rules.proofs.Cases.{if-by}
use Rattle.rules.proofs.Filling.{cx}
use Rattle.rules.proofs.Generating.{made}
use Rattle.rules.proofs.EffectsLaws.{Lasts, keeps-cancel, keeps-each_of, keeps-matching, keeps-settle, keeps-work}
use Rattle.rules.proofs.Quiet.{Plain, Still, all-cancel, all-each_of, all_nothing, all-order, all_remove, all-settle, all_then, plain, still-work}
use Rattle.rules.proofs.RefusalsLaws.{Passed, accepted}
use Rattle.rules.proofs.Tests.{and_in, and_l, and_r}

-- Counts --------------------------------------------------------------------------------------

-- k more generations of message n
unfoldable pub pushed : (n k : ℕ) → List ℕ → List ℕ
pushed n zero l = l
pushed n (suc k) l = pushed n k (one_more n l)

-- each under the ceiling
abbrev pub Allowed : (n k : ℕ) → List ℕ → Type 0
Allowed n zero l = Unit {0}
Allowed n (suc k) l = (under_ceiling n l ≡ true) × Allowed n k (one_more n l)

pushed-add : (n j k : ℕ) (l : List ℕ) → pushed n (j + k) l ≡ pushed n k (pushed n j l)
unfolding pushed
pushed-add n zero k l = rw (zero-add k)
pushed-add n (suc j) k l = rw (suc-add j k) (pushed-add n j k (one_more n l))

allowed-add : (n j k : ℕ) (l : List ℕ) → Allowed n j l → Allowed n k (pushed n j l) → Allowed n (j + k) l
unfolding pushed
allowed-add n zero k l a b = rw (zero-add k) b
allowed-add n (suc j) k l a b = rw (suc-add j k) (a.0, allowed-add n j k (one_more n l) a.1 b)

-- of every series: what the records of an effect tell is what is counted, and was allowed
pub record Tracks (n : ℕ) (v : Venue) (e : Effect) : Type 0 where
  pub size : length e.venue.generations ≡ length v.generations
  pub pushes : (s : ℕ) → s < length v.generations → generations_of e.venue s ≡ pushed n (total (generated_of s) e.reports) (generations_of v s)
  pub allowed : (s : ℕ) → s < length v.generations → Allowed n (total (generated_of s) e.reports) (generations_of v s)

plain-none : (s : ℕ) (rs : List Report) → ForAll Plain rs → total (generated_of s) rs ≡ 0
unfolding total generated_of
plain-none s [] h = refl
plain-none s (answer number refusal mask count ∷ rs) h = absurd h.0
plain-none s (trade series side price quantity taker maker ∷ rs) h = let z = plain-none s rs h.1 in omega arith
plain-none s (pair id n quantity ∷ rs) h = let z = plain-none s rs h.1 in omega arith
plain-none s (generated id series side price displayed quantity ∷ rs) h = absurd h.0
plain-none s (removed id series side cause ∷ rs) h = let z = plain-none s rs h.1 in omega arith
plain-none s (crossed taker maker n quantity ∷ rs) h = let z = plain-none s rs h.1 in omega arith
plain-none s (cancelled id quantity ∷ rs) h = let z = plain-none s rs h.1 in omega arith
plain-none s (looked count ∷ rs) h = absurd h.0

-- an effect that generates nothing
tracks-none : (n : ℕ) (v : Venue) (e : Effect) → ((s : ℕ) → total (generated_of s) e.reports ≡ 0) → e.venue.generations ≡ v.generations → Tracks n v e
unfolding generations_of pushed
tracks-none n v e z g = record {
  size = ap (λ (l : List Generations). length l) g;
  pushes = λ s _. rw (z s, g);
  allowed = λ s _. rw (z s) tt;
}

tracks-still : (n : ℕ) (v : Venue) (e : Effect) → Still e → e.venue.generations ≡ v.generations → Tracks n v e
tracks-still n v e h = tracks-none n v e (λ s. plain-none s e.reports h)

tracks-then : (n : ℕ) (v : Venue) (e : Effect) (f : Venue → Effect) → Tracks n v e → Tracks n e.venue (f e.venue) → Tracks n v (e ⟫ f)
unfolding ◌⟫◌
tracks-then n v e f a b = record {
  size = b.size ∙ a.size;
  pushes = λ s h.
      rw (total-append (generated_of s) e.reports (f e.venue).reports, pushed-add n (total (generated_of s) e.reports) (total (generated_of s) (f e.venue).reports), ← a.pushes s h)
      (b.pushes s (rw a.size h));
  allowed = λ s h.
      rw (total-append (generated_of s) e.reports (f e.venue).reports)
      (allowed-add n (total (generated_of s) e.reports) (total (generated_of s) (f e.venue).reports) (generations_of v s) (a.allowed s h)
      (subst (λ l. Allowed n (total (generated_of s) (f e.venue).reports) l) (a.pushes s h) (b.allowed s (rw a.size h))));
}

-- Generation ----------------------------------------------------------------------------------

-- one 67 of series s
tracks-one : (n s id d p x q : ℕ) (m : ℕ) (l : Legging) (w : Venue) → under_ceiling n (generations_of w s) ≡ true →
    Tracks n w (report (generated id s d p x q) (counted n s (placed m l w)))
unfolding report counted placed with_legging with_generations total generated_of generations_of
tracks-one n s id d p x q m l w under = record {
  size = length-set w.generations s _;
  pushes = λ t h. pushes t h (ℕ_discrete s t);
  allowed = λ t h. allowed t h (ℕ_discrete s t);
}
  where
    new : Generations
    new = record { messages = one_more n (get_or w.generations s no_generations).messages }

    pushes : (t : ℕ) → t < length w.generations → Dec (s ≡ t) →
        (get_or (set w.generations s new) t no_generations).messages ≡ pushed n ((if eqb s t then 1 else 0) + 0) (get_or w.generations t no_generations).messages
    pushes t h (yes e) = rw (eq-eqb s t e, ← e, get_or-set_same w.generations s new no_generations (rw e h)) (unfold pushed in refl)
    pushes t h (no ne) = rw (ne_eqb s t ne, get_or-set_other w.generations s t new no_generations (λ e. ne (sym e))) (unfold pushed in refl)

    allowed : (t : ℕ) → t < length w.generations → Dec (s ≡ t) → Allowed n ((if eqb s t then 1 else 0) + 0) (get_or w.generations t no_generations).messages
    allowed t h (yes e) = rw (eq-eqb s t e, ← e) (under, tt)
    allowed t h (no ne) = rw (ne_eqb s t ne) tt

of-counts : (w v : Venue) (s : ℕ) → w.generations ≡ v.generations → generations_of w s ≡ generations_of v s
unfolding generations_of
of-counts w v s e = rw e

-- removals leave the counts
gone-counts : (f : ℕ → Legging → Verdict) (v : Venue) → (remove f v).venue.generations ≡ v.generations
unfolding remove with_legging
gone-counts f v = refl

tracks-make : (n : ℕ) (c : Complex) (s d : ℕ) (v : Venue) → makes n v c s d ≡ true → Tracks n v (make n c s d v)
unfolding make
tracks-make n c s d v h =
    let f : ℕ → Legging → Verdict = λ m _. fail_if (eqb m (place_of s d)) Replaced in
    tracks-then n v _ _ (tracks-still n v (remove f v) (all_remove Plain plain f v) (gone-counts f v))
    (tracks-one n s _ d _ _ _ _ _ (remove f v).venue (subst (λ g. under_ceiling n g ≡ true) (sym (same f)) (made h).ceiling))
  where
    same : (f : ℕ → Legging → Verdict) → generations_of (remove f v).venue s ≡ generations_of v s
    same f = of-counts (remove f v).venue v s (gone-counts f v)

tracks-leg : (n : ℕ) (c : Complex) (s d : ℕ) (v : Venue) → Tracks n v (generate_leg n c s d v)
unfolding generate_leg
tracks-leg n c s d v =
    if-by (Tracks n v) (held c.quantity && makes n v c s d) (λ e. tracks-make n c s d v (and_r (held c.quantity) _ e))
    (λ _. tracks-still n v (nothing v) (all_nothing Plain plain v) (unfold nothing in refl))

tracks-generate : (n i : ℕ) (v : Venue) → Tracks n v (generate n i v)
unfolding generate
tracks-generate n i v = tracks-then n v _ _ (tracks-leg n _ _ _ v) (tracks-leg n _ _ _ _)

tracks-each_of : (n : ℕ) (places : List ℕ) (v : Venue) → Tracks n v (each_of (generate n) places v)
unfolding each_of
tracks-each_of n [] v = tracks-still n v (nothing v) (all_nothing Plain plain v) (unfold nothing in refl)
tracks-each_of n (i ∷ places) v = tracks-then n v (generate n i v) _ (tracks-generate n i v) (tracks-each_of n places _)

-- Messages ------------------------------------------------------------------------------------

module _ (g : List Generations) where
  abbrev Had : Venue → Type 0
  Had v = v.generations ≡ g

  had-lasts : Lasts Had
  unfolding fill_regular fill_complex remove show_again with_regular with_complex with_legging
  had-lasts = record { fill_r = λ i k v h. h; fill_c = λ i k v h. h; gone = λ f v h. h; again = λ v h. h }

-- upon a venue with v's counts
module _ (n : ℕ) (v : Venue) where
  settles : (w : Venue) → w.generations ≡ v.generations → Tracks n v (settle w)
  settles w e = tracks-still n v (settle w) (all-settle Plain plain w) (keeps-settle (had-lasts v.generations) w e)

  -- one effect that generates nothing, and then another
  settled-then : (e : Effect) (f : Venue → Effect) → Still e → e.venue.generations ≡ v.generations → Tracks n e.venue (f e.venue) → Tracks n v (e ⟫ f)
  settled-then e f h g t = tracks-then n v e f (tracks-still n v e h g) t

tracks-looked : (n k x : ℕ) (v : Venue) → Tracks n v (report (looked k) (with_reached v x))
tracks-looked n k x v = tracks-none n v (report (looked k) (with_reached v x)) (λ s. unfold report total generated_of in refl) (unfold report with_reached in refl)

pub tracks-perform : (n : ℕ) (m : Message) (v : Venue) → Tracks n v (perform n m v)
unfolding perform order enter_regular complex sweep limited_sweep set_away set_status set_figure enter_edition
tracks-perform n (Order o) v =
    tracks-still n v _ (all-order Plain plain o _)
    (unfold ◌⟫◌ put_regular with_regular with_last in (keeps-settle (had-lasts v.generations) _ (keeps-matching (had-lasts v.generations) _ _ _ refl)))
tracks-perform n (TwoLeg c) v =
    settled-then n v _ _ (all_then Plain plain _ _ (still-work _ _) (all-settle Plain plain _))
    (unfold ◌⟫◌ put_complex with_complex with_last in (keeps-settle (had-lasts v.generations) _ (keeps-work (had-lasts v.generations) _ _ refl)))
    (tracks-generate n _ _)
tracks-perform n (Cancel id) v = tracks-still n v (cancel id v) (all-cancel Plain plain id v) (keeps-cancel (had-lasts v.generations) id v refl)
tracks-perform n (Away s b o) v = settles n v _ (unfold with_series in refl)
tracks-perform n (Status s x) v = settles n v _ (unfold with_series in refl)
tracks-perform n Sweep v =
    settled-then n v _ _ (all_then Plain plain _ _ (all-each_of Plain plain work still-work _ v) (all-settle Plain plain _))
    (unfold ◌⟫◌ in (keeps-settle (had-lasts v.generations) _ (keeps-each_of (Had v.generations) work (keeps-work (had-lasts v.generations)) _ v refl)))
    (tracks-each_of n _ _)
tracks-perform n (Increment s i e) v = settles n v _ (unfold with_editions in refl)
tracks-perform n (Percent x e) v = settles n v _ (unfold with_editions in refl)
tracks-perform n (LimitedSweep k) v =
    tracks-then n v _ _ (tracks-then n v _ settle (tracks-then n v _ _ (tracks-looked n (examined k v) (id_reached v (take k (going_round v))) v)
    (tracks-still n _ _ (all-each_of Plain plain work still-work _ _) (keeps-each_of (Had _) work (keeps-work (had-lasts _)) _ _ refl)))
    (settles n _ _ refl))
    (tracks-each_of n _ _)

tracks-accept : (n : ℕ) (m : Message) (v : Venue) → Tracks n v (accept n m v)
unfolding accept
tracks-accept n m v =
    tracks-then n v _ _ (tracks-perform n m v)
    (tracks-still n (perform n m v).venue (nothing (close_gaps (perform n m v).venue)) (all_nothing Plain plain _) (closed-counts (perform n m v).venue))
  where
    closed-counts : (w : Venue) → (nothing (close_gaps w)).venue.generations ≡ w.generations
    closed-counts w = unfold nothing close_gaps with_regular with_complex in refl

-- the 64 before it
tracks-answered : (n x : ℕ) (v : Venue) (e : Effect) → Tracks n v e → Tracks n v (answered n x e).effect
unfolding answered total generated_of
tracks-answered n x v e t = record {
  size = t.size;
  pushes = λ s h. rw (zero-add (total (generated_of s) e.reports)) (t.pushes s h);
  allowed = λ s h. rw (zero-add (total (generated_of s) e.reports)) (t.allowed s h);
}

-- one message: what its records tell is what is counted, and each was under the ceiling
pub tracks-step : (v : Venue) (n : ℕ) (bs : List ℕ) → Tracks n v (step v n bs).effect
unfolding step
tracks-step v n bs =
    tracks-answered n (refusal v bs) v _ (step_by (Tracks n v) v n bs (λ _. tracks-accept n (message_of bs) v)
    (λ _. tracks-still n v (nothing v) (all_nothing Plain plain v) (unfold nothing in refl)))

-- The counts of a series ----------------------------------------------------------------------

-- 20 numbers that do not fall, none above n
pub record Level (n : ℕ) (l : List ℕ) : Type 0 where
  pub len : length l ≡ 20
  pub rises : unfallen 0 l ≡ true
  pub low : all (λ k. leb k n) l ≡ true

lower : (x y : ℕ) (l : List ℕ) → y ≤ x → unfallen x l ≡ true → unfallen y l ≡ true
unfolding unfallen
lower x y [] h u = refl
lower x y (z ∷ l) h u =
    and_in _ _ (le-leb y z (let k = leb-true x z (and_l (leb x z) _ u) in omega arith)) (and_r (leb x z) _ u)

one-rises : (x n : ℕ) (l : List ℕ) → x ≤ n → unfallen x l ≡ true → all (λ k. leb k n) l ≡ true → unfallen x (l ++ (n ∷ [])) ≡ true
unfolding unfallen all
one-rises x n [] h u a = rw (le-leb x n h)
one-rises x n (z ∷ l) h u a =
    and_in (leb x z) _ (and_l (leb x z) _ u) (one-rises z n l (leb-true z n (and_l (leb z n) _ a)) (and_r (leb x z) _ u) (and_r (leb z n) _ a))

one-low : (n : ℕ) (l : List ℕ) → all (λ k. leb k n) l ≡ true → all (λ k. leb k n) (l ++ (n ∷ [])) ≡ true
unfolding all
one-low n [] a = rw (le-leb n n (omega arith))
one-low n (z ∷ l) a = and_in (leb z n) _ (and_l (leb z n) _ a) (one-low n l (and_r (leb z n) _ a))

pub one-level : (n : ℕ) (l : List ℕ) → Level n l → Level n (one_more n l)
unfolding one_more
one-level n [] h = let z = h.len in absurd (omega arith)
one-level n (x ∷ l) h =
    let u = h.rises in
    let a = h.low in
    let e = h.len in
    record {
      len = rw (length-append l (n ∷ [])) (omega arith);
      rises = one-rises 0 n l (omega arith) (lower x 0 l (omega arith) (unfold unfallen in (and_r (leb 0 x) _ u))) (unfold all in (and_r (leb x n) _ a));
      low = one-low n l (unfold all in (and_r (leb x n) _ a));
    }

many-level : (n k : ℕ) (l : List ℕ) → Level n l → Level n (pushed n k l)
unfolding pushed
many-level n zero l h = h
many-level n (suc k) l h = many-level n k (one_more n l) (one-level n l h)

-- of every series; past the eighth there are none
abbrev pub Levels : ℕ → Venue → Type 0
Levels n v = (s : ℕ) → Level n (generations_of v s)

none-low : (n k : ℕ) → all (λ x. leb x n) (replicate k 0) ≡ true
unfolding all
none-low n zero = refl
none-low n (suc k) = rw (le-leb 0 n (omega arith), none-low n k)

none-level : (n : ℕ) → Level n no_generations.messages
none-level n = record { len = refl; rises = unfold unfallen in refl; low = none-low n 20 }

pub step-levels : (v : Venue) (n : ℕ) (bs : List ℕ) → Levels n v → Levels n (step v n bs).effect.venue
step-levels v n bs h s = go (dec_lt s (length v.generations))
  where
    t : Tracks n v (step v n bs).effect
    t = tracks-step v n bs

    past : (w : Venue) → length w.generations ≤ s → generations_of w s ≡ no_generations.messages
    past w l = unfold generations_of in (ap (λ (g : Generations). g.messages) (get_or-eq_default w.generations no_generations {n = s} l))

    go : Dec (s < length v.generations) → Level n (generations_of (step v n bs).effect.venue s)
    go (yes p) = subst (Level n) (sym (t.pushes s p)) (many-level n _ _ (h s))
    go (no p) = subst (Level n) (sym (past (step v n bs).effect.venue (let z = t.size in omega arith))) (none-level n)

below_none : (n k : ℕ) → 0 < n → all (λ x. ltb x n) (replicate k 0) ≡ true
unfolding all
below_none n zero h = refl
below_none n (suc k) h = rw (lt-ltb 0 n h, below_none n k h)

weaker : (n : ℕ) (l : List ℕ) → all (λ x. ltb x n) l ≡ true → all (λ x. leb x n) l ≡ true
unfolding all
weaker n [] h = refl
weaker n (x ∷ l) h = rw (le-leb x n (let z = ltb-true x n (and_l (ltb x n) _ h) in omega arith), weaker n l (and_r (ltb x n) _ h))

next-below : (n : ℕ) (l : List ℕ) → all (λ x. leb x n) l ≡ true → all (λ x. ltb x (suc n)) l ≡ true
unfolding all
next-below n [] h = refl
next-below n (x ∷ l) h = rw (lt-ltb x (suc n) (let z = leb-true x n (and_l (leb x n) _ h) in omega arith), next-below n l (and_r (leb x n) _ h))

all_small : (n : ℕ) (l : List ℕ) → n ≤ 4294967295 → all (λ x. leb x n) l ≡ true → all (λ x. leb x 4294967295) l ≡ true
unfolding all
all_small n [] f h = refl
all_small n (x ∷ l) f h = rw (le-leb x 4294967295 (let z = leb-true x n (and_l (leb x n) _ h) in omega arith), all_small n l f (and_r (leb x n) _ h))

-- as the tests ask
levels-out : (v : Venue) (n : ℕ) → 0 < n → ((s : ℕ) → length (generations_of v s) ≡ 20) → generations_sound v ≡ true → follows n v ≡ true → Levels n v
unfolding generations_sound follows generations_of
levels-out v n some len sound next s =
    let a = all-at (λ g. unfallen 0 g.messages && all (λ k. leb k 4294967295) g.messages) no_generations v.generations (unfold unfallen all in refl) sound s in
    let b = all-at (λ g. all (λ k. ltb k n) g.messages) no_generations v.generations (below_none n 20 some) (and_r (all (λ e. ltb e.message n) v.editions) _ next) s in
    record { len = len s; rises = and_l _ _ a; low = weaker n _ b }

levels-in : (v : Venue) (n : ℕ) → n ≤ 4294967295 → Levels n v → generations_sound v ≡ true
unfolding generations_sound generations_of
levels-in v n few h =
    all_in (λ g. unfallen 0 g.messages && all (λ k. leb k 4294967295) g.messages) no_generations v.generations
    (λ s. and_in _ _ (h s).rises (all_small n _ few (h s).low))

levels-next : (v : Venue) (n : ℕ) → Levels n v → all (λ g. all (λ k. ltb k (suc n)) g.messages) v.generations ≡ true
unfolding generations_of
levels-next v n h = all_in (λ g. all (λ k. ltb k (suc n)) g.messages) no_generations v.generations (λ s. next-below n _ (h s).low)

-- the counts of a venue as soundness has them
pub record Busy (v : Venue) : Type 0 where
  pub eight : length v.generations ≡ 8
  pub twenty : (s : ℕ) → length (generations_of v s) ≡ 20
  pub rise : generations_sound v ≡ true

pub busy-levels : (v : Venue) (n : ℕ) → 0 < n → Busy v → follows n v ≡ true → Levels n v
busy-levels v n some b next = levels-out v n some b.twenty b.rise next

pub step-busy : (v : Venue) (n : ℕ) (bs : List ℕ) → 0 < n → n ≤ 4294967295 → Busy v → follows n v ≡ true → Busy (step v n bs).effect.venue
step-busy v n bs some few b next =
    let h = step-levels v n bs (busy-levels v n some b next) in
    record { eight = (tracks-step v n bs).size ∙ b.eight; twenty = λ s. (h s).len; rise = levels-in _ n few h }

-- and the next number is above them
pub step-above : (v : Venue) (n : ℕ) (bs : List ℕ) → 0 < n → Busy v → follows n v ≡ true →
    all (λ g. all (λ k. ltb k (suc n)) g.messages) (step v n bs).effect.venue.generations ≡ true
step-above v n bs some b next = levels-next _ n (step-levels v n bs (busy-levels v n some b next))

-- A sweep's places ----------------------------------------------------------------------------

-- each number of a list is so
abbrev pub Each : (ℕ → Type 0) → List ℕ → Type 0
Each Q [] = Unit {0}
Each Q (i ∷ is) = Q i × Each Q is

each-join : (Q : ℕ → Type 0) (a b : List ℕ) → Each Q a → Each Q b → Each Q (a ++ b)
each-join Q [] b h k = k
each-join Q (i ∷ a) b h k = (h.0, each-join Q a b h.1 k)

each-front : (Q : ℕ → Type 0) (n : ℕ) (l : List ℕ) → Each Q l → Each Q (take n l)
each-front Q zero l h = tt
each-front Q (suc n) [] h = tt
each-front Q (suc n) (i ∷ l) h = (h.0, each-front Q n l h.1)

places-each : (Q : ℕ → Type 0) (f : Complex → Bool) (n : ℕ) (cs : List Complex) →
    ((j : ℕ) → j < length cs → held (get_or cs j no_complex).quantity ≡ true → Q (n + j)) → Each Q (places_of f n cs)
unfolding places_of
places-each Q f n [] h = tt
places-each Q f n (c ∷ cs) h = go (held c.quantity) refl (f c) (places-each Q f (suc n) cs (λ j l t. subst Q (omega arith) (h (suc j) (omega arith) t)))
  where
    go : (a : Bool) → held c.quantity ≡ a → (b : Bool) → Each Q (places_of f (suc n) cs) → Each Q (if a && b then n ∷ places_of f (suc n) cs else places_of f (suc n) cs)
    go true e true k = (subst Q (add-zero n) (h 0 (omega arith) e), k)
    go true e false k = k
    go false e b k = k

-- what holds of every resting order's place holds of those of a sweep
pub resting-each : (Q : ℕ → Type 0) (v : Venue) → ((j : ℕ) → j < length v.complex → held (cx v j).quantity ≡ true → Q j) → Each Q (resting_places v)
unfolding resting_places
resting-each Q v h = places-each Q (λ _. true) 0 v.complex (λ j l t. subst Q (sym (zero-add j)) (h j l t))

-- and of those that a limited one looks at
pub looked-each : (Q : ℕ → Type 0) (n : ℕ) (v : Venue) → ((j : ℕ) → j < length v.complex → held (cx v j).quantity ≡ true → Q j) → Each Q (take n (going_round v))
unfolding going_round
looked-each Q n v h =
    let k : (j : ℕ) → j < length v.complex → held (cx v j).quantity ≡ true → Q (0 + j) = λ j l t. subst Q (sym (zero-add j)) (h j l t) in
    let above : Complex → Bool = λ c. ltb v.reached c.id in
    let others : Complex → Bool = λ c. not (ltb v.reached c.id) in
    each-front Q n (places_of above 0 v.complex ++ places_of others 0 v.complex)
    (each-join Q (places_of above 0 v.complex) (places_of others 0 v.complex) (places-each Q above 0 v.complex k) (places-each Q others 0 v.complex k))

-- the id reached is one of theirs, or the one before
reached-low : (v : Venue) (top : ℕ) (places : List ℕ) → v.reached ≤ top → Each (λ i. (cx v i).id ≤ top) places → id_reached v places ≤ top
unfolding id_reached complex_at
reached-low v top [] r h = r
reached-low v top (i ∷ []) r h = h.0
reached-low v top (i ∷ j ∷ places) r h = reached-low v top (j ∷ places) r h.1

-- The id reached is at most the last ----------------------------------------------------------

record Ends (r l : ℕ) (v : Venue) : Type 0 where
  reached : v.reached ≡ r
  last : v.last ≡ l

module _ {r l : ℕ} where
  ends-lasts : Lasts (Ends r l)
  unfolding fill_regular fill_complex remove show_again with_regular with_complex with_legging
  ends-lasts = record {
    fill_r = λ i k v h. record { reached = h.reached; last = h.last };
    fill_c = λ i k v h. record { reached = h.reached; last = h.last };
    gone = λ f v h. record { reached = h.reached; last = h.last };
    again = λ v h. record { reached = h.reached; last = h.last };
  }

  ends-leg : (n : ℕ) (x : Complex) (t d : ℕ) (v : Venue) → Ends r l v → Ends r l (generate_leg n x t d v).venue
  unfolding generate_leg make report nothing ◌⟫◌ remove placed counted with_legging with_generations
  ends-leg n x t d v h =
      if-by (λ (f : Effect). Ends r l f.venue) (held x.quantity && makes n v x t d) (λ _. record { reached = h.reached; last = h.last }) (λ _. h)

  ends-generate : (n i : ℕ) (v : Venue) → Ends r l v → Ends r l (generate n i v).venue
  unfolding generate ◌⟫◌
  ends-generate n i v h = ends-leg n _ _ _ _ (ends-leg n _ _ _ v h)

-- below the last, so after
ends_low : {r l : ℕ} {v : Venue} → r ≤ l → Ends r l v → v.reached ≤ v.last
ends_low h e = let a = e.reached in let b = e.last in omega arith

perform-reached : (n : ℕ) (m : Message) (v : Venue) → Passed v m → ((j : ℕ) → held (cx v j).quantity ≡ true → (cx v j).id ≤ v.last) →
    v.reached ≤ v.last → (perform n m v).venue.reached ≤ (perform n m v).venue.last
unfolding perform order enter_regular put_regular complex put_complex sweep limited_sweep set_away set_status set_figure enter_edition with_regular with_complex
    with_series with_editions with_last with_reached report ◌⟫◌ id_too_low
perform-reached n (Order o) v p x h =
    ends_low (let z = leb-false o.id v.last p.fresh-id in omega arith)
    (keeps-settle ends-lasts _ (keeps-matching ends-lasts _ _ _ (record { reached = refl; last = refl })))
perform-reached n (TwoLeg c) v p x h =
    ends_low (let z = leb-false c.id v.last p.fresh-id in omega arith)
    (ends-generate n _ _ (keeps-settle ends-lasts _ (keeps-work ends-lasts _ _ (record { reached = refl; last = refl }))))
perform-reached n (Cancel id) v p x h = ends_low h (keeps-cancel ends-lasts id v (record { reached = refl; last = refl }))
perform-reached n (Away s b o) v p x h = ends_low h (keeps-settle ends-lasts _ (record { reached = refl; last = refl }))
perform-reached n (Status s y) v p x h = ends_low h (keeps-settle ends-lasts _ (record { reached = refl; last = refl }))
perform-reached n Sweep v p x h =
    ends_low h (keeps-each_of (Ends _ _) (generate n) (ends-generate n) _ _
    (keeps-settle ends-lasts _ (keeps-each_of (Ends _ _) work (keeps-work ends-lasts) _ v (record { reached = refl; last = refl }))))
perform-reached n (Increment s i e) v p x h = ends_low h (keeps-settle ends-lasts _ (record { reached = refl; last = refl }))
perform-reached n (Percent y e) v p x h = ends_low h (keeps-settle ends-lasts _ (record { reached = refl; last = refl }))
perform-reached n (LimitedSweep k) v p x h =
    ends_low (reached-low v v.last (take k (going_round v)) h (looked-each (λ i. (cx v i).id ≤ v.last) k v (λ j _ t. x j t)))
    (keeps-each_of (Ends _ _) (generate n) (ends-generate n) _ _
    (keeps-settle ends-lasts _ (keeps-each_of (Ends _ _) work (keeps-work ends-lasts) _ _ (record { reached = refl; last = refl }))))

pub step-reached : (v : Venue) (n : ℕ) (bs : List ℕ) → ((j : ℕ) → held (cx v j).quantity ≡ true → (cx v j).id ≤ v.last) → v.reached ≤ v.last →
    (step v n bs).effect.venue.reached ≤ (step v n bs).effect.venue.last
unfolding step answered accept nothing ◌⟫◌ close_gaps with_regular with_complex
step-reached v n bs x h =
    step_by (λ e. e.venue.reached ≤ e.venue.last) v n bs (λ a. perform-reached n (message_of bs) v (accepted v bs a) x h) (λ _. h)

-- A limited sweep's count ---------------------------------------------------------------------

-- "the number looked at": as many places as it tells
pub looked-count : (n : ℕ) (v : Venue) → length (take n (going_round v)) ≡ examined n v
unfolding examined
looked-count n v = length-take n (going_round v)

-- "the orders resting when it starts": going round passes each once
parts_all : (p : Complex → Bool) (n : ℕ) (cs : List Complex) →
    length (places_of p n cs) + length (places_of (λ c. not (p c)) n cs) ≡ length (keep (λ c. held c.quantity) cs)
unfolding places_of keep
parts_all p n [] = refl
parts_all p n (c ∷ cs) = go (held c.quantity) (p c) (parts_all p (suc n) cs)
  where
    a : List ℕ
    a = places_of p (suc n) cs

    b : List ℕ
    b = places_of (λ c. not (p c)) (suc n) cs

    k : List Complex
    k = keep (λ c. held c.quantity) cs

    go : (h t : Bool) → length a + length b ≡ length k → length (if h && t then n ∷ a else a) + length (if h && not t then n ∷ b else b) ≡ length (if h then c ∷ k else k)
    go true true e = omega arith
    go true false e = omega arith
    go false t e = e

pub round-all : (v : Venue) → length (going_round v) ≡ length (keep (λ c. held c.quantity) v.complex)
unfolding going_round
round-all v =
    length-append (places_of (λ c. ltb v.reached c.id) 0 v.complex) (places_of (λ c. not (ltb v.reached c.id)) 0 v.complex)
    ∙ parts_all (λ c. ltb v.reached c.id) 0 v.complex
