-- Editions: a figure's value is one of those entered or the base figure, an edition moves its own figure alone, and what is in force at the
-- number of the message at hand is the last of all that are kept.
use Rattle.std.specs.Prelude.{if◌then◌else◌}
use mathlib.Core.Path.{◌∙◌, ◌≡◌, ap, refl, sym}
use mathlib.Core.Bool.{Bool, ◌&&◌, false, true}
use mathlib.Core.Logic.{◌≢◌}
use mathlib.Core.List.{List, [], ◌∷◌}
use Prim.Native.Nat.{◌<◌, suc, zero, ℕ}
use native.Mathlib.Omega.{arith}
use lib.Dec.{eqb, leb, ltb}
use lib.ListN.{get_or, set}
use borrow.Author.Tests.{eqb-true, le-leb, ltb-true, ne_eqb}
use Rattle.rules.specs.declared.Edition.{Edition}
use Rattle.rules.specs.declared.Venue.{Venue}
use Rattle.rules.specs.Base.{all, held, keep}
use Rattle.rules.specs.Words.{no_edition, with_editions}
use Rattle.rules.specs.Settings.{base_figure, enter_edition, figure_now, free_edition, in_force, increment, is_increment, last_value, sets}
use Rattle.rules.specs.Sound.{figure_in_range, follows}
use Rattle.rules.proofs.Cases.{if-by}
use Rattle.rules.proofs.Tests.{and_l, and_r}

-- what stands at a place of the editions
abbrev pub ed : Venue → ℕ → Edition
ed v i = get_or v.editions i no_edition

-- The last value ------------------------------------------------------------------------------

-- it is one that an edition sets, or what there was before
pub last-by : (P : ℕ → Type 0) (f x : ℕ) (es : List Edition) → P x → ((i : ℕ) → sets f (get_or es i no_edition) ≡ true → P (get_or es i no_edition).value) → P (last_value f x es)
unfolding last_value
last-by P f x [] h k = h
last-by P f x (e ∷ es) h k = last-by P f (if sets f e then e.value else x) es (if-by P (sets f e) (λ t. k 0 t) (λ _. h)) (λ i. k (suc i))

-- an edition of another figure, at a place that sets it neither, moves nothing
pub last_set : (f x : ℕ) (es : List Edition) (i : ℕ) (e : Edition) → sets f (get_or es i no_edition) ≡ false → sets f e ≡ false → last_value f x (set es i e) ≡ last_value f x es
unfolding last_value
last_set f x [] i e h k = refl
last_set f x (y ∷ es) zero e h k = ap (λ (b : Bool). last_value f (if b then e.value else x) es) k ∙ sym (ap (λ (b : Bool). last_value f (if b then y.value else x) es) h)
last_set f x (y ∷ es) (suc i) e h k = last_set f (if sets f y then y.value else x) es i e h k

-- The figures in force ------------------------------------------------------------------------

-- the base increments
pub base-some : (f : ℕ) → 0 < base_figure f
unfolding base_figure
base-some f = if-by (λ x. 0 < x) (ltb f 6) (λ _. omega arith) (λ _. if-by (λ x. 0 < x) (ltb f 8) (λ _. omega arith) (λ _. omega arith))

increment-some : (x : ℕ) → is_increment x ≡ true → 0 < x
unfolding is_increment
increment-some zero h = absurd (omega (arith, eqb-true 0 1 h))
increment-some (suc x) h = omega arith

-- each edition kept sets a figure to a value in its range
abbrev pub Dated : Venue → Type 0
Dated v = (i : ℕ) → held (ed v i).edition ≡ true → figure_in_range (ed v i) ≡ true

-- every increment in force is some number of cents
abbrev pub Stepped : Venue → Type 0
Stepped v = (s : ℕ) → s < 8 → 0 < increment v s

-- both are of the editions alone
pub steps-same : (v w : Venue) → w.editions ≡ v.editions → Stepped v → Stepped w
unfolding increment figure_now
steps-same v w e h s s8 = rw e (h s s8)

pub dated-steps : (v : Venue) → Dated v → Stepped v
unfolding increment figure_now sets figure_in_range
dated-steps v d s s8 = last-by (λ x. 0 < x) s (base_figure s) v.editions (base-some s) (λ i t. some i (and_l _ _ t) (eqb-true (ed v i).figure s (and_r (held (ed v i).edition) _ t)))
  where
    some : (i : ℕ) → held (ed v i).edition ≡ true → (ed v i).figure ≡ s → 0 < (ed v i).value
    some i h e =
        let z = d i h in
        let low : leb (ed v i).figure 7 ≡ true = le-leb (ed v i).figure 7 (omega arith) in
        increment-some (ed v i).value (rw low at z)

-- an edition of figure g, entered at a free place, leaves the other figures as they are
pub figure-other : (f : ℕ) (e : Edition) (v : Venue) → held (ed v (free_edition v)).edition ≡ false → e.figure ≢ f → figure_now (enter_edition e v) f ≡ figure_now v f
unfolding figure_now enter_edition with_editions sets
figure-other f e v free ne = last_set f (base_figure f) v.editions (free_edition v) e (rw free) (none (held e.edition))
  where
    none : (b : Bool) → (b && eqb e.figure f) ≡ false
    none true = ne_eqb e.figure f ne
    none false = refl

-- What is told of a message number ------------------------------------------------------------

keep_all : (n : ℕ) (es : List Edition) → all (λ e. leb e.message n) es ≡ true → keep (λ e. leb e.message n) es ≡ es
unfolding all keep
keep_all n [] h = refl
keep_all n (e ∷ es) h = rw (and_l (leb e.message n) _ h, keep_all n es (and_r (leb e.message n) _ h))

below : (n : ℕ) (es : List Edition) → all (λ e. ltb e.message (suc n)) es ≡ true → all (λ e. leb e.message n) es ≡ true
unfolding all
below n [] h = refl
below n (e ∷ es) h =
    rw (le-leb e.message n (let z = ltb-true e.message (suc n) (and_l _ _ h) in omega arith), below n es (and_r (ltb e.message (suc n)) _ h))

-- "Every band and increment in the rules reads the edition in force": where no edition has a number above n
pub in-force-now : (v : Venue) (n f : ℕ) → follows (suc n) v ≡ true → in_force v n f ≡ figure_now v f
unfolding in_force figure_now follows
in-force-now v n f h = ap (last_value f (base_figure f)) (keep_all n v.editions (below n v.editions (and_l _ _ h)))

-- an edition of a later message, at a free place, moves nothing that was in force
pub past-set : (k f x : ℕ) (es : List Edition) (i : ℕ) (e : Edition) → sets f (get_or es i no_edition) ≡ false → leb e.message k ≡ false →
    last_value f x (keep (λ y. leb y.message k) (set es i e)) ≡ last_value f x (keep (λ y. leb y.message k) es)
unfolding keep
past-set k f x [] i e h l = refl
past-set k f x (y ∷ es) zero e h l = rw l (go (leb y.message k))
  where
    rest : List Edition
    rest = keep (λ z. leb z.message k) es

    go : (b : Bool) → last_value f x rest ≡ last_value f x (if b then y ∷ rest else rest)
    go true = sym (unfold last_value in (ap (λ (b : Bool). last_value f (if b then y.value else x) rest) h))
    go false = refl
past-set k f x (y ∷ es) (suc i) e h l = go (leb y.message k) (λ z. past-set k f z es i e h l)
  where
    old : List Edition
    old = keep (λ z. leb z.message k) es

    new : List Edition
    new = keep (λ z. leb z.message k) (set es i e)

    go : (b : Bool) → ((z : ℕ) → last_value f z new ≡ last_value f z old) → last_value f x (if b then y ∷ new else new) ≡ last_value f x (if b then y ∷ old else old)
    go true ih = unfold last_value in (ih (if sets f y then y.value else x))
    go false ih = ih x
