-- A venue made ready for the message of a number: the editions and generations kept have the widths of their fields, so the last number that there is
-- follows them all.
use mathlib.Core.Path.{◌≡◌, refl, ◌∙◌}
use mathlib.Core.Bool.{Bool, true, false, false≢true, ◌&&◌}
use mathlib.Core.List.{List}
use Prim.Native.Nat.{ℕ, suc, ◌+◌, ◌<◌}
use native.Mathlib.Decide.{dec_lt}
use native.Mathlib.Numerals.{add-one}
use native.Mathlib.Omega.{arith}
use lib.Dec.{leb, ltb}
use lib.ListN.{length, get_or}
use borrow.Author.Tests.{leb-true, lt-ltb, eqb-true, ne_eqb}
use Rattle.rules.specs.declared.Edition.{Edition}
use Rattle.rules.specs.declared.Venue.{Venue}
use Rattle.rules.specs.Base.{held, all}
use Rattle.rules.specs.Words.{within, no_edition, no_generations}
use Rattle.rules.specs.Settings.{percentage, is_increment, is_percent, is_edition}
use Rattle.rules.specs.Generation.{generations_of}
use Rattle.rules.specs.Places.{holds_edition, blank_edition}
use Rattle.rules.specs.Sound.{figure_in_range, edition_in_range, editions_sound, unfallen, generations_sound, follows, sound}
use Rattle.rules.proofs.Arranging.{all-at, all_in, arranged-out}
use Rattle.rules.proofs.Cases.{if-by}
use Rattle.rules.proofs.Dating.{edition-free}
use Rattle.rules.proofs.Tests.{and_l, and_r}
use Rattle.places.specs.Layout.{venue_of, Loaded}
use Rattle.soundness.specs.Checked.{Ready}
use Rattle.rules.specs.Fields.{EditionFits, GenerationsFits}

-- The editions kept ---------------------------------------------------------------------------

increment-fits : (x : ℕ) → is_increment x ≡ true → x < 256
unfolding is_increment
increment-fits x h = elim (dec_lt x 256) [
  | yes p ↦ p
  | no p ↦ absurd (false≢true (rw (ne_eqb x 1 (λ e. omega arith), ne_eqb x 5 (λ e. omega arith), ne_eqb x 10 (λ e. omega arith)) at h))
]

-- an edition's figure and value in range are a byte each
figure-fits : (e : Edition) → figure_in_range e ≡ true → (e.figure < 256) × (e.value < 256)
unfolding figure_in_range is_percent within
figure-fits e = if-by (λ t. t ≡ true → (e.figure < 256) × (e.value < 256)) (leb e.figure 7)
    (λ low z. let a = leb-true e.figure 7 low in (omega arith, increment-fits e.value z))
    (λ _ z. let a = eqb-true e.figure percentage (and_l _ _ z) in let b = leb-true e.value 50 (search (and_l, and_r, z) depth 6) in (omega arith, omega arith))

held_fits : (e : Edition) → edition_in_range e ≡ true → EditionFits e
unfolding edition_in_range is_edition within
held_fits e z =
    let f = figure-fits e (search (and_l, and_r, z) depth 6) in
    let a = leb-true e.edition 4294967295 (search (and_l, and_r, z) depth 6) in
    let b = leb-true e.message 4294967295 (search (and_l, and_r, z) depth 6) in
    record { edition = omega arith; message = omega arith; figure = f.0; value = f.1 }

blank-fits : (e : Edition) → blank_edition e ≡ true → EditionFits e
unfolding blank_edition
blank-fits e z =
    let a = eqb-true e.edition 0 (search (and_l, and_r, z) depth 6) in
    let b = eqb-true e.message 0 (search (and_l, and_r, z) depth 6) in
    let f = eqb-true e.figure 0 (search (and_l, and_r, z) depth 6) in
    let x = eqb-true e.value 0 (search (and_l, and_r, z) depth 6) in
    record { edition = omega arith; message = omega arith; figure = omega arith; value = omega arith }

fits_by : (e : Edition) (t : Bool) → held e.edition ≡ t → (held e.edition ≡ true → edition_in_range e ≡ true) →
    (held e.edition ≡ false → blank_edition e ≡ true) → EditionFits e
fits_by e true h asks blanks = held_fits e (asks h)
fits_by e false h asks blanks = blank-fits e (blanks h)

pub editions-fit : (v : Venue) → editions_sound v ≡ true → (i : ℕ) → EditionFits (get_or v.editions i no_edition)
unfolding editions_sound
editions-fit v h i =
    let a = arranged-out no_edition holds_edition edition_in_range blank_edition (λ e. e.edition) edition-free (unfold blank_edition in refl) 0 v.editions (and_l _ _ h) in
    fits_by (get_or v.editions i no_edition) _ refl (a.asks i) (a.blanks i)

-- The generations kept -------------------------------------------------------------------------

numbers_fit : (v : Venue) → generations_sound v ≡ true → (s k : ℕ) → get_or (generations_of v s) k 0 < 4294967296
unfolding generations_sound generations_of
numbers_fit v h s k =
    let a = all-at (λ g. unfallen 0 g.messages && all (λ n. leb n 4294967295) g.messages) no_generations v.generations (unfold unfallen all in refl) h s in
    let l = (get_or v.generations s no_generations).messages in
    let b = leb-true (get_or l k 0) 4294967295 (all-at (λ n. leb n 4294967295) 0 l refl (and_r (unfallen 0 l) _ a) k) in
    omega arith

pub generations-fit : (v : Venue) → ((s : ℕ) → length (generations_of v s) ≡ 20) → generations_sound v ≡ true → (s : ℕ) → GenerationsFits (get_or v.generations s no_generations)
unfolding generations_of
generations-fit v len h s = record { many = len s; messages = numbers_fit v h s }

generations-last : (v : Venue) → generations_sound v ≡ true → all (λ g. all (λ n. ltb n 4294967296) g.messages) v.generations ≡ true
unfolding generations_of
generations-last v h =
    all_in (λ g. all (λ n. ltb n 4294967296) g.messages) no_generations v.generations
    (λ s. all_in (λ n. ltb n 4294967296) 0 (generations_of v s) (λ k. lt-ltb (get_or (generations_of v s) k 0) 4294967296 (numbers_fit v h s k)))

-- A venue made ready --------------------------------------------------------------------------

editions-last : (v : Venue) → editions_sound v ≡ true → all (λ e. ltb e.message 4294967296) v.editions ≡ true
editions-last v h =
    all_in (λ e. ltb e.message 4294967296) no_edition v.editions
    (λ i. lt-ltb (get_or v.editions i no_edition).message 4294967296 (editions-fit v h i).message)

follows-last : (v : Venue) → sound v ≡ true → follows 4294967296 v ≡ true
unfolding sound follows
follows-last v h = rw (editions-last v (search (and_l, and_r, h) depth 12), generations-last v (search (and_l, and_r, h) depth 12))

module _ (v : Venue) (n : ℕ) (b : List ℕ) where
  pub unready : sound v ≡ false → Ready v n false b
  unready e = record { answer = rw e; loaded = λ z. absurd (false≢true z) }

  module _ (fine : sound v ≡ true) (laid : Loaded v b) where
    pub ready-last : n ≡ 4294967295 → Ready v n true b
    ready-last e =
        let k : suc n ≡ 4294967296 = omega arith in
        record { answer = rw (fine, k, follows-last v fine); loaded = λ _. laid }

    pub ready-next : (r : Bool) → r ≡ follows (n + 1) (venue_of b) → Ready v n r b
    ready-next r e = record { answer = e ∙ rw (laid.venue, add-one n, fine); loaded = λ _. laid }
