-- The laws of a host's first venue, and of one message upon the venue in its memory.
use mathlib.Core.Path.{◌≡◌, refl, subst, ap, ◌∙◌}
use mathlib.Core.Bool.{Bool, true, false, ◌&&◌}
use mathlib.Core.List.{List, ◌++◌}
use Prim.Native.Nat.{ℕ, suc, ◌-◌, ◌≤◌}
use native.Mathlib.Omega.{arith}
use native.Mathlib.Decide.{dec_lt}
use lib.IntN.{ℤ, pos, negsuc}
use lib.ListN.{length, get_or, take, replicate, get_or-eq_default}
use lib.Dec.{ltb, eqb}
use borrow.Author.Tests.{leb-true, ltb-false, eqb-true, eqb-false, eq-eqb, ne_eqb}
use Rattle.rules.specs.declared.Regular.{Regular}
use Rattle.rules.specs.declared.Complex.{Complex}
use Rattle.rules.specs.declared.Listed.{Listed}
use Rattle.rules.specs.declared.Generations.{Generations}
use Rattle.rules.specs.declared.Venue.{Venue}
use Rattle.rules.specs.declared.Returned.{Returned}
use Rattle.rules.specs.Base.{held}
use Rattle.rules.specs.Words.{within, is_class, is_status, is_away, not_listed, no_generations, fresh_venue}
use Rattle.rules.specs.Records.{OneByte, FourBytes, FourSigned, encode_all, sheet}
use Rattle.rules.specs.Effects.{Effect}
use Rattle.rules.specs.Generation.{generations_of}
use Rattle.rules.specs.Places.{blank_regular, blank_complex}
use Rattle.rules.specs.Refusals.{regular_in_range, two_leg_in_range, complex_in_range, refusal}
use Rattle.rules.specs.Step.{StepOutcome, answered, step}
use Rattle.rules.specs.Sound.{shows_fully, listed_in_range, sound, follows}
use Rattle.rules.specs.Calls.{Call, called, exceeds, ends, after, one}
use Rattle.rules.proofs.Filling.{reg, cx}
use Rattle.rules.proofs.Integers.{plus, minus}
use Rattle.rules.proofs.Showing.{Showing}
use Rattle.rules.proofs.Tests.{and_l, and_r, or-false-l}
use Rattle.demands.specs.Soundness.{Shaped, SoundVenue}
use Rattle.demands.specs.Truth.{venue_after}
use Rattle.demands.proofs.Calls.{stays-sound, fresh-sound}
use Rattle.demands.proofs.SoundnessLaws.{sound-out}
use Rattle.demands.proofs.Truth.{one-message}
use Rattle.places.specs.Layout.{upto}
use Rattle.places.proofs.Tables.{upto-length, upto-at}
use Rattle.venue_bytes.specs.Held.{generations_at, venue_size, venue_bytes, generations_from, row_at, venue_from, Declared}
use Rattle.venue_writer.proofs.Back.{held_whole}
use Rattle.engine.specs.Runs.{call_of}
use Rattle.engine.specs.Hosts.{first_venue, fresh_hosted, HeldFirst, hosted, leaves, one_hosted, HeldNext}
use Rattle.soundness.proofs.ReadyFor.{editions-fit, generations-fit}
use Rattle.rules.specs.Fields.{ListedFits}
use Rattle.engine.proofs.OneCallLaws.{one-unready, one-ends, one-does}

-- The first venue -----------------------------------------------------------------------------

pub none_first : (memory : List ℕ) → (length memory ≡ venue_size → ⊥) → first_venue 9 memory ≡ fresh_hosted memory
unfolding fresh_hosted
none_first memory h = rw (ne_eqb (length memory) venue_size h)

pub fresh-first : (memory m : List ℕ) (v : Venue) → length memory ≡ venue_size → v ≡ fresh_venue → m ≡ venue_bytes v → first_venue 0 m ≡ fresh_hosted memory
unfolding fresh_hosted
fresh-first memory m v size f e = ap (first_venue 0) (e ∙ ap venue_bytes f) ∙ rw (eq-eqb (length memory) venue_size size)

-- One message ---------------------------------------------------------------------------------

module _ (memory : List ℕ) (n : ℕ) (l bs : List ℕ) where
  -- the memory is of another length, and the report zeroed from its start
  pub none-held : (z : List ℕ) → (length memory ≡ venue_size → ⊥) → z ≡ take 0 l ++ replicate (length l - 0) 0 → hosted 9 memory z ≡ one_hosted memory n (length l) bs
  unfolding one_hosted sheet encode_all
  none-held z h e = ap (hosted 9 memory) e ∙ rw (ne_eqb (length memory) venue_size h)

  module _ (size : length memory ≡ venue_size) (v : Venue) (given : v ≡ venue_from memory) (r : Returned) (z : List ℕ) (call : call_of r z ≡ one v n (length l) bs) where
    call-held : leaves memory (call_of r z) ≡ one_hosted memory n (length l) bs
    unfolding one_hosted
    call-held = ap (leaves memory) (call ∙ ap (λ (w : Venue). one w n (length l) bs) given) ∙ rw (eq-eqb (length memory) venue_size size)

    -- the message was not accepted
    pub left-held : (r.number ≡ 0 → ⊥) → hosted r.number memory z ≡ one_hosted memory n (length l) bs
    unfolding leaves
    left-held e = rw (ne_eqb r.number 0 e) at call-held

    -- it was, and the memory is written anew
    pub accepted-held : (m : List ℕ) → r.number ≡ 0 → m ≡ venue_bytes r.venue → hosted r.number m z ≡ one_hosted memory n (length l) bs
    unfolding leaves
    accepted-held m e p = ap (λ (x : List ℕ). hosted r.number x z) p ∙ (rw (eq-eqb r.number 0 e) at call-held)

-- The next call -------------------------------------------------------------------------------

limit-fits : (z : ℤ) → plus z ≤ 600000 → minus z ≤ 600000 → FourSigned z
unfolding plus minus
limit-fits (pos n) a b = omega arith
limit-fits (negsuc n) a b = omega arith

class-fits : (c : Complex) (t : Bool) → held c.quantity ≡ t → (held c.quantity ≡ true → complex_in_range c ≡ true) →
    (held c.quantity ≡ false → blank_complex c ≡ true) → OneByte c.class
unfolding complex_in_range two_leg_in_range is_class within blank_complex
class-fits c true h asked blank = let z = asked h in let k = leb-true c.class 1 (search (and_l, and_r, z) depth 14) in omega arith
class-fits c false h asked blank = let z = blank h in let k = eqb-true c.class 0 (search (and_l, and_r, z) depth 12) in omega arith

-- a regular order's shown quantity is no more than what is left, nor is its reserve
display-fits : (o : Regular) (t : Bool) → held o.quantity ≡ t → o.quantity ≤ 10000 → (held o.quantity ≡ true → regular_in_range o ≡ true) →
    (held o.quantity ≡ false → blank_regular o ≡ true) → FourBytes o.display
unfolding regular_in_range within blank_regular
display-fits o true h q asked blank = let z = asked h in let k = leb-true o.display o.quantity (search (and_l, and_r, z) depth 12) in omega arith
display-fits o false h q asked blank = let z = blank h in let k = eqb-true o.display 0 (search (and_l, and_r, z) depth 12) in omega arith

reserve-fits : (o : Regular) → o.quantity ≤ 10000 → shows_fully o ≡ true → FourBytes o.reserve
unfolding shows_fully
reserve-fits o q h = let k = eqb-true o.reserve (o.quantity - o.display) h in omega arith

-- the fields of a sound venue have their widths
pub declared : (v : Venue) → SoundVenue v → Declared v
declared v s =
    let k = sound-out v s in
    let g = k.ranged in
    record {
      sized = record {
        regular = s.shaped.regular;
        complex = s.shaped.complex;
        legging = s.shaped.legging;
        series = s.shaped.series;
        editions = s.shaped.editions;
        generations = s.shaped.generations;
      };
      regular = λ i. let f = g.regular i in record {
        id = f.id;
        series = omega arith;
        side = omega arith;
        price = omega arith;
        quantity = omega arith;
        display = display-fits (reg v i) (held (reg v i).quantity) refl f.quantity f.ok (k.tidy.blank1 i);
        reserve = reserve-fits (reg v i) f.quantity (unfold Showing in (k.showing i));
      };
      complex = λ i. let f = g.complex i in record {
        id = f.id;
        series1 = omega arith;
        side1 = omega arith;
        series2 = omega arith;
        side2 = omega arith;
        class = class-fits (cx v i) (held (cx v i).quantity) refl f.ok (k.tidy.blank2 i);
        limit = limit-fits (cx v i).limit f.high f.low;
        quantity = omega arith;
        ratio1 = omega arith;
        ratio2 = omega arith;
      };
      legging = λ i. let f = g.legging i in record { parent = f.parent; price = omega arith; quantity = omega arith };
      series = λ i. listed-fits (get_or v.series i not_listed) (g.listed i);
      editions = editions-fit v k.edited.rise;
      generations = generations-fit v s.shaped.twenty k.busy.rise;
      last = omega arith;
      reached = (let r = k.reached in omega arith);
    }
  where
    listed-fits : (x : Listed) → listed_in_range x ≡ true → ListedFits x
    listed-fits x z = unfold listed_in_range is_status is_away within in (
        let a = leb-true x.status 2 (search (and_l, and_r, z) depth 8) in
        let b = leb-true x.bid 100000 (search (and_l, and_r, z) depth 8) in
        let c = leb-true x.offer 100000 (search (and_l, and_r, z) depth 8) in
        record { status = omega arith; bid = omega arith; offer = omega arith }
        )

pub held_first : HeldFirst
unfolding fresh_hosted
held_first memory size = rw (eq-eqb (length memory) venue_size size) (held_whole fresh_venue (declared fresh_venue fresh-sound.venue))

held-twenty : (memory : List ℕ) (s : ℕ) → length (generations_of (venue_from memory) s) ≡ 20
unfolding venue_from generations_of
held-twenty memory s =
    let rows = row_at generations_from generations_at 80 memory in
    elim (dec_lt s 8) [
      | yes h ↦ ap (λ (g : Generations). length g.messages) (upto-at rows no_generations 0 8 s h) ∙ (unfold row_at generations_from in upto-length _ 0 20)
      | no h ↦ ap (λ (g : Generations). length g.messages) (get_or-eq_default (upto rows 0 8) no_generations {n = s} (omega (arith, upto-length rows 0 8)))
    ]

-- what is held has the arrays of its type
pub held-shaped : (memory : List ℕ) → Shaped (venue_from memory)
unfolding venue_from
held-shaped memory = record {
  regular = upto-length _ 0 128;
  complex = upto-length _ 0 32;
  legging = upto-length _ 0 16;
  series = upto-length _ 0 8;
  editions = upto-length _ 0 32;
  generations = upto-length _ 0 8;
  twenty = held-twenty memory;
}

module _ (memory : List ℕ) (room : ℕ) where
  -- what a call leaves in the memory is the venue that it returned
  abbrev Next : Call → Type 0
  Next c = venue_from (leaves memory c).venue ≡ c.returned.venue

  next-ended : (number : ℕ) → eqb number 0 ≡ false → Next (called room (ends number (venue_from memory)))
  unfolding leaves called ends
  next-ended number other = rw other

  -- a message done: accepted, or refused
  module _ (e : Effect) (refused : ℕ) where
    abbrev done : Call
    done = called room (after e (ends refused e.venue))

    next-accepted : eqb refused 0 ≡ true → venue_from (venue_bytes e.venue) ≡ e.venue → Next done
    unfolding leaves called ends after
    next-accepted zero p = rw (zero, p)

    next-refused : eqb refused 0 ≡ false → e.venue ≡ venue_from memory → Next done
    unfolding leaves called ends after
    next-refused other p = rw (other, p)

module _ (memory : List ℕ) (n room : ℕ) (bs : List ℕ) where
  abbrev v : Venue
  v = venue_from memory

  abbrev a : StepOutcome
  a = step v (suc n) bs

  -- a refused message leaves the venue
  refused-leaves : eqb a.refused 0 ≡ false → a.effect.venue ≡ v
  unfolding step answered venue_after
  refused-leaves other = (one-message.alone v (suc n) bs (eqb-false (refusal v bs) 0 other)).venue

  -- a message done has a number
  numbered : exceeds (suc n) room a.effect.reports ≡ false → suc n ≤ 4294967295
  unfolding exceeds
  numbered e = ltb-false 4294967295 (suc n) (or-false-l (ltb 4294967295 (suc n)) _ e)

  module _ (fine : (sound v && follows (suc n) v) ≡ true) where
    next-done : (t : Bool) → suc n ≤ 4294967295 → eqb a.refused 0 ≡ t → Next memory room (done memory room a.effect a.refused)
    next-done true few e =
        let w : Venue = a.effect.venue in
        let s : SoundVenue w = (stays-sound v (suc n) (omega arith) (record { venue = record { shaped = held-shaped memory; is = and_l (sound v) _ fine }; next = and_r (sound v) _ fine }) bs).venue in
        next-accepted memory room a.effect a.refused e (held_whole w (declared w s))
    next-done false few e = next-refused memory room a.effect a.refused e (refused-leaves e)

    next-ready : (t : Bool) → exceeds (suc n) room a.effect.reports ≡ t → Next memory room (one v n room bs)
    next-ready true e = subst (Next memory room) (one-ends v n room bs fine e) (next-ended memory room 10 refl)
    next-ready false e = subst (Next memory room) (one-does v n room bs fine e) (next-done (eqb a.refused 0) (numbered e) refl)

  next : (t : Bool) → (sound v && follows (suc n) v) ≡ t → Next memory room (one v n room bs)
  next true fine = next-ready fine (exceeds (suc n) room a.effect.reports) refl
  next false e = subst (Next memory room) (one-unready v n room bs e) (next-ended memory room 9 refl)

pub held_next : HeldNext
unfolding one_hosted
held_next memory n room bs size = rw (eq-eqb (length memory) venue_size size) (next memory n room bs (sound (venue_from memory) && follows (suc n) (venue_from memory)) refl)
