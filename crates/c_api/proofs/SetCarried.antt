-- The laws of a set that is written from the venue in a host's memory, and of one that is read into it.
use mathlib.Core.Path.{◌≡◌, refl, sym, subst, ap, ap₂, ◌∙◌}
use mathlib.Core.Bool.{not}
use mathlib.Core.List.{List, ◌++◌}
use Prim.Native.Nat.{ℕ, suc, ◌-◌, ◌≤◌}
use native.Mathlib.Omega.{arith}
use lib.Dec.{ltb}
use lib.ListN.{length, take, replicate, drop_of_length-le}
use borrow.Author.Tests.{eq-eqb, ne_eqb}
use Rattle.rules.specs.declared.Venue.{Venue}
use Rattle.rules.specs.Bytes.{bytes, u32}
use Rattle.rules.specs.Records.{FourBytes}
use Rattle.rules.specs.Sound.{sound, follows}
use Rattle.rules.specs.Calls.{one}
use Rattle.rules.proofs.Cases.{if-by}
use Rattle.rules.proofs.Tests.{and_l}
use Rattle.demands.specs.Soundness.{Shaped}
use Rattle.records.specs.Seen.{Seen, seen, pasted, ◌plus◌}
use Rattle.records.proofs.SeenLaws.{plus-in}
use Rattle.venue_bytes.specs.Held.{venue_size, venue_bytes, venue_from, Declared}
use Rattle.venue_writer.proofs.Whole.{venue-length}
use Rattle.venue_writer.proofs.Back.{held_whole}
use Rattle.sets.specs.Set.{WrittenSet, ReadSet, joined, set_of, carries, not_written, write_set, not_read, read_set}
use Rattle.sets.specs.Promises.{most_set_bytes}
use Rattle.sets.proofs.Most.{at_most}
use Rattle.sets.proofs.ReadBack.{written-set, reads-back}
use Rattle.set_reader.specs.declared.Resumed.{Resumed}
use Rattle.set_reader.specs.Returned.{set_read}
use Rattle.engine.specs.Hosts.{Hosted, leaves, one_hosted, saves_as, save_hosted, read_for, resumes_as, resume_hosted, Again, HeldAgain}
use Rattle.engine.proofs.HostsLaws.{declared, held-shaped, held_next}
use Rattle.c_api.proofs.SettingsTold.{zeros, long}

-- A number's four bytes -----------------------------------------------------------------------

-- they are all that a memory of four bytes holds
pub number_put : (l o bs : List ℕ) (x end : ℕ) → length l ≡ 4 → bs ≡ u32 x → seen o end ≡ seen l 0 plus bs → o ≡ u32 x
unfolding seen pasted bytes
number_put l o bs x end n f e =
    ap (λ (w : Seen). w.memory) (e ∙ ap (λ (k : List ℕ). seen l 0 plus k) f ∙ plus-in l (u32 x) 0 (omega arith))
    ∙ ap (λ (k : List ℕ). u32 x ++ k) (drop_of_length-le l {i = 4} (omega arith))

-- A set written -------------------------------------------------------------------------------

-- a set has few bytes
written-few : (n room : ℕ) (v : Venue) → Shaped v → (write_set n v room).written ≤ most_set_bytes
unfolding write_set not_written
written-few n room v w =
    if-by (λ (x : WrittenSet). x.written ≤ most_set_bytes) (not (carries n v)) (λ _. omega arith)
    (λ _. if-by (λ (x : WrittenSet). x.written ≤ most_set_bytes) (ltb room (length (joined (set_of n v)))) (λ _. omega arith) (λ _. at_most n v w))

pub saved-few : (memory : List ℕ) (n room : ℕ) (v : Venue) → v ≡ venue_from memory → (r : WrittenSet) → r ≡ write_set n v room → r.written ≤ most_set_bytes
saved-few memory n room v e r s =
    let k : r.written ≡ (write_set n (venue_from memory) room).written = ap (λ (x : WrittenSet). x.written) (s ∙ ap (λ (w : Venue). write_set n w room) e) in
    let few = written-few n room (venue_from memory) (held-shaped memory) in
    omega arith

-- both memories were zeroed from their starts
module _ (memory : List ℕ) (n : ℕ) (l z t y : List ℕ) (zeroed : z ≡ take 0 l ++ replicate (length l - 0) 0) (cleared : y ≡ take 0 t ++ replicate (length t - 0) 0) where
  -- the venue's memory is of another length
  pub saves-none : (length memory ≡ venue_size → ⊥) → saves_as 9 z y ≡ save_hosted memory n (length l) (length t)
  unfolding save_hosted
  saves-none h = ap₂ (saves_as 9) (zeros l z zeroed) (zeros t y cleared) ∙ rw (ne_eqb (length memory) venue_size h)

  module _ (size : length memory ≡ venue_size) where
    -- the count's is
    pub saves-short : (length y ≡ 4 → ⊥) → saves_as 9 z y ≡ save_hosted memory n (length l) (length t)
    unfolding save_hosted
    saves-short h =
        ap₂ (saves_as 9) (zeros l z zeroed) (zeros t y cleared)
        ∙ rw (eq-eqb (length memory) venue_size size, ne_eqb (length t) 4 (λ e. h (long t y cleared ∙ e)))

    -- a refused call's count of 0 stands there
    pub none_counted : length y ≡ 4 → y ≡ u32 0
    unfolding bytes
    none_counted four = zeros t y cleared ∙ ap (λ (k : ℕ). replicate k 0) (sym (long t y cleared) ∙ four)

    -- the set is written or refused, and its count put
    pub saves-all : length y ≡ 4 → (v : Venue) → v ≡ venue_from memory → (r : WrittenSet) → r ≡ write_set n v (length z) →
        (o : List ℕ) → o ≡ u32 r.written → saves_as r.number r.memory o ≡ save_hosted memory n (length l) (length t)
    unfolding save_hosted
    saves-all four v e r s o p =
        let f : length t ≡ 4 = (let k = long t y cleared in omega arith) in
        let w : r ≡ write_set n (venue_from memory) (length l) = s ∙ ap₂ (write_set n) e (long l z zeroed) in
        ap (saves_as r.number r.memory) p ∙ ap (λ (x : WrittenSet). saves_as x.number x.memory (u32 x.written)) w
        ∙ rw (eq-eqb (length memory) venue_size size, eq-eqb (length t) 4 f)

-- A set read ----------------------------------------------------------------------------------

-- the message number's memory has four bytes, or another length
pub read-four : (room : ℕ) (set : List ℕ) (r : Resumed) → room ≡ 4 → set_read r ≡ read_set set → set_read r ≡ read_for room set
unfolding read_for
read-four room set r e s = s ∙ rw (eq-eqb room 4 e)

pub read_short : (room : ℕ) (set : List ℕ) (r : Resumed) → (room ≡ 4 → ⊥) → set_read r ≡ not_read 9 → set_read r ≡ read_for room set
unfolding read_for
read_short room set r h s = s ∙ rw (ne_eqb room 4 h)

-- it was zeroed from its start
module _ (set venue message z : List ℕ) (zeroed : z ≡ take 0 message ++ replicate (length message - 0) 0) where
  -- the venue's memory is of another length
  pub reads_none : (length venue ≡ venue_size → ⊥) → resumes_as 9 venue z ≡ resume_hosted set venue message
  unfolding resume_hosted
  reads_none h = ap (resumes_as 9 venue) (zeros message z zeroed) ∙ rw (ne_eqb (length venue) venue_size h)

  -- the set is read or refused, and the venue's memory written anew
  module _ (size : length venue ≡ venue_size) (r : Resumed) (e : set_read r ≡ read_for (length z) set) (m : List ℕ) (p : m ≡ venue_bytes r.venue) where
    told : set_read r ≡ read_for (length message) set
    told = e ∙ ap (λ (k : ℕ). read_for k set) (long message z zeroed)

    pub reads_short : (length z ≡ 4 → ⊥) → resumes_as r.number m z ≡ resume_hosted set venue message
    unfolding resume_hosted
    reads_short h =
        ap₂ (resumes_as r.number) p (zeros message z zeroed)
        ∙ ap (λ (x : ReadSet). resumes_as x.number (venue_bytes x.venue) (replicate (length message) 0)) told
        ∙ rw (eq-eqb (length venue) venue_size size, ne_eqb (length message) 4 (λ f. h (long message z zeroed ∙ f)))

    -- and the message number put
    pub reads_all : length z ≡ 4 → (o : List ℕ) → o ≡ u32 r.message → resumes_as r.number m o ≡ resume_hosted set venue message
    unfolding resume_hosted
    reads_all four o q =
        let f : length message ≡ 4 = (let k = long message z zeroed in omega arith) in
        ap₂ (resumes_as r.number) p q
        ∙ ap (λ (x : ReadSet). resumes_as x.number (venue_bytes x.venue) (u32 x.message)) told
        ∙ rw (eq-eqb (length venue) venue_size size, eq-eqb (length message) 4 f)

-- Written and read ----------------------------------------------------------------------------

-- one message upon two memories that hold one venue
module _ (n room : ℕ) (bs : List ℕ) where
  held-call : (m : List ℕ) → length m ≡ venue_size → one_hosted m n room bs ≡ leaves m (one (venue_from m) n room bs)
  unfolding one_hosted
  held-call m size = rw (eq-eqb (length m) venue_size size)

  module _ (m k : List ℕ) (first : length m ≡ venue_size) (second : length k ≡ venue_size) (same : venue_from m ≡ venue_from k) where
    same_number : (one_hosted m n room bs).number ≡ (one_hosted k n room bs).number
    unfolding leaves
    same_number =
        ap (λ (h : Hosted). h.number) (held-call m first) ∙ ap (λ (v : Venue). (one v n room bs).returned.number) same
        ∙ ap (λ (h : Hosted). h.number) (sym (held-call k second))

    same-venue : venue_from (one_hosted m n room bs).venue ≡ venue_from (one_hosted k n room bs).venue
    same-venue = held_next m n room bs first ∙ ap (λ (v : Venue). (one v n room bs).returned.venue) same ∙ sym (held_next k n room bs second)

    same-report : (one_hosted m n room bs).report ≡ (one_hosted k n room bs).report
    unfolding leaves
    same-report =
        ap (λ (h : Hosted). h.report) (held-call m first) ∙ ap (λ (v : Venue). (one v n room bs).report) same
        ∙ ap (λ (h : Hosted). h.report) (sym (held-call k second))

module _ (memory : List ℕ) (number room : ℕ) (size : length memory ≡ venue_size) where
  abbrev v : Venue
  v = venue_from memory

  saved : save_hosted memory number room 4 ≡ saves_as (write_set number v room).number (write_set number v room).memory (u32 (write_set number v room).written)
  unfolding save_hosted
  saved = rw (eq-eqb (length memory) venue_size size)

  module _ (few : FourBytes number) (done : (write_set number v room).number ≡ 0) where
    -- a venue that is written has its fields in their widths
    fits : Declared v
    unfolding carries
    fits = declared v (record { shaped = held-shaped memory; is = and_l (sound v) (follows (suc number) v) (written-set number room v done).carries })

    again : Again memory number (resumes_as 0 (venue_bytes v) (u32 number))
    again =
        let e : venue_from (venue_bytes v) ≡ v = held_whole v fits in
        let size' : length (venue_bytes v) ≡ venue_size = venue-length v fits.sized in
        record {
          read = refl;
          venue = e;
          message = refl;
          next = λ n r bs. (same_number n r bs (venue_bytes v) memory size' size e, same-venue n r bs (venue_bytes v) memory size' size e, same-report n r bs (venue_bytes v) memory size' size e);
        }

    resumed : (venue message : List ℕ) → length venue ≡ venue_size → length message ≡ 4 →
        resume_hosted (write_set number v room).memory venue message ≡ resumes_as 0 (venue_bytes v) (u32 number)
    unfolding resume_hosted read_for
    resumed venue message a b =
        rw (eq-eqb (length venue) venue_size a, eq-eqb (length message) 4 b, reads-back number room v few (held-shaped memory) done)

pub held-again : HeldAgain
held-again memory venue message number room few size a b h =
    let s = saved memory number room size in
    let done : (write_set number (venue_from memory) room).number ≡ 0 = rw s at h in
    rw s (subst (Again memory number) (sym (resumed memory number room size few done venue message a b)) (again memory number room size few done))
