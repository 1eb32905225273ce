-- Laws of what is written of a set: bytes after bytes, none, and what a write of them leaves.
use Rattle.std.specs.Prelude.{if◌then◌else◌}
use mathlib.Core.Path.{◌≡◌, refl, sym, ap, ap₂, ◌∙◌}
use mathlib.Core.Bool.{Bool, true, false}
use mathlib.Core.List.{List, [], ◌++◌, append_assoc, append-nil}
use Prim.Native.Nat.{ℕ, suc, ◌+◌, ◌≤◌, ◌<◌}
use native.Mathlib.Omega.{arith}
use lib.Dec.{leb}
use lib.ListN.{length, take, length-append}
use borrow.Author.Tests.{le-leb, lt-leb, leb-true, leb-false}
use Rattle.records.specs.Seen.{Seen, seen, pasted, ◌plus◌}
use Rattle.records.proofs.SeenLaws.{plus-in, plus-out, pasted-to, pasted_length}
use Rattle.set_parts.specs.SetMemory.{SetMemory, over, set_memory, ◌adds◌}
use Rattle.set_parts.specs.Parts.{record_if}

-- A position, and bytes more ------------------------------------------------------------------

memory-in : (l : List ℕ) (at : ℕ) → at ≤ length l → set_memory l at ≡ record { room = length l; position = at; front = take at l }
unfolding set_memory
memory-in l at h = rw (le-leb _ _ h)

memory-over : (l : List ℕ) (at : ℕ) → length l < at → set_memory l at ≡ over (length l)
unfolding set_memory
memory-over l at h = rw (lt-leb _ _ h)

adds-in : (w : SetMemory) (bs : List ℕ) → w.position + length bs ≤ w.room →
    w adds bs ≡ record { room = w.room; position = w.position + length bs; front = w.front ++ bs }
unfolding ◌adds◌
adds-in w bs h = rw (le-leb _ _ h)

adds-over : (w : SetMemory) (bs : List ℕ) → w.room < w.position + length bs → w adds bs ≡ over w.room
unfolding ◌adds◌
adds-over w bs h = rw (lt-leb _ _ h)

-- past the end for good
over-adds : (room : ℕ) (bs : List ℕ) → over room adds bs ≡ over room
unfolding over
over-adds room bs = adds-over (over room) bs (omega arith)

-- no bytes
pub adds_none : (l : List ℕ) (at : ℕ) → set_memory l at adds [] ≡ set_memory l at
adds_none l at = go (leb at (length l)) refl
  where
    go : (t : Bool) → leb at (length l) ≡ t → set_memory l at adds [] ≡ set_memory l at
    go true e =
        let h : at ≤ length l = leb-true _ _ e in
        let z : at + 0 ≡ at = omega arith in
        ap (λ (w : SetMemory). w adds []) (memory-in l at h) ∙ adds-in _ [] (omega arith)
        ∙ ap₂ (λ (n : ℕ) (x : List ℕ). record { room = length l; position = n; front = x }) z (append-nil (take at l))
        ∙ sym (memory-in l at h)
    go false e =
        let h = memory-over l at (leb-false _ _ e) in
        ap (λ (w : SetMemory). w adds []) h ∙ over-adds _ [] ∙ sym h

-- bytes after bytes
pub adds-adds : (w : SetMemory) (a b : List ℕ) → w adds a adds b ≡ w adds (a ++ b)
adds-adds w a b = go (leb (w.position + length a) w.room) refl (leb (w.position + length (a ++ b)) w.room) refl
  where
    n : length (a ++ b) ≡ length a + length b
    n = length-append a b

    go : (t : Bool) → leb (w.position + length a) w.room ≡ t → (u : Bool) → leb (w.position + length (a ++ b)) w.room ≡ u → w adds a adds b ≡ w adds (a ++ b)
    go true e true f =
        let h = leb-true (w.position + length a) w.room e in
        let k = leb-true (w.position + length (a ++ b)) w.room f in
        let z : w.position + length a + length b ≡ w.position + length (a ++ b) = omega (arith, n) in
        ap (λ (x : SetMemory). x adds b) (adds-in w a h) ∙ adds-in _ b (omega (arith, n))
        ∙ ap₂ (λ (p : ℕ) (x : List ℕ). record { room = w.room; position = p; front = x }) z (append_assoc w.front a b)
        ∙ sym (adds-in w (a ++ b) k)
    go true e false f =
        let h = leb-true (w.position + length a) w.room e in
        let k = leb-false (w.position + length (a ++ b)) w.room f in
        ap (λ (x : SetMemory). x adds b) (adds-in w a h) ∙ adds-over _ b (omega (arith, n)) ∙ sym (adds-over w (a ++ b) k)
    go false e u f =
        let h = leb-false (w.position + length a) w.room e in
        ap (λ (x : SetMemory). x adds b) (adds-over w a h) ∙ over-adds _ b ∙ sym (adds-over w (a ++ b) (omega (arith, n)))

-- the same bytes
pub adds_same : (x w : SetMemory) (a b : List ℕ) → x ≡ w adds a → a ≡ b → x ≡ w adds b
adds_same x w a b p e = p ∙ ap (λ (y : List ℕ). w adds y) e

-- one write after another
pub adds_then : (x v w : SetMemory) (a b : List ℕ) → v ≡ w adds a → x ≡ v adds b → x ≡ w adds (a ++ b)
adds_then x v w a b p q = q ∙ ap (λ (y : SetMemory). y adds b) p ∙ adds-adds w a b

-- a record where there is one
pub absent : (l : List ℕ) (at : ℕ) (t : Bool) (r : List ℕ) → t ≡ false → set_memory l at ≡ set_memory l at adds record_if t r
unfolding record_if
absent l at t r e = rw e (sym (adds_none l at))

pub present : (x w : SetMemory) (t : Bool) (r : List ℕ) → t ≡ true → x ≡ w adds r → x ≡ w adds record_if t r
unfolding record_if
present x w t r e p = rw e p

-- A write -------------------------------------------------------------------------------------

pub wrote : (l m bs rs : List ℕ) (at end : ℕ) → seen m end ≡ seen l at plus bs → bs ≡ rs → set_memory m end ≡ set_memory l at adds rs
unfolding seen
wrote l m bs rs at end e same = go (leb (at + length bs) (length l)) refl ∙ ap (λ (x : List ℕ). set_memory l at adds x) same
  where
    memory-is : (n : List ℕ) (p : ℕ) → seen m end ≡ seen n p → set_memory m end ≡ set_memory n p
    memory-is n p q = ap₂ set_memory (ap (λ (w : Seen). w.memory) q) (ap (λ (w : Seen). w.at) q)

    go : (t : Bool) → leb (at + length bs) (length l) ≡ t → set_memory m end ≡ set_memory l at adds bs
    go true f =
        let h : at + length bs ≤ length l = leb-true _ _ f in
        let z : length (pasted l at bs) ≡ length l = pasted_length l bs at h in
        memory-is _ _ (e ∙ plus-in l bs at h) ∙ memory-in _ _ (omega arith)
        ∙ ap₂ (λ (n : ℕ) (x : List ℕ). record { room = n; position = at + length bs; front = x }) z (pasted-to l bs at (omega arith))
        ∙ sym (ap (λ (w : SetMemory). w adds bs) (memory-in l at (omega arith)) ∙ adds-in _ bs h)
    go false f =
        let h : length l < at + length bs = leb-false _ _ f in
        memory-is _ _ (e ∙ plus-out l bs at h) ∙ memory-over _ _ (omega arith) ∙ sym (not-added h)
      where
        not-added : length l < at + length bs → set_memory l at adds bs ≡ over (length l)
        not-added h = by (leb at (length l)) refl
          where
            by : (t : Bool) → leb at (length l) ≡ t → set_memory l at adds bs ≡ over (length l)
            by true k = ap (λ (w : SetMemory). w adds bs) (memory-in l at (leb-true _ _ k)) ∙ adds-over _ bs h
            by false k = ap (λ (w : SetMemory). w adds bs) (memory-over l at (leb-false _ _ k)) ∙ over-adds _ bs

-- A part, record by record ----------------------------------------------------------------------

-- `whole` is to be added to the memory l₀ at `at`, and `left` is left of it
abbrev pub Left : (whole left l₀ : List ℕ) (at : ℕ) (l : List ℕ) (pos : ℕ) → Type 0
Left whole left l₀ at l pos = set_memory l pos adds left ≡ set_memory l₀ at adds whole

-- some bytes of what is left
pub left-next : (whole left next rest l₀ l m : List ℕ) (at pos end : ℕ) → Left whole left l₀ at l pos → left ≡ next ++ rest → set_memory m end ≡ set_memory l pos adds next →
    Left whole rest l₀ at m end
left-next whole left next rest l₀ l m at pos end i e p =
    ap (λ (w : SetMemory). w adds rest) p ∙ adds-adds (set_memory l pos) next rest ∙ ap (λ (x : List ℕ). set_memory l pos adds x) (sym e) ∙ i

-- nothing is left
pub left-none : (whole left l₀ l : List ℕ) (at pos : ℕ) → Left whole left l₀ at l pos → left ≡ [] → set_memory l pos ≡ set_memory l₀ at adds whole
left-none whole left l₀ l at pos i e = sym (adds_none l pos) ∙ ap (λ (x : List ℕ). set_memory l pos adds x) (sym e) ∙ i

-- the memory has as many bytes as before
memory-room : (l : List ℕ) (at : ℕ) → (set_memory l at).room ≡ length l
unfolding set_memory over
memory-room l at = go (leb at (length l))
  where
    go : (t : Bool) → (if t then record { room = length l; position = at; front = take at l } else over (length l)).room ≡ length l
    go true = refl
    go false = refl

adds-room : (w : SetMemory) (bs : List ℕ) → (w adds bs).room ≡ w.room
unfolding ◌adds◌ over
adds-room w bs = go (leb (w.position + length bs) w.room)
  where
    go : (t : Bool) → (if t then record { room = w.room; position = w.position + length bs; front = w.front ++ bs } else over w.room).room ≡ w.room
    go true = refl
    go false = refl

-- The whole -------------------------------------------------------------------------------------

module _ (l m bs : List ℕ) (end : ℕ) (e : set_memory m end ≡ set_memory l 0 adds bs) where
  at_front : length bs ≤ length l → set_memory l 0 adds bs ≡ record { room = length l; position = length bs; front = bs }
  at_front h =
      let z : 0 + length bs ≡ length bs = omega arith in
      ap (λ (w : SetMemory). w adds bs) (memory-in l 0 (omega arith)) ∙ adds-in _ bs (omega arith)
      ∙ ap (λ (p : ℕ). record { room = length l; position = p; front = bs }) z

  past-front : length l < length bs → set_memory l 0 adds bs ≡ over (length l)
  past-front h = ap (λ (w : SetMemory). w adds bs) (memory-in l 0 (omega arith)) ∙ adds-over _ bs (omega arith)

  pub room-is : length m ≡ length l
  room-is = sym (memory-room m end) ∙ ap (λ (w : SetMemory). w.room) e ∙ adds-room (set_memory l 0) bs ∙ memory-room l 0

  -- a position within the memory: the bytes fit, and stand up to it
  pub record Stands : Type 0 where
    pub fits : length bs ≤ length l
    pub position : end ≡ length bs
    pub bytes : take end m ≡ bs

  -- and one past its end: they do not
  pub stands : end ≤ length m → Stands
  unfolding over
  stands h = go (leb (length bs) (length l)) refl
    where
      go : (t : Bool) → leb (length bs) (length l) ≡ t → Stands
      go true f =
          let k : length bs ≤ length l = leb-true _ _ f in
          let z = sym (memory-in m end h) ∙ e ∙ at_front k in
          record { fits = k; position = ap (λ (w : SetMemory). w.position) z; bytes = ap (λ (w : SetMemory). w.front) z }
      go false f =
          let z = sym (memory-in m end h) ∙ e ∙ past-front (leb-false _ _ f) in
          let y : end ≡ suc (length l) = ap (λ (w : SetMemory). w.position) z in
          absurd (omega (arith, room-is))

  pub does-not-fit : length m < end → length l < length bs
  unfolding over
  does-not-fit h = go (leb (length bs) (length l)) refl
    where
      go : (t : Bool) → leb (length bs) (length l) ≡ t → length l < length bs
      go true f =
          let k : length bs ≤ length l = leb-true _ _ f in
          let z = sym (memory-over m end h) ∙ e ∙ at_front k in
          let y : suc (length m) ≡ length bs = ap (λ (w : SetMemory). w.position) z in
          absurd (omega (arith, room-is))
      go false f = leb-false _ _ f
