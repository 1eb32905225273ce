-- The messages of a session, put one after another.
use mathlib.Core.Path.{◌≡◌, refl, ap, ap₂, ◌∙◌, subst}
use mathlib.Core.List.{List, [], ◌∷◌, ◌++◌, append_assoc, append-nil}
use Prim.Native.Nat.{ℕ, suc, ◌+◌, ◌*◌, ◌≤◌, ◌<◌}
use native.Mathlib.Omega.{arith}
use lib.ListN.{length, take}
use Rattle.records.specs.Seen.{Seen, ◌plus◌, pasted, seen}
use Rattle.records.proofs.SeenLaws.{pasted_length, pasted-to, plus-in}
use Rattle.short_sessions.specs.Sessions.{Within}
use Rattle.short_sheets.specs.Short.{Stands, message_at, messages_of}
use Rattle.short_sheets.proofs.Listed.{listed}

-- bytes pasted after others
pub stands_on : (l m bs more : List ℕ) (at end : ℕ) → Stands bs l at → at + length more ≤ length l → seen m end ≡ seen (pasted l at more) (at + length more) →
    Stands (bs ++ more) m end
unfolding seen
stands_on l m bs more at end s h e =
    let a : end ≡ at + length more = ap (λ (w : Seen). w.at) e in
    let b : m ≡ pasted l at more = ap (λ (w : Seen). w.memory) e in
    let k = ap length b ∙ pasted_length l more at h in
    record {
      is = ap₂ take a b ∙ pasted-to l more at s.fits ∙ ap (λ (x : List ℕ). x ++ more) s.is;
      fits = omega arith;
    }

-- so many messages put from the start of a memory
pub record Put (count : ℕ) (bs memory : List ℕ) (end : ℕ) : Type 0 where
  pub stands : Stands bs memory end
  pub room-left : 63 ≤ length memory
  pub few : end ≤ 21 * count

pub put-none : (l : List ℕ) → 63 ≤ length l → Put 0 [] l 0
put-none l h = record { stands = record { is = refl; fits = omega arith }; room-left = h; few = omega arith }

pub put-more : (count p : ℕ) (l m bs : List ℕ) (at end : ℕ) → Put count bs l at → count < 3 → p < 12 → seen m end ≡ seen l at plus message_at p → Put (suc count) (bs ++ message_at p) m end
unfolding seen
put-more count p l m bs at end s c h e =
    let x = (listed p h).few_bytes in
    let y = s.few in
    let z = s.room-left in
    let w : at + length (message_at p) ≤ length l = omega arith in
    let q = e ∙ plus-in l (message_at p) at w in
    let a : end ≡ at + length (message_at p) = ap (λ (w : Seen). w.at) q in
    let k = ap (λ (w : Seen). length w.memory) q ∙ pasted_length l (message_at p) at w in
    record {
      stands = stands_on l m bs (message_at p) at end s.stands w q;
      room-left = omega arith;
      few = omega arith;
    }

-- The messages of each session
pub of_none : (s : List ℕ) (l : List ℕ) → s ≡ [] → 63 ≤ length l → Stands (messages_of s) l 0
unfolding messages_of
of_none s l e h = rw e (put-none l h).stands

module _ (s : List ℕ) (l : List ℕ) (h : 63 ≤ length l) where
  pub of_one : (a : ℕ) → s ≡ a ∷ [] → Within 12 s → (m : List ℕ) (i : ℕ) → seen m i ≡ seen l 0 plus message_at a → Stands (messages_of s) m i
  unfolding messages_of Within
  of_one a e w m i x =
      let v = subst (Within 12) e w in
      rw (e, append-nil (message_at a)) (put-more 0 a l m [] 0 i (put-none l h) (omega arith) v.0 x).stands

  pub of_two : (a b : ℕ) → s ≡ a ∷ b ∷ [] → Within 12 s → (m n : List ℕ) (i j : ℕ) → seen m i ≡ seen l 0 plus message_at a → seen n j ≡ seen m i plus message_at b →
      Stands (messages_of s) n j
  unfolding messages_of Within
  of_two a b e w m n i j x y =
      let v = subst (Within 12) e w in
      let p = put-more 0 a l m [] 0 i (put-none l h) (omega arith) v.0 x in
      rw (e, append-nil (message_at b)) (put-more 1 b m n (message_at a) i j p (omega arith) v.1.0 y).stands

  pub of_three : (a b c : ℕ) → s ≡ a ∷ b ∷ c ∷ [] → Within 12 s → (m n o : List ℕ) (i j k : ℕ) → seen m i ≡ seen l 0 plus message_at a → seen n j ≡ seen m i plus message_at b →
      seen o k ≡ seen n j plus message_at c → Stands (messages_of s) o k
  unfolding messages_of Within
  of_three a b c e w m n o i j k x y z =
      let v = subst (Within 12) e w in
      let p = put-more 0 a l m [] 0 i (put-none l h) (omega arith) v.0 x in
      let q = put-more 1 b m n (message_at a) i j p (omega arith) v.1.0 y in
      rw (e, append-nil (message_at c), ← append_assoc (message_at a) (message_at b) (message_at c))
      (put-more 2 c n o (message_at a ++ message_at b) j k q (omega arith) v.1.1.0 z).stands
