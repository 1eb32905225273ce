-- The settings told to a host: their bytes at the front of a memory of zeros.
use mathlib.Core.Path.{◌≡◌, refl, sym, ap, ap₂, ◌∙◌}
use mathlib.Core.List.{List, [], ◌∷◌, ◌++◌}
use Prim.Native.Nat.{ℕ, zero, suc, ◌+◌, ◌-◌, ◌≤◌, ◌<◌}
use native.Mathlib.Nat.{sub-zero}
use native.Mathlib.Omega.{arith}
use lib.ListN.{length, take, drop, replicate, length-append, length-replicate}
use borrow.Author.Tests.{le-leb, lt-leb, eq-eqb, ne_eqb}
use Rattle.rules.specs.declared.Venue.{Venue}
use Rattle.rules.specs.declared.Settings.{Settings}
use Rattle.rules.specs.Sound.{sound}
use Rattle.rules.specs.Calls.{settings}
use Rattle.rules.proofs.Cases.{if-by}
use Rattle.records.specs.Seen.{Seen, seen, pasted, ◌plus◌}
use Rattle.records.proofs.SeenLaws.{plus-in, pasted_length, pasted-pasted}
use Rattle.venue_bytes.specs.Held.{venue_size, venue_from}
use Rattle.engine.specs.Hosts.{settings_bytes, told, settings_hosted}

-- Bytes after bytes ---------------------------------------------------------------------------

module _ (l m o a b : List ℕ) (at end : ℕ) (fits : length a + length b ≤ length l) (first : seen m at ≡ seen l 0 plus a) (then : seen o end ≡ seen m at plus b) where
  once : seen m at ≡ seen (pasted l 0 a) (0 + length a)
  once = first ∙ plus-in l a 0 (omega arith)

  twice : seen o end ≡ seen (pasted (pasted l 0 a) (0 + length a) b) (0 + length a + length b)
  twice =
      let n = pasted_length l a 0 (omega arith) in
      then ∙ ap (λ (w : Seen). w plus b) once ∙ plus-in (pasted l 0 a) b (0 + length a) (omega arith)

  pub put_both : o ≡ pasted l 0 (a ++ b)
  unfolding seen
  put_both = ap (λ (w : Seen). w.memory) twice ∙ pasted-pasted l a b 0 (omega arith)

-- What a host is told -------------------------------------------------------------------------

zeros-left : (k n : ℕ) → drop {A = ℕ} k (replicate n 0) ≡ replicate (n - k) 0
zeros-left zero n = ap (λ (i : ℕ). replicate i 0) (sym (sub-zero n))
zeros-left (suc k) zero = let e : 0 ≡ 0 - suc k = omega arith in ap (λ (i : ℕ). replicate {A = ℕ} i 0) e
zeros-left (suc k) (suc n) = let e : n - k ≡ suc n - suc k = omega arith in zeros-left k n ∙ ap (λ (i : ℕ). replicate {A = ℕ} i 0) e

-- there are nine bytes
settings-long : (v : Venue) (n : ℕ) → length (settings v n).increments ≡ 8
unfolding settings
settings-long v n = if-by (λ (s : Settings). length s.increments ≡ 8) (sound v) (λ _. refl) (λ _. refl)

bytes-long : (v : Venue) (n : ℕ) → length (settings_bytes (settings v n)) ≡ 9
unfolding settings_bytes
bytes-long v n = length-append (settings v n).increments ((settings v n).percent ∷ []) ∙ ap (λ (k : ℕ). k + 1) (settings-long v n)

-- a memory zeroed from its start
module _ (l z : List ℕ) (zeroed : z ≡ take 0 l ++ replicate (length l - 0) 0) where
  pub zeros : z ≡ replicate (length l) 0
  zeros = zeroed ∙ ap (λ (k : ℕ). replicate k 0) (sub-zero (length l))

  pub long : length z ≡ length l
  long = ap length zeros ∙ length-replicate (length l) 0

-- the memory for them was
module _ (memory : List ℕ) (n : ℕ) (l z : List ℕ) (zeroed : z ≡ take 0 l ++ replicate (length l - 0) 0) where
  -- the venue's memory is of another length
  pub told_none : (length memory ≡ venue_size → ⊥) → told 9 z ≡ settings_hosted memory n (length l)
  unfolding settings_hosted
  told_none h = ap (told 9) (zeros l z zeroed) ∙ rw (ne_eqb (length memory) venue_size h)

  module _ (size : length memory ≡ venue_size) where
    -- theirs is too short
    pub told-short : length z < 9 → told 9 z ≡ settings_hosted memory n (length l)
    unfolding settings_hosted
    told-short h = ap (told 9) (zeros l z zeroed) ∙ rw (eq-eqb (length memory) venue_size size, lt-leb 9 (length l) (let e = long l z zeroed in omega arith))

    -- it holds them
    pub told-all : 9 ≤ length z → (v : Venue) → v ≡ venue_from memory → (s : Settings) → s ≡ settings v n → (o : List ℕ) → o ≡ pasted z 0 (settings_bytes s) →
        told s.number o ≡ settings_hosted memory n (length l)
    unfolding settings_hosted pasted
    told-all h v e s f o p =
        let g : s ≡ settings (venue_from memory) n = f ∙ ap (λ (w : Venue). settings w n) e in
        let k = bytes-long (venue_from memory) n in
        let j : 0 + length (settings_bytes (settings (venue_from memory) n)) ≡ 9 = omega arith in
        ap₂ told (ap (λ (x : Settings). x.number) g)
        (p ∙ ap₂ (λ (x : List ℕ) (y : Settings). settings_bytes y ++ drop (0 + length (settings_bytes y)) x) (zeros l z zeroed) g
        ∙ ap (λ (i : ℕ). settings_bytes (settings (venue_from memory) n) ++ drop i (replicate (length l) 0)) j
        ∙ ap (λ (x : List ℕ). settings_bytes (settings (venue_from memory) n) ++ x) (zeros-left 9 (length l)))
        ∙ rw (eq-eqb (length memory) venue_size size, le-leb 9 (length l) (let q = long l z zeroed in omega arith))
