-- How many sessions are left after one: a loop over all of them ends.
use mathlib.Core.Path.{◌≡◌, refl, sym, ap, ◌∙◌}
use mathlib.Core.Bool.{Bool, true, false}
use mathlib.Core.List.{List, [], ◌∷◌}
use mathlib.Core.Option.{Option, none, some}
use Prim.Native.Nat.{ℕ, zero, suc, ◌+◌, ◌-◌, ◌*◌, ◌<◌}
use native.Mathlib.Omega.{arith}
use native.Mathlib.Nat.{suc-mul}
use borrow.Author.Tests.{ltb-true, ltb-false}
use lib.Dec.{ltb}
use lib.ListN.{length, length-replicate, replicate}
use Rattle.short_sessions.specs.Sessions.{following, of_length, raised}
use Rattle.short_sessions.proofs.Listing.{beginning-number}
use Rattle.short_sessions.proofs.Following.{at_last, goes-up, longer, longest, no-places, of_none, raised-length, same_length, stays}

-- how many sessions there are of n messages
number : (k n : ℕ) → ℕ
number k n = length (of_length k n)

number-suc : (k n : ℕ) → number k (suc n) ≡ k * number k n
unfolding number of_length
number-suc k n = beginning-number 0 k (of_length k n)

-- how many of the same length come after one
after : (k : ℕ) → List ℕ → ℕ
after k [] = 0
after k (p ∷ s) = (k - suc p) * number k (length s) + after k s

-- how many have more than n messages
over : (k n : ℕ) → ℕ
over k zero = number k 1 + (number k 2 + number k 3)
over k (suc zero) = number k 2 + number k 3
over k (suc (suc zero)) = number k 3
over k (suc (suc (suc n))) = 0

pub left : (k : ℕ) → List ℕ → ℕ
left k s = after k s + over k (length s)

-- after the last of a length there is none
none_after : (k : ℕ) (s : List ℕ) → raised k s ≡ none → after k s ≡ 0
unfolding after
none_after k [] e = refl
none_after k (p ∷ s) e = go (raised k s) refl (ltb (suc p) k) refl (none_after k s)
  where
    go : (o : Option (List ℕ)) → raised k s ≡ o → (b : Bool) → ltb (suc p) k ≡ b → (raised k s ≡ none → after k s ≡ 0) → (k - suc p) * number k (length s) + after k s ≡ 0
    go (some t) x b y below = cc (stays k p s t x)
    go none x true y below = cc (goes-up k p s x (ltb-true (suc p) k y))
    go none x false y below =
        let z : k - suc p ≡ 0 = (let h = ltb-false (suc p) k y in omega arith) in
        let u = below x in
        rw z (omega arith)

-- after the first come all the others
after_first : (k n : ℕ) → suc (after (suc k) (replicate n 0)) ≡ number (suc k) n
unfolding after
after_first k zero = unfold number of_length in refl
after_first k (suc n) =
    let a = after_first k n in
    let b = number-suc (suc k) n in
    let c = suc-mul k (number (suc k) n) in
    let d : suc k - 1 ≡ k = omega arith in
    let l = length-replicate {A = ℕ} n 0 in
    rw (l, d) (omega arith)

rise : (k p n : ℕ) → suc p < k → (k - suc p) * number k n + 0 ≡ suc ((k - suc (suc p)) * number k n + after k (replicate n 0))
rise zero p n h = absurd (omega arith)
rise (suc k) p n h =
    let a = after_first k n in
    let b = suc-mul (suc k - suc (suc p)) (number (suc k) n) in
    let c : suc k - suc p ≡ suc (suc k - suc (suc p)) = omega arith in
    rw c (omega arith)

-- one less is left after the next of the same length
after_next : (k : ℕ) (s t : List ℕ) → raised k s ≡ some t → after k s ≡ suc (after k t)
unfolding after
after_next k [] t e = cc (no-places k)
after_next k (p ∷ s) t e = go (raised k s) refl (ltb (suc p) k) refl (after_next k s)
  where
    go : (o : Option (List ℕ)) → raised k s ≡ o → (b : Bool) → ltb (suc p) k ≡ b → ((u : List ℕ) → raised k s ≡ some u → after k s ≡ suc (after k u)) →
        (k - suc p) * number k (length s) + after k s ≡ suc (after k t)
    go (some u) x b y below =
        let z : t ≡ p ∷ u = cc (stays k p s u x) in
        let a = below u x in
        rw (z, raised-length k s u x) (omega arith)
    go none x true y below =
        let h = ltb-true (suc p) k y in
        let z : t ≡ suc p ∷ replicate (length s) 0 = cc (goes-up k p s x h) in
        let l = length-replicate {A = ℕ} (length s) 0 in
        rw (z, none_after k s x, l) (rise k p (length s) h)
    go none x false y below = cc (at_last k p s x (ltb-false (suc p) k y))

over-suc : (k n : ℕ) → n < 3 → over k n ≡ number k (suc n) + over k (suc n)
unfolding over
over-suc k zero h = refl
over-suc k (suc zero) h = refl
over-suc k (suc (suc zero)) h = omega arith
over-suc k (suc (suc (suc n))) h = absurd (omega arith)

pub one_less : (k : ℕ) (s t : List ℕ) → following k s ≡ some t → left k s ≡ suc (left k t)
unfolding left
one_less k s t e = go k e (raised k s) refl (ltb (length s) 3) refl
  where
    go : (k : ℕ) → following k s ≡ some t → (o : Option (List ℕ)) → raised k s ≡ o → (b : Bool) → ltb (length s) 3 ≡ b → after k s + over k (length s) ≡ suc (after k t + over k (length t))
    go k e (some u) x b y =
        let z : t ≡ u = cc (same_length k s u x) in
        let a = after_next k s t (x ∙ ap some (sym z)) in
        rw (raised-length k s t (x ∙ ap some (sym z))) (omega arith)
    go zero e none x b y = cc (of_none s)
    go (suc k) e none x true y =
        let h = ltb-true (length s) 3 y in
        let z : t ≡ replicate (suc (length s)) 0 = cc (longer (suc k) s x (omega arith) h) in
        let l : length t ≡ suc (length s) = ap length z ∙ length-replicate (suc (length s)) 0 in
        let a = after_first k (suc (length s)) in
        let b = none_after (suc k) s x in
        let c = over-suc (suc k) (length s) h in
        let d = ap (after (suc k)) z in
        rw l (omega arith)
    go (suc k) e none x false y = cc (longest (suc k) s x (ltb-false (length s) 3 y))
