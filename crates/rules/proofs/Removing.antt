-- Removal of legging orders: how many places there are, and what stays when a parent's orders go.
use Rattle.std.specs.Prelude.{if◌then◌else◌}
use mathlib.Core.Path.{◌∙◌, ◌≡◌, ap, refl, sym}
use mathlib.Core.Bool.{Bool, false, false≢true, true, true≢false}
use mathlib.Core.Logic.{◌≢◌}
use mathlib.Core.List.{List, [], ◌∷◌}
use Prim.Native.Nat.{suc, zero, ℕ}
use lib.Dec.{eqb}
use lib.ListN.{get_or, length}
use borrow.Author.Tests.{eqb-false}
use Rattle.rules.specs.declared.Cause.{Cause}
use Rattle.rules.specs.declared.Legging.{Legging}
use Rattle.rules.specs.declared.Verdict.{Verdict}
use Rattle.rules.specs.declared.Verdict.TheVariants.{Fails, Stands}
use Rattle.rules.specs.Base.{held}
use Rattle.rules.specs.Words.{no_legging}
use Rattle.rules.specs.Removal.{fail_if, stay, stayers}

pub length-stayers : (f : ℕ → Legging → Verdict) (n : ℕ) (ls : List Legging) → length (stayers f n ls) ≡ length ls
unfolding stayers
length-stayers f n [] = refl
length-stayers f n (l ∷ ls) = ap suc (length-stayers f (suc n) ls)

gone-free : {A : Type 0} (l : Legging) → held (if held l.quantity then no_legging else l).quantity ≡ true → A
gone-free {A} l = go (held l.quantity) refl
  where
    go : (b : Bool) → held l.quantity ≡ b → held (if b then no_legging else l).quantity ≡ true → A
    go true e t = absurd (false≢true t)
    go false e t = absurd (true≢false (sym t ∙ e))

-- what stays when a parent's orders go is of another parent
pub stay_of : (id : ℕ) (c : Cause) (n : ℕ) (ls : List Legging) (i : ℕ) → let r = get_or (stayers (λ n l. fail_if (eqb l.parent id) c) n ls) i no_legging in
    held r.quantity ≡ true → (r ≡ get_or ls i no_legging) × (r.parent ≢ id)
unfolding stayers stay fail_if
stay_of id c n [] i t = absurd (false≢true t)
stay_of id c n (l ∷ ls) zero t = go (eqb l.parent id) refl t
  where
    go : (b : Bool) → eqb l.parent id ≡ b →
        held (stay (if b then Fails c else Stands) l).quantity ≡ true → (stay (if b then Fails c else Stands) l ≡ l) × ((stay (if b then Fails c else Stands) l).parent ≢ id)
    go true e t = gone-free l t
    go false e t = (refl, eqb-false l.parent id e)
stay_of id c n (l ∷ ls) (suc i) t = stay_of id c (suc n) ls i t
