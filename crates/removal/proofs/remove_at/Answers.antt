-- `removal::remove_at` meets its contract.
use mathlib.Core.Path.{refl}
use mathlib.Core.Bool.{◌||◌}
use native.Mathlib.Omega.{arith}
use lib.Dec.{eqb}
use Rattle.rules.specs.Removal.{fail_if}
use Rattle.removal.proofs.RemovalLaws.{two_gone, at_one, at-two, at-neither}
use Rattle.removal.proofs.remove_at.Goals as goal

pub returns-then-n2-n1-clause-result_after : goal.returns-then-n2-n1-clause-result_after
returns-then-n2-n1-clause-result_after c =
    let s = c
    in
    let a = s.args in
    (two_gone (λ m _. fail_if (eqb m a.n1 || eqb m a.n2) a.cause) _ _ _ _ c.told-numbers _ _ _
    (omega arith) a.n2 a.n1
    c.if-n2-n1.true s.requires.first (λ _. at-two
    a.n1 a.n2 a.n2 a.cause refl) (λ _. at_one a.n1 a.n2 a.n1 a.cause refl) (λ m _ p q. at-neither a.n1 a.n2 m a.cause q p)
    (c.remove_one-pos.ensures.place_after, c.remove_one-pos.ensures.counts) _ _ _
    (omega arith) (c.remove_one-then-n2-n1.ensures.place_after, c.remove_one-then-n2-n1.ensures.counts)).0

pub returns-clause-result_after : goal.returns-clause-result_after
returns-clause-result_after c =
    let s = c
    in
    let a = s.args in
    let n = c.if-n1-n2.false in
    (two_gone (λ m _. fail_if (eqb m a.n1 || eqb m a.n2) a.cause) _ _ _ _ c.told-numbers _ _ _
    (omega arith) a.n1 a.n2 (omega (arith, n))
    s.requires.second (λ _. at_one a.n1 a.n2 a.n1 a.cause refl) (λ _. at-two a.n1 a.n2 a.n2 a.cause refl) (λ m _ p q. at-neither a.n1
    a.n2 m a.cause p q) (c.remove_one-pos-2.ensures.place_after, c.remove_one-pos-2.ensures.counts) _ _ _
    (omega arith) (c.remove_one-2.ensures.place_after, c.remove_one-2.ensures.counts)).0
