-- `cross_makers::first_cross` meets its contract.
use borrow.Author.Rules.{rules}
use mathlib.Core.Path.{◌≡◌, sym, ap, subst, ◌∙◌}
use Prim.Native.Nat.{ℕ, ◌-◌, ◌≤◌}
use native.Mathlib.Omega.{arith}
use Rattle.rules.specs.declared.Complex.{Complex}
use Rattle.rules.specs.Base.{ranked, first_from}
use Rattle.rules.specs.Complex.{crosses, limit_then_id}
use Rattle.places.specs.Layout.{upto, complexes_used, complex_in, venue_of}
use Rattle.places.proofs.Parts.{complexes-few}
use Rattle.levels.specs.Grid.{LegsIn}
use Rattle.prices.proofs.Prices.{legs-in}
use Rattle.prices.specs.Picks.{choice_of}
use Rattle.cross_makers.specs.Picks.{picked_of}
use Rattle.levels.proofs.Scanning.{scan-start, scan-past, scan-join}
use Rattle.cross_makers.proofs.Candidates.{off, on, first-crossed}
use Rattle.cross_makers.proofs.Keys.{cross-key}
use Rattle.cross_makers.proofs.first_cross.Goals as goal

pub loop-i-init : goal.loop-i-init
unfolding picked_of choice_of
loop-i-init c =
    let a = c.args in
    scan-start (crosses (venue_of a.numbers.now) a.c) limit_then_id (complex_in a.numbers.now) _ _ (omega (arith, c.complexes_used-n.ensures.0))

pub cross_key_at-requires : goal.cross_key_at-requires
cross_key_at-requires c = let z = complexes-few c.args.numbers.now in
    omega arith

pub loop-i-preserved-then-not-is_either : goal.loop-i-preserved-then-not-is_either
loop-i-preserved-then-not-is_either c =
    let a = c.args in
    let h = c.loop-i-test.true in
    let u : c.loop-i.i ≤ complexes_used a.numbers.now = omega (arith, c.loop-i.auto.i, c.complexes_used-n.ensures.0) in
    scan-past (crosses (venue_of a.numbers.now) a.c) limit_then_id (complex_in a.numbers.now) c.loop-i.i (complexes_used a.numbers.now) h u _ c.loop-i.invariant
    (cross-key a.c (complex_in a.numbers.now (c.loop-i.i - 1)) (legs-in a.numbers.now (c.loop-i.i - 1)) _ _ _ c.cross_key_at.ensures
    c.facing_key-straight.ensures
    c.facing_key-turned.ensures (off _ _ c.is_either.ensures c.if-not-is_either.true-raw) (venue_of a.numbers.now))

pub complex_at-m-requires : goal.complex_at-m-requires
complex_at-m-requires c = let z = complexes-few c.args.numbers.now in
    omega arith

pub can_cross-requires : goal.can_cross-requires
can_cross-requires c = let p = c.requires in
    record { right = p.right; legs = p.legs; others = subst LegsIn (sym c.complex_at-m.ensures) (legs-in c.args.numbers.now _) }

pub loop-i-preserved-then-not-can_cross : goal.loop-i-preserved-then-not-can_cross
loop-i-preserved-then-not-can_cross c =
    let a = c.args in
    let h = c.loop-i-test.true in
    let u : c.loop-i.i ≤ complexes_used a.numbers.now = omega (arith, c.loop-i.auto.i, c.complexes_used-n.ensures.0) in
    scan-past (crosses (venue_of a.numbers.now) a.c) limit_then_id (complex_in a.numbers.now) c.loop-i.i (complexes_used a.numbers.now) h u _ c.loop-i.invariant
    (ap (crosses (venue_of a.numbers.now) a.c) (sym c.complex_at-m.ensures) ∙ off _ _ c.can_cross.ensures c.if-not-can_cross.true-raw)

pub loop-i-preserved : goal.loop-i-preserved
unfolding picked_of
loop-i-preserved c =
    let a = c.args in
    let h = c.loop-i-test.true in
    let u : c.loop-i.i ≤ complexes_used a.numbers.now = omega (arith, c.loop-i.auto.i, c.complexes_used-n.ensures.0) in
    scan-join (crosses (venue_of a.numbers.now) a.c) limit_then_id (complex_in a.numbers.now) c.loop-i.i (complexes_used a.numbers.now) h u _ c.loop-i.invariant _
    (ap (crosses (venue_of a.numbers.now) a.c) (sym c.complex_at-m.ensures) ∙ on _ _ c.can_cross.ensures c.if-not-can_cross.false-raw)
    (c.better-best.ensures limit_then_id (λ a r p. p) ∙ ap (λ (m : Complex). ranked limit_then_id (c.loop-i.i - 1) m (picked_of c.loop-i.best)) c.complex_at-m.ensures)

pub returns : goal.returns
returns c =
    let a = c.args in
    let z : c.loop-i.i ≡ 0 = search rules in
    c.loop-i.invariant
    ∙ ap (λ (k : ℕ). first_from (crosses (venue_of a.numbers.now) a.c) limit_then_id k (upto (complex_in a.numbers.now) k (complexes_used a.numbers.now - k))) z
    ∙ first-crossed a.numbers.now a.c
