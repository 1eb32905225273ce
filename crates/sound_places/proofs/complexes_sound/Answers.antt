-- `sound_places::complexes_sound` meets its contract.
use mathlib.Core.Path.{◌≡◌, refl, sym, ap, ◌∙◌}
use mathlib.Core.Bool.{not}
use native.Mathlib.Omega.{arith}
use lib.ListN.{length, get_or}
use borrow.Author.Tests.{eq-eqb, ne_eqb}
use borrow.Author.Rules.{rules}
use Rattle.rules.specs.Words.{no_complex}
use Rattle.rules.specs.Places.{holds_complex, blank_complex}
use Rattle.rules.specs.Refusals.{complex_in_range}
use Rattle.sound_places.specs.Checked.{asked_complex, complexes_from}
use Rattle.rules.specs.Base.{all}
use Rattle.sound_places.proofs.Passes.{rest-all, arranged-none, arranged-free, arranged-low, arranged-out-of, arranged-past, out_of_range, above-last, in-range}
use Rattle.sound_places.proofs.complexes_sound.Goals as goal

pub loop-i-init : goal.loop-i-init
loop-i-init c = refl

pub returns-then-c-eq0 : goal.returns-then-c-eq0
unfolding complexes_from all
returns-then-c-eq0 c = let n : length c.args.l.now ≡ 32 = search rules in
    c.all_blank.ensures ∙ ap (all blank_complex) (rest-all c.args.l.now 32 c.loop-i.i n)
    ∙ arranged-free holds_complex (asked_complex c.args.last) blank_complex (λ x. x.id) no_complex
    c.args.l.now c.loop-i.low
    c.loop-i.i (omega arith) (ap not (eq-eqb _ _ c.if-c-eq0.true))
    ∙ c.loop-i.invariant

pub returns-then-c-low : goal.returns-then-c-low
unfolding complexes_from
returns-then-c-low c = let n : length c.args.l.now ≡ 32 = search rules in
    arranged-low holds_complex (asked_complex c.args.last) blank_complex
    (λ x. x.id) no_complex c.args.l.now
    c.loop-i.low c.loop-i.i (omega arith)
    (ap not (ne_eqb _ _ c.if-c-eq0.false)) c.if-c-low.true
    ∙ c.loop-i.invariant

pub returns-then-not-complex_in_range : goal.returns-then-not-complex_in_range
unfolding complexes_from
returns-then-not-complex_in_range c = let n : length c.args.l.now ≡ 32 = search rules in
    arranged-out-of holds_complex (asked_complex c.args.last) blank_complex
    (λ x. x.id) no_complex c.args.l.now
    c.loop-i.low
    c.loop-i.i (omega arith)
    (ap not (ne_eqb _ _ c.if-c-eq0.false))
    (out_of_range _ _ (sym c.complex_in_range.ensures ∙ c.if-not-complex_in_range.true))
    ∙ c.loop-i.invariant

pub returns-then-last-c : goal.returns-then-last-c
unfolding complexes_from
returns-then-last-c c = let n : length c.args.l.now ≡ 32 = search rules in
    arranged-out-of holds_complex
    (asked_complex c.args.last) blank_complex
    (λ x. x.id) no_complex c.args.l.now
    c.loop-i.low
    c.loop-i.i (omega arith)
    (ap not (ne_eqb _ _ c.if-c-eq0.false))
    (above-last (complex_in_range (get_or c.args.l.now
    c.loop-i.i no_complex))
    (get_or c.args.l.now
    c.loop-i.i no_complex).id
    c.args.last c.if-last-c.true)
    ∙ c.loop-i.invariant

pub loop-i-preserved : goal.loop-i-preserved
unfolding complexes_from
loop-i-preserved c = let n : length c.args.l.now ≡ 32 = search rules in
    arranged-past holds_complex (asked_complex c.args.last)
    blank_complex (λ x. x.id) no_complex c.args.l.now
    c.loop-i.low
    c.loop-i.i (omega arith)
    (ap not (ne_eqb _ _ c.if-c-eq0.false)) c.if-c-low.false
    (in-range (complex_in_range (get_or c.args.l.now
    c.loop-i.i no_complex))
    (get_or c.args.l.now
    c.loop-i.i no_complex).id
    c.args.last
    (sym c.complex_in_range.ensures ∙ c.if-not-complex_in_range.false) c.if-last-c.false)
    ∙ c.loop-i.invariant

pub returns : goal.returns
unfolding complexes_from
returns c = let n : length c.args.l.now ≡ 32 = search rules in
    arranged-none holds_complex (asked_complex c.args.last) blank_complex (λ x. x.id) no_complex c.args.l.now
    c.loop-i.low c.loop-i.i (omega arith) ∙ c.loop-i.invariant
