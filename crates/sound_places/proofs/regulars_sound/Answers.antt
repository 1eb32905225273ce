-- `sound_places::regulars_sound` meets its contract.
use mathlib.Core.Path.{◌≡◌, refl, sym, ap, ◌∙◌}
use mathlib.Core.Bool.{not}
use native.Mathlib.Omega.{arith}
use lib.ListN.{length}
use borrow.Author.Tests.{eq-eqb, ne_eqb}
use borrow.Author.Rules.{rules}
use Rattle.rules.specs.Words.{no_regular}
use Rattle.rules.specs.Places.{holds_regular, blank_regular}
use Rattle.sound_places.specs.Checked.{asked_regular, regulars_from}
use Rattle.rules.specs.Base.{all}
use Rattle.sound_places.proofs.Passes.{rest-all, arranged-none, arranged-free, arranged-low, arranged-out-of, arranged-past}
use Rattle.sound_places.proofs.regulars_sound.Goals as goal

pub loop-i-init : goal.loop-i-init
loop-i-init c = refl

pub returns-then-o-eq0 : goal.returns-then-o-eq0
unfolding regulars_from all
returns-then-o-eq0 c = let n : length c.args.l.now ≡ 128 = search rules in
    c.all_blank.ensures ∙ ap (all blank_regular) (rest-all c.args.l.now 128 c.loop-i.i n)
    ∙ arranged-free holds_regular (asked_regular c.args.last) blank_regular (λ x. x.id) no_regular
    c.args.l.now c.loop-i.low
    c.loop-i.i (omega arith) (ap not (eq-eqb _ _ c.if-o-eq0.true))
    ∙ c.loop-i.invariant

pub returns-then-o-low : goal.returns-then-o-low
unfolding regulars_from
returns-then-o-low c = let n : length c.args.l.now ≡ 128 = search rules in
    arranged-low holds_regular (asked_regular c.args.last) blank_regular
    (λ x. x.id) no_regular c.args.l.now
    c.loop-i.low c.loop-i.i (omega arith)
    (ap not (ne_eqb _ _ c.if-o-eq0.false)) (omega arith)
    ∙ c.loop-i.invariant

pub returns-then-not-regular_asked : goal.returns-then-not-regular_asked
unfolding regulars_from
returns-then-not-regular_asked c = let n : length c.args.l.now ≡ 128 = search rules in
    arranged-out-of holds_regular (asked_regular c.args.last) blank_regular
    (λ x. x.id) no_regular c.args.l.now
    c.loop-i.low
    c.loop-i.i (omega arith)
    (ap not (ne_eqb _ _ c.if-o-eq0.false)) (sym c.regular_asked.ensures ∙ c.if-not-regular_asked.true)
    ∙ c.loop-i.invariant

pub loop-i-preserved : goal.loop-i-preserved
unfolding regulars_from
loop-i-preserved c = let n : length c.args.l.now ≡ 128 = search rules in
    arranged-past holds_regular (asked_regular c.args.last) blank_regular
    (λ x. x.id) no_regular c.args.l.now
    c.loop-i.low
    c.loop-i.i (omega arith)
    (ap not (ne_eqb _ _ c.if-o-eq0.false)) c.if-o-low.false
    (sym c.regular_asked.ensures ∙ c.if-not-regular_asked.false)
    ∙ c.loop-i.invariant

pub returns : goal.returns
unfolding regulars_from
returns c = let n : length c.args.l.now ≡ 128 = search rules in
    arranged-none holds_regular (asked_regular c.args.last) blank_regular (λ x. x.id) no_regular c.args.l.now
    c.loop-i.low c.loop-i.i (omega arith) ∙ c.loop-i.invariant
