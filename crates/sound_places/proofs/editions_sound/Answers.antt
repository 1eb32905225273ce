-- `sound_places::editions_sound` meets its contract.
use mathlib.Core.Path.{◌≡◌, refl, sym, ap, ◌∙◌}
use mathlib.Core.Bool.{not}
use native.Mathlib.Omega.{arith}
use lib.ListN.{length}
use borrow.Author.Tests.{eq-eqb, ne_eqb}
use borrow.Author.Rules.{rules}
use Rattle.rules.specs.Base.{all}
use Rattle.rules.specs.Places.{blank_edition}
use Rattle.sound_places.specs.Checked.{editions_from}
use Rattle.sound_places.proofs.Passes.{rest-all, editions-none, editions-free, editions-low, editions-late, editions-out, editions-past}
use Rattle.sound_places.proofs.editions_sound.Goals as goal

pub loop-i-init : goal.loop-i-init
loop-i-init c = refl

pub returns-then-e-eq0 : goal.returns-then-e-eq0
unfolding all editions_from
returns-then-e-eq0 c = let n : length c.args.l.now ≡ 32 = search rules in
    c.all_blank.ensures ∙ ap (all blank_edition) (rest-all c.args.l.now 32 c.loop-i.i n)
    ∙ editions-free c.args.l.now c.loop-i.low
    c.loop-i.past c.loop-i.i (omega arith)
    (ap not (eq-eqb _ _ c.if-e-eq0.true))
    ∙ c.loop-i.invariant

pub returns-then-e-low : goal.returns-then-e-low
returns-then-e-low c = let n : length c.args.l.now ≡ 32 = search rules in
    editions-low c.args.l.now c.loop-i.low
    c.loop-i.past c.loop-i.i (omega arith)
    (ap not (ne_eqb _ _ c.if-e-eq0.false)) c.if-e-low.true
    ∙ c.loop-i.invariant

pub returns-then-e-past : goal.returns-then-e-past
returns-then-e-past c = let n : length c.args.l.now ≡ 32 = search rules in
    editions-late c.args.l.now
    c.loop-i.low
    c.loop-i.past
    c.loop-i.i (omega arith)
    (ap not (ne_eqb _ _ c.if-e-eq0.false)) (omega arith)
    ∙ c.loop-i.invariant

pub returns-then-not-edition_in_range : goal.returns-then-not-edition_in_range
returns-then-not-edition_in_range c = let n : length c.args.l.now ≡ 32 = search rules in
    editions-out c.args.l.now
    c.loop-i.low
    c.loop-i.past
    c.loop-i.i (omega arith)
    (ap not (ne_eqb _ _ c.if-e-eq0.false))
    (sym c.edition_in_range.ensures ∙ c.if-not-edition_in_range.true)
    ∙ c.loop-i.invariant

pub loop-i-preserved : goal.loop-i-preserved
loop-i-preserved c = let n : length c.args.l.now ≡ 32 = search rules in
    editions-past c.args.l.now
    c.loop-i.low
    c.loop-i.past
    c.loop-i.i (omega arith)
    (ap not (ne_eqb _ _ c.if-e-eq0.false)) c.if-e-low.false
    c.if-e-past.false
    (sym c.edition_in_range.ensures ∙ c.if-not-edition_in_range.false)
    ∙ c.loop-i.invariant

pub returns : goal.returns
returns c = let n : length c.args.l.now ≡ 32 = search rules in
    editions-none c.args.l.now c.loop-i.low c.loop-i.past c.loop-i.i (omega arith) ∙ c.loop-i.invariant
