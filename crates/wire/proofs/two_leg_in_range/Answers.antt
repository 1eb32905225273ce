use mathlib.Core.Path.{sym, ap, ◌∙◌}
use native.Mathlib.Omega.{arith}
use mir.Syntax.{w32}
use mir.ValLaws.{to_z-of_z}
use Rattle.rules.specs.Words.{is_id, is_class, is_limit}
use Rattle.rules.specs.Refusals.{two_leg_in_range}
use Rattle.rules.proofs.Tests.{and-false}
use Rattle.rules.proofs.Ranges.{below, above}
use Rattle.wire.proofs.Decoding.{two-leg-out, two-leg-ratio}
use Rattle.wire.proofs.two_leg_in_range.Goals as goal

pub returns-then-c-eq0 : goal.returns-then-c-eq0
unfolding two_leg_in_range is_id
returns-then-c-eq0 c = rw (below 1 4294967295 c.args.c.id (omega arith))

pub returns-then-not-legs_in_range : goal.returns-then-not-legs_in_range
returns-then-not-legs_in_range c =
    let s = c.args in
    two-leg-out s.far s.c (omega arith) (omega arith) (sym c.legs_in_range.ensures ∙ c.if-not-legs_in_range.true)

pub returns-then-c-gt1 : goal.returns-then-c-gt1
unfolding two_leg_in_range is_class
returns-then-c-gt1 c = simp (above 0 1 c.args.c.class c.if-c-gt1.true, and-false)

pub returns-then-not-is_limit : goal.returns-then-not-is_limit
unfolding two_leg_in_range
returns-then-not-is_limit c =
    let s = c.args in
    let told = c.struct_told-1.given in
    let e = c.is_limit.ensures ∙ ap (is_limit s.far) (to_z-of_z w32 s.c.limit (record { sfits = told.1.1.1.1.1.1.0.1 })) in
    simp (sym e ∙ c.if-not-is_limit.true, and-false)

pub returns-then-not-is_quantity : goal.returns-then-not-is_quantity
unfolding two_leg_in_range
returns-then-not-is_quantity c = simp (sym c.is_quantity.ensures ∙ c.if-not-is_quantity.true, and-false)

pub returns-then-not-is_ratio : goal.returns-then-not-is_ratio
unfolding two_leg_in_range
returns-then-not-is_ratio c = simp (sym c.is_ratio.ensures ∙ c.if-not-is_ratio.true, and-false)

pub returns : goal.returns
returns c =
    let s = c.args in
    let told = c.struct_told-1.given in
    let l = sym c.legs_in_range.ensures ∙ c.if-not-legs_in_range.false in
    let e = c.is_limit.ensures ∙ ap (is_limit s.far) (to_z-of_z w32 s.c.limit (record { sfits = told.1.1.1.1.1.1.0.1 })) in
    let n = sym e ∙ c.if-not-is_limit.false in
    let q = sym c.is_quantity.ensures ∙ c.if-not-is_quantity.false in
    let r = sym c.is_ratio.ensures ∙ c.if-not-is_ratio.false in
    c.is_ratio-2.ensures ∙ two-leg-ratio s.far s.c (omega arith) (omega arith) l c.if-c-gt1.false n q r
