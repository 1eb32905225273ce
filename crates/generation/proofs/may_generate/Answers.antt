-- `generation::may_generate` meets its contract.
use Rattle.settling.proofs.PartsLaws.{off, on}
use Rattle.generation.specs.Parts.{may_generate}
use Rattle.places.specs.Layout.{venue_of}
use Rattle.rules.proofs.Machine.{back}
use Rattle.rules.specs.Prices.{in_band}
use mathlib.Core.Path.{ap, ◌∙◌}
use Rattle.generation.proofs.may_generate.Goals as goal

pub returns-then-not-is_one_to_one : goal.returns-then-not-is_one_to_one
unfolding may_generate
returns-then-not-is_one_to_one c = simp (off _ _ c.is_one_to_one.ensures c.if-not-is_one_to_one.true-raw)

pub returns-then-not-both_open : goal.returns-then-not-both_open
unfolding may_generate
returns-then-not-both_open c =
    simp (on _ _ c.is_one_to_one.ensures c.if-not-is_one_to_one.false-raw, off _ _ c.both_open.ensures c.if-not-both_open.true-raw)

pub returns : goal.returns
unfolding may_generate
returns c =
    let a = c.args in
    let q = back {z = c.limit_of.result} (record { sfits = c.limit_of.type_inv }) ∙ c.limit_of.ensures.0 in
    simp (on _ _ c.is_one_to_one.ensures c.if-not-is_one_to_one.false-raw, on _ _ c.both_open.ensures c.if-not-both_open.false-raw)
    (c.in_band.ensures ∙ ap (in_band (venue_of a.numbers.now) a.c) q)
