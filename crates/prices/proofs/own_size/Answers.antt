-- `prices::own_size` meets its contract.
use mathlib.Core.Path.{sym, ap, ◌∙◌}
use Prim.Native.Nat.{ℕ, ◌+◌}
use Rattle.rules.specs.Words.{place_of}
use Rattle.levels.proofs.LevelsKept.{level-most}
use Rattle.places.proofs.Parts.{legging-read}
use Rattle.prices.proofs.Prices.{size-free, size_same, size-better, size-worse}
use borrow.Author.Rules.{rules}
use Rattle.prices.proofs.own_size.Goals as goal

pub legging_at-l-requires : goal.legging_at-l-requires
unfolding place_of
legging_at-l-requires c = search rules

pub returns-then-l-eq0 : goal.returns-then-l-eq0
returns-then-l-eq0 c =
    let p = c.requires in
    size-free _ _ _ _ p.level _ (legging-read _ _ _ _ c.legging_at-l.result p.series p.side c.place_of.ensures c.legging_at-l.ensures) c.if-l-eq0.true

pub overflow_add-result : goal.overflow_add-result
overflow_add-result c =
    let a = c.args in
    let z = level-most a.numbers.now c.fits-numbers a.s a.d a.level c.requires.level in
    search rules

pub returns-then-l-level : goal.returns-then-l-level
returns-then-l-level c =
    let p = c.requires in
    ap (λ (k : ℕ). c.args.level.size + k) c.from-legging.ensures ∙ size_same _ _ _ _ p.level _ (legging-read _ _ _ _ c.legging_at-l.result p.series p.side c.place_of.ensures c.legging_at-l.ensures)
    c.if-l-eq0.false c.if-l-level.true

pub returns-then-is_better : goal.returns-then-is_better
returns-then-is_better c =
    let p = c.requires in
    c.from-legging.ensures ∙ size-better _ _ _ _ p.level _ (legging-read _ _ _ _ c.legging_at-l.result p.series p.side c.place_of.ensures c.legging_at-l.ensures)
    c.if-l-eq0.false (sym c.is_better.ensures ∙ c.if-is_better.true)

pub returns : goal.returns
returns c =
    let p = c.requires in
    size-worse _ _ _ _ p.level _ (legging-read _ _ _ _ c.legging_at-l.result p.series p.side c.place_of.ensures c.legging_at-l.ensures)
    c.if-l-eq0.false c.if-l-level.false
    (sym c.is_better.ensures ∙ c.if-is_better.false)
