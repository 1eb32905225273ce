use mathlib.Core.Path.{refl, sym, ◌∙◌}
use native.Mathlib.Omega.{arith}
use Rattle.text.proofs.Sheets.{left-start, left-more, left_end}
use Rattle.records.proofs.NextLaws.{next-follows}
use Rattle.text.proofs.put_sheet.Goals as goal

pub loop-found-init : goal.loop-found-init
loop-found-init c = (refl, left-start _ _)

pub shape_of-out : goal.shape_of-out
shape_of-out c = c.loop-found.invariant.0

pub returns : goal.returns
returns c = left_end c.loop-found.invariant.1 (sym c.next_record.ensures ∙ c.in_default.is)

pub slice_bounds-put_line-count : goal.slice_bounds-put_line-count
slice_bounds-put_line-count c = let h = c.loop-found.invariant.1.inside in omega arith

pub slice_bounds-put_line-start : goal.slice_bounds-put_line-start
slice_bounds-put_line-start c = let h = c.loop-found.invariant.1.inside in omega arith

pub slice_bounds-put_line-end : goal.slice_bounds-put_line-end
slice_bounds-put_line-end c = let h = c.loop-found.invariant.1.inside in omega arith

pub loop-found-smaller : goal.loop-found-smaller
loop-found-smaller c = let h = next-follows _ _ _
    (sym c.next_record.ensures
    ∙ c.in-Some.is) in omega arith

pub loop-found-preserved : goal.loop-found-preserved
loop-found-preserved c = (
  c.put_line-pos.auto.out ∙ c.loop-found.invariant.0,
  left-more c.loop-found.invariant.1 _ _
      (sym c.next_record.ensures
      ∙ c.in-Some.is) c.put_line-pos.ensures,
)
