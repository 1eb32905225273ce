use native.Mathlib.Omega.{arith}
use Rattle.records.proofs.SeenLaws.{laid-start, laid-room, laid_next, laid_end}
use Rattle.records.proofs.store_words.Goals as goal

pub loop-i-init : goal.loop-i-init
loop-i-init c = let s = c.args in laid-start s.out.now s.words.now s.at

pub overflow_mul-i : goal.overflow_mul-i
overflow_mul-i c = omega arith

pub overflow_add-at : goal.overflow_add-at
overflow_add-at c = omega arith

pub offset_bounds-words-i : goal.offset_bounds-words-i
offset_bounds-words-i c = omega arith

pub bounds-words-i : goal.bounds-words-i
bounds-words-i c = omega arith

pub store4-requires : goal.store4-requires
store4-requires c = let s = c.args in let r = laid-room s.out.now s.words.now s.at
    c.requires c.loop-i.out c.loop-i.i
    c.loop-i.invariant in omega arith

pub loop-i-preserved : goal.loop-i-preserved
loop-i-preserved c = let s = c.args in
    laid_next s.out.now s.words.now s.at c.requires c.loop-i.out
    c.loop-i.i c.loop-i.invariant _
    c.loop-i-test.true c.store4.ensures

pub shape_of-out : goal.shape_of-out
shape_of-out c = let s = c.args in laid-room s.out.now s.words.now s.at c.requires
    c.loop-i.out c.loop-i.i c.loop-i.invariant

pub returns : goal.returns
returns c = let s = c.args in laid_end s.out.now s.words.now s.at c.requires
    c.loop-i.out c.loop-i.i c.loop-i.invariant c.loop-i-test.false
