use native.Mathlib.Omega.{arith}
use native.Mathlib.Numerals.{add-one}
use Rattle.records.proofs.SeenLaws.{head-words, head-room, words-out}
use Rattle.records.proofs.put_words.Goals as goal

pub returns-then-n-at : goal.returns-then-n-at
returns-then-n-at c = let s = c.args in rw add-one (words-out s.out.now s.head.now s.words.now s.at (omega arith))

pub returns-then-n-at-2 : goal.returns-then-n-at-2
returns-then-n-at-2 c = let s = c.args in rw add-one (words-out s.out.now s.head.now s.words.now s.at (omega arith))

pub store_words-requires : goal.store_words-requires
store_words-requires c = let s = c.args in
    head-room s.out.now s.head.now s.words.now s.at _ _ (omega arith) c.put-pos.ensures

pub overflow_add-result-2 : goal.overflow_add-result-2
overflow_add-result-2 c = let s = c.args in
    let r = head-room s.out.now s.head.now s.words.now s.at _ _ (omega arith)
    c.put-pos.ensures in omega arith

pub returns : goal.returns
returns c = let s = c.args in
    head-words s.out.now s.head.now s.words.now s.at _ _ _ (omega arith)
    c.put-pos.ensures c.store_words.ensures
