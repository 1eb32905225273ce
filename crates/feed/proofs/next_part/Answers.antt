-- `feed::next_part` meets its contract.
use mathlib.Core.Path.{◌∙◌}
use native.Mathlib.Omega.{arith}
use Rattle.feed.proofs.Cursors.{ready-some, message-there, part-main, part-spare, spare-has}
use Rattle.feed.proofs.next_part.Goals as goal

pub message-requires : goal.message-requires
message-requires c = let e = c.number.ensures in let p = c.requires.numbered in
    message-there c.args.main _ (ready-some _ _ c.requires.main (omega arith))

pub returns-then-number : goal.returns-then-number
returns-then-number c = let e = c.number.ensures in c.message.ensures ∙ part-main c.args.number _ _ (omega arith)

pub message-requires-2 : goal.message-requires-2
message-requires-2 c = let e = c.number.ensures in let p = c.requires.numbered in
    let z = spare-has c.args.number _ _ (λ h. omega arith) c.requires.goes in message-there c.args.spare _
    (ready-some _ _ c.requires.spare (omega arith))

pub returns : goal.returns
returns c = let e = c.number.ensures in c.message-2.ensures ∙ part-spare c.args.number _ _ (λ h. omega arith)
