-- `feed::up_next` meets its contract.
use mathlib.Core.Path.{sym, ◌∙◌}
use native.Mathlib.Omega.{arith}
use native.Mathlib.Numerals.{add-one}
use Rattle.feed.proofs.Cursors.{next_fits, ready-some, message-there, stop-neither, stop-spare, stop-main, stop-same, stop-differ}
use Rattle.feed.proofs.up_next.Goals as goal

pub overflow_add-number : goal.overflow_add-number
overflow_add-number c =
    let e = c.number-here.ensures in
    let f = c.number-there.ensures in
    let fits = next_fits c.args.done c.args.main c.args.spare c.requires (omega arith) (omega arith) in
    omega arith

pub returns-then-there-number : goal.returns-then-there-number
returns-then-there-number c =
    let e = c.number-here.ensures in
    let f = c.number-there.ensures in
    let fits = next_fits c.args.done c.args.main c.args.spare c.requires (omega arith) (omega arith) in
    record { comes = stop-neither _ _ _ (λ h. omega arith) (λ h. omega arith); few = omega arith }

pub returns-then-here-number : goal.returns-then-here-number
returns-then-here-number c =
    let e = c.number-here.ensures in
    let f = c.number-there.ensures in
    let fits = next_fits c.args.done c.args.main c.args.spare c.requires (omega arith) (omega arith) in
    record { comes = (add-one _, sym (stop-spare _ _ _ (λ h. omega arith) (omega arith))); few = omega arith }

pub returns-then-there-number-2 : goal.returns-then-there-number-2
returns-then-there-number-2 c =
    let e = c.number-here.ensures in
    let f = c.number-there.ensures in
    let fits = next_fits c.args.done c.args.main c.args.spare c.requires (omega arith) (omega arith) in
    record { comes = (add-one _, sym (stop-main _ _ _ (omega arith) (λ h. omega arith))); few = omega arith }

pub same_messages-requires : goal.same_messages-requires
same_messages-requires c =
    let e = c.number-here.ensures in
    let f = c.number-there.ensures in
    record {
      main = message-there c.args.main _ (ready-some _ _ c.requires.main (omega arith));
      spare = message-there c.args.spare _ (ready-some _ _ c.requires.spare (omega arith));
    }

pub returns-then-same_messages : goal.returns-then-same_messages
returns-then-same_messages c =
    let e = c.number-here.ensures in
    let f = c.number-there.ensures in
    let fits = next_fits c.args.done c.args.main c.args.spare c.requires (omega arith) (omega arith) in
    record { comes = (add-one _, sym (stop-same _ _ _ (omega arith) (omega arith) (sym c.same_messages.ensures ∙ c.if-same_messages.true))); few = omega arith }

pub returns : goal.returns
returns c =
    let e = c.number-here.ensures in
    let f = c.number-there.ensures in
    let fits = next_fits c.args.done c.args.main c.args.spare c.requires (omega arith) (omega arith) in
    record { comes = stop-differ _ _ _ (omega arith) (omega arith) (sym c.same_messages.ensures ∙ c.if-same_messages.false); few = omega arith }
