-- `venue_bytes::GenerationsRow::read` meets its contract.
use mathlib.Core.Path.{refl, ap, ◌∙◌}
use mathlib.Core.List.{List}
use Prim.Native.Nat.{ℕ}
use native.Mathlib.Omega.{arith}
use Rattle.places.specs.Layout.{upto, in_use}
use Rattle.places.proofs.Tables.{used-next, used-done, whole}
use Rattle.venue_bytes.specs.Held.{generations_at, generations_from}
use Rattle.venue_bytes.proofs.Rows.{row_read}
use Rattle.venue_bytes.proofs.GenerationsRow.read.Goals as goal

pub loop-k-init : goal.loop-k-init
unfolding in_use upto
loop-k-init c = refl

pub loop-k-preserved : goal.loop-k-preserved
loop-k-preserved c = used-next _ _ _ 20 _ _ (omega arith) c.loop-k.invariant c.word_at.ensures

pub returns : goal.returns
unfolding generations_from
returns c =
    row_read generations_from generations_at 80 _ c.args.i _
    (ap (λ (l : List ℕ). record { messages = l }) (used-done _ _ _ _ 20 _ (omega arith) c.loop-k.invariant ∙ whole _ 0 20))
