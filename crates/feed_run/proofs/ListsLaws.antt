-- Request (k): the call returns what a run of the list handed out returns.
use mathlib.Core.Path.{◌≡◌, sym, ap, ◌∙◌}
use Prim.Native.Nat.{ℕ}
use lib.ListN.{length}
use Rattle.rules.specs.Calls.{Call, run}
use Rattle.feed.specs.Feed.{handed, joined, numbered, feed}
use Rattle.feed.specs.Sent.{messages}
use Rattle.feed.proofs.Sending.{list-run}
use Rattle.engine.specs.Runs.{call_of}
use Rattle.feed_run.specs.Lists.{ReturnsAsRun, ReturnsAsList}

pub returns-as-run : ReturnsAsRun
unfolding feed numbered
returns-as-run main spare held₁ held₂ e r₁ r₂ left₁ left₂ p q =
    let z : call_of r₁ left₁ ≡ numbered (handed main spare).number (call_of r₂ left₂) =
    p ∙ ap (λ (n : ℕ). numbered (handed main spare).number (run n (joined (handed main spare).messages))) e ∙ ap (numbered (handed main spare).number) (sym q) in (
      ap (λ (c : Call). c.returned.number) z,
      ap (λ (c : Call). c.returned.done) z,
      ap (λ (c : Call). c.returned.written) z,
      ap (λ (c : Call). c.returned.venue) z,
      ap (λ (c : Call). c.report) z,
    )

pub returns-as-list : ReturnsAsList
returns-as-list sent few w none held₁ held₂ e r₁ r₂ left₁ left₂ p q =
    let z : call_of r₁ left₁ ≡ call_of r₂ left₂ =
    p ∙ list-run (length held₁) sent few w none ∙ ap (λ (n : ℕ). run n (joined (messages sent))) e ∙ sym q in
    (ap (λ (c : Call). c.returned) z, ap (λ (c : Call). c.report) z)
