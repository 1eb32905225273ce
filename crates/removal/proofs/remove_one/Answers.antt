-- `removal::remove_one` meets its contract.
use mathlib.Core.Path.{refl, sym, ap, ◌∙◌}
use native.Mathlib.Omega.{arith}
use lib.Dec.{eqb}
use Rattle.rules.specs.Effects.{Effect, report}
use Rattle.rules.specs.Removal.{fail_if}
use Rattle.records.specs.Seen.{seen}
use Rattle.records.specs.Stage.{◌does◌}
use Rattle.records.proofs.StageLaws.{does-nothing, does-report}
use Rattle.places.specs.Layout.{venue_of, SameCounts}
use Rattle.places.proofs.Parts.{legging-at}
use Rattle.removal.proofs.RemovalLaws.{remove-place-free, remove-place-held, one-gone, at_place, at_other}
use Rattle.removal.proofs.remove_one.Goals as goal

pub returns-then-l-eq0 : goal.returns-then-l-eq0
returns-then-l-eq0 c =
    let a = c.args in
    let same : SameCounts a.numbers.now a.numbers.now = record { regulars = refl; complexes = refl; right = λ h. h } in
    let p = does-nothing (venue_of a.numbers.now) a.out.now a.at
    ∙ ap (λ (e : Effect). seen a.out.now a.at does e)
    (remove-place-free a.n (venue_of a.numbers.now) _ (legging-at a.numbers.now a.n c.requires ∙ sym c.legging_at-l.ensures) a.cause c.if-l-eq0.true) in
    record {
      result_after = (one-gone (λ m _. fail_if (eqb m a.n) a.cause) _ _ _ _ c.told-numbers _ _ _ refl a.n
          c.requires (λ _. at_place a.n a.n a.cause refl) (λ m _ q. at_other a.n m a.cause q) (p, same)).0;
      place_after = p;
      counts = same;
    }

pub returns : goal.returns
returns c =
    let a = c.args in
    let p = does-report _ _ _ _ _ _ c.emit_removed.ensures
    ∙ ap (λ (e : Effect). seen a.out.now a.at does e)
    (ap (report _) c.put_legging.ensures.numbers_after
    ∙ remove-place-held a.n (venue_of a.numbers.now) _ (legging-at a.numbers.now a.n c.requires ∙ sym c.legging_at-l.ensures) a.cause c.if-l-eq0.false) in
    record {
      result_after = (one-gone (λ m _. fail_if (eqb m a.n) a.cause) _ _ _ _ c.told-numbers _ _ _ (omega arith) a.n
          c.requires (λ _. at_place a.n a.n a.cause refl) (λ m _ q. at_other a.n m a.cause q) (p, c.put_legging.ensures.counts)).0;
      place_after = p;
      counts = c.put_legging.ensures.counts;
    }
