-- `sweeps::limited_sweep` meets its contract.
use native.Mathlib.Omega.{arith}
use Rattle.places.proofs.Parts.{complexes-few}
use Rattle.sweeps.specs.Round.{round_places}
use Rattle.places.proofs.Beside.{counts-on}
use Rattle.sweeps.proofs.RoundLaws.{round-examined, limited-law}
use Rattle.sweeps.proofs.limited_sweep.Goals as goal

pub overflow_add-looked : goal.overflow_add-looked
overflow_add-looked c = omega (arith, c.round_of-round.ensures.within.0, c.round_of-round.ensures.within.1, complexes-few c.args.numbers.now)

pub overflow_cast-looked : goal.overflow_cast-looked
overflow_cast-looked c = omega (arith, c.round_of-round.ensures.within.0, c.round_of-round.ensures.within.1, complexes-few c.args.numbers.now)

pub returns : goal.returns
returns c =
    let n = round-examined _ _ c.round_of-round.result c.round_of-round.ensures.result_value in record {
      at_after = limited-law _ _ _ _ (round_places c.round_of-round.result) _ _ _ _ _ _ _ _ _ _ _ _ _ _ _ c.round_of-round.ensures.result_value n
          c.last_looked-id.ensures c.put_reached.ensures.numbers_after
          c.emit_looked-told.ensures c.at_round-worked.ensures.result_after c.settle_all-settled.ensures.result_after c.at_round-end.ensures.result_after;
      counts = counts-on _ _ _ (counts-on _ _ _ (counts-on _ _ _ c.put_reached.ensures.counts c.at_round-worked.ensures.counts) c.settle_all-settled.ensures.counts) c.at_round-end.ensures.counts;
      looked = n;
    }
