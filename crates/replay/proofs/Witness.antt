-- The witness, by computation.
use mathlib.Core.Path.{refl}
use Rattle.rules.specs.Opened.{opened-rules}
use Rattle.demands.specs.Demand.{call_upon, calls, extend, given_to, opening, parts, start}
use Rattle.witness.specs.Witness.{bytes_of}
use Rattle.replay.specs.Replay.{after_answer, entered, finished, lessen_complex, lessen_order, looked_at, next, noted, replay, upon}
use Rattle.replay.specs.Witness.{Witness, before, record_at, seen, session}

pub witness : Witness
unfolding opened-rules bytes_of session seen record_at before start extend parts opening calls call_upon given_to after_answer entered finished lessen_complex lessen_order looked_at next noted replay upon
witness = record {
  hit = refl;
  hit_legging = refl;
  hit_maker = refl;
  hit_behind = refl;
  hit_other = refl;
  hit_after = refl;
  hit_gone = refl;
  reserve = refl;
  reserve_left = refl;
  reserve_worse = refl;
  reserve_taker = refl;
  cross = refl;
  cross_bids = refl;
  cross_offers = refl;
  looks = refl;
  looks_from = refl;
  looks_at = refl;
  makes = refl;
  made_before = refl;
  made_after = refl;
}
