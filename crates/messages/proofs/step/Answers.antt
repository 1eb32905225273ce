-- `messages::step` meets its contract.
use native.Mathlib.Omega.{arith}
use Rattle.messages.proofs.Dispatching.{torn-steps}
use Rattle.messages.proofs.step.Goals as goal

pub returns-in-Err : goal.returns-in-Err
returns-in-Err c = torn-steps _ _ _ _ _ _ _ _ _ c.refusal_number.ensures c.in-Err.ensures c.refuse.ensures

pub half_at-kind-requires : goal.half_at-kind-requires
half_at-kind-requires c = let f = c.in_default.ensures in omega arith

pub first_kinds-requires : goal.first_kinds-requires
first_kinds-requires c =
    record {
      dense = c.requires.dense;
      sound = c.requires.sound;
      framed = c.in_default.ensures;
      kind = c.half_at-kind.ensures;
      most = c.if-kind-le3.true;
    }

pub returns-then-kind-le3 : goal.returns-then-kind-le3
returns-then-kind-le3 c = c.first_kinds.ensures

pub market_kinds-requires : goal.market_kinds-requires
market_kinds-requires c =
    record {
      dense = c.requires.dense;
      sound = c.requires.sound;
      framed = c.in_default.ensures;
      kind = c.half_at-kind.ensures;
      least = omega arith;
      most = c.if-kind-le6.true;
    }

pub returns-then-kind-le6 : goal.returns-then-kind-le6
returns-then-kind-le6 c = c.market_kinds.ensures

pub later_kinds-requires : goal.later_kinds-requires
later_kinds-requires c =
    record {
      dense = c.requires.dense;
      sound = c.requires.sound;
      framed = c.in_default.ensures;
      kind = c.half_at-kind.ensures;
      least = omega arith;
    }

pub returns : goal.returns
returns c = c.later_kinds.ensures
