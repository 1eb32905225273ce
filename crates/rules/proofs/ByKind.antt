-- A message's bytes are as many as its kind's length.
use Rattle.std.specs.Prelude.{if◌then◌else◌}
use mathlib.Core.Path.{◌≡◌, refl}
use mathlib.Core.Bool.{Bool, true, false}
use mathlib.Core.List.{◌++◌}
use lib.Dec.{eqb}
use lib.ListN.{length}
use Rattle.rules.specs.declared.Message.TheVariants.{Order, TwoLeg, Cancel, Away, Status, Sweep, Increment, Percent, LimitedSweep}
use Rattle.rules.specs.Words.{one_to_one}
use Rattle.rules.specs.Bytes.{bytes, framed, kind_field, u16_at, u32, u8, u8_at}
use Rattle.rules.specs.Messages.{length_of, order_fields, two_leg_fields, encode_message, KindLengths}

pub kind-lengths : KindLengths
unfolding length_of encode_message order_fields two_leg_fields framed bytes kind_field u16_at u8_at
kind-lengths (Order o) = go (eqb o.display o.quantity)
  where
    -- either kind
    go : (b : Bool) → let bs = if b then framed 1 (order_fields o) else framed 9 (order_fields o ++ u32 o.display) in length bs ≡ length_of (kind_field bs)
    go true = refl
    go false = refl
kind-lengths (TwoLeg c) = go (one_to_one c)
  where
    go : (b : Bool) → let bs = if b then framed 2 (two_leg_fields c) else framed 10 (two_leg_fields c ++ u8 c.ratio1 ++ u8 c.ratio2) in length bs ≡ length_of (kind_field bs)
    go true = refl
    go false = refl
kind-lengths (Cancel id) = refl
kind-lengths (Away s bid offer) = refl
kind-lengths (Status s x) = refl
kind-lengths Sweep = refl
kind-lengths (Increment s i e) = refl
kind-lengths (Percent x e) = refl
kind-lengths (LimitedSweep n) = refl
