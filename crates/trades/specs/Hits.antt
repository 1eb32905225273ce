-- The parts of a hit.
use Rattle.std.specs.Prelude.{ℕ, pos, ◌+ℤ◌}
use Rattle.rules.specs.declared.Legging.{Legging}
use Rattle.rules.specs.declared.Venue.{Venue}
use Rattle.rules.specs.Words.{opposite, sign_times}
use Rattle.rules.specs.Standing.{other_leg, other_clear, parent_of}
use Rattle.trades.specs.declared.Pairing.{Pairing}

-- what a hit of the legging order l by an order of side d in series s pairs: the complex order, its other leg with the clear price, the net
unfoldable pub pairing_of : Venue → Legging → (series side : ℕ) → Pairing
pairing_of v l s d =
    let c = parent_of v l in
    let leg = other_leg c s in
    let clear = other_clear v c s in
    record {
      id = c.id;
      series = leg.series;
      side = leg.side;
      clear = clear;
      net = sign_times (opposite d) (pos l.price) +ℤ sign_times leg.side (pos clear);
    }
