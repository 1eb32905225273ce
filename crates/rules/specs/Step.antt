-- One message upon a venue: what an accepted message does, and the answer.
use Rattle.std.specs.Prelude.{List, [], ◌∷◌, ℕ, ◌+◌, ◌*◌, eqb, set, if◌then◌else◌}
use Rattle.rules.specs.declared.Legging.{Legging}
use Rattle.rules.specs.declared.Venue.{Venue}
use Rattle.rules.specs.declared.Message.{Message}
use Rattle.rules.specs.declared.Message.TheVariants.{Order, TwoLeg, Cancel, Away, Status, Sweep, Increment, Percent, LimitedSweep}
use Rattle.rules.specs.Base.{held}
use Rattle.rules.specs.Words.{status_of, listed_at, with_series, with_last}
use Rattle.rules.specs.Settings.{percentage, enter_edition}
use Rattle.rules.specs.Messages.{message_of}
use Rattle.rules.specs.Records.{answer}
use Rattle.rules.specs.Effects.{Effect, nothing, ◌⟫◌}
use Rattle.rules.specs.Standing.{settle}
use Rattle.rules.specs.Order.{order}
use Rattle.rules.specs.Complex.{complex, sweep, limited_sweep, cancel}
use Rattle.rules.specs.Places.{close_gaps}
use Rattle.rules.specs.Refusals.{refusal}

-- What an accepted message does ---------------------------------------------------------------

-- 4 away: the series' away prices anew
unfoldable pub set_away : (series bid offer : ℕ) → Venue → Venue
set_away s bid offer v =
    with_series v (set v.series s (record { status = status_of v s; bid = bid; offer = offer }))

-- 5 status: its status anew
unfoldable pub set_status : (series status : ℕ) → Venue → Venue
set_status s x v =
    let old = listed_at v s in
    with_series v (set v.series s (record { status = x; bid = old.bid; offer = old.offer }))

-- 7 and 8: the edition with the number of its message; figure 0 to 7 is a series' increment
unfoldable pub set_figure : (number figure value edition : ℕ) → Venue → Venue
set_figure number f x e v = enter_edition (record { edition = e; message = number; figure = f; value = x }) v

-- by kind, the message of this number; "After every accepted message all are tested"; an order's id is the last accepted from then on
unfoldable pub perform : (number : ℕ) → Message → Venue → Effect
perform number (Order o) v = order o (with_last v o.id)
perform number (TwoLeg c) v = complex number c (with_last v c.id)
perform number (Cancel id) v = cancel id v
perform number (Away s bid offer) v = settle (set_away s bid offer v)
perform number (Status s x) v = settle (set_status s x v)
perform number Sweep v = sweep number v
perform number (Increment s i e) v = settle (set_figure number s i e v)
perform number (Percent x e) v = settle (set_figure number percentage x e v)
perform number (LimitedSweep n) v = limited_sweep number n v

-- and when all is done the gaps that it left are closed
unfoldable pub accept : (number : ℕ) → Message → Venue → Effect
accept number m v = perform number m v ⟫ (λ w. nothing (close_gaps w))

-- The answer ----------------------------------------------------------------------------------

-- "Mask and count tell the legging places filled after the message; bit n is place n, and the count is its ones."
unfoldable pub mask : List Legging → ℕ
mask [] = 0
mask (l ∷ ls) = (if held l.quantity then 1 else 0) + 2 * mask ls

unfoldable pub filled : List Legging → ℕ
filled [] = 0
filled (l ∷ ls) = (if held l.quantity then 1 else 0) + filled ls

-- a message's refusal (0: accepted), and its effect
pub record StepOutcome : Type 0 where
  pub refused : ℕ
  pub effect : Effect

-- "Each message yields one 64, then its effects as they happen."
unfoldable pub answered : (number refused : ℕ) → Effect → StepOutcome
answered number refused e = record {
  refused = refused;
  effect = record {
    venue = e.venue;
    reports = answer number refused (mask e.venue.legging) (filled e.venue.legging) ∷ e.reports;
  };
}

-- The message at the front of bs, of this number, upon v. "Message refusals leave the venue as it was."
unfoldable pub step : Venue → (number : ℕ) → List ℕ → StepOutcome
step v number bs =
    let x = refusal v bs in
    answered number x (if eqb x 0 then accept number (message_of bs) v else nothing v)
