-- After every message all are tested: whatever an accepted message does, every legging order stands when it has settled.
use Prim.Native.Nat.{ℕ}
use Rattle.rules.specs.declared.Message.{Message}
use Rattle.rules.specs.declared.Message.TheVariants.{Away, Cancel, Increment, LimitedSweep, Order, Percent, Status, Sweep, TwoLeg}
use Rattle.rules.specs.declared.Venue.{Venue}
use Rattle.rules.specs.Words.{with_last}
use Rattle.rules.specs.Settings.{percentage}
use Rattle.rules.specs.Effects.{Effect, ◌⟫◌}
use Rattle.rules.specs.Standing.{settle}
use Rattle.rules.specs.Order.{enter_regular, order}
use Rattle.rules.specs.Generation.{generate}
use Rattle.rules.specs.Complex.{cancel, complex, limited_sweep, sweep}
use Rattle.rules.specs.Step.{perform, set_away, set_figure, set_status}
use Rattle.rules.proofs.Generating.{AllStand}
use Rattle.rules.proofs.EffectsLaws.{keeps-each_of}
use Rattle.rules.proofs.Settling.{settle-stands}

pub settle-all : (v : Venue) → AllStand (settle v).venue
unfolding AllStand
settle-all v = settle-stands v

pub settled : (e : Effect) → AllStand (e ⟫ settle).venue
unfolding ◌⟫◌
settled e = settle-all e.venue

-- legging orders generated one after another under the message of this number, from the venue w on
pub data Generates (number : ℕ) (w : Venue) : Venue → Type 0 where
  none : Generates number w w
  more : {u : Venue} (i : ℕ) → Generates number w u → Generates number w (generate number i u).venue

-- a venue that came, by generation alone, from one in which every legging order stands
pub record Settled (number : ℕ) (v : Venue) : Type 0 where
  pub venue : Venue
  pub stand : AllStand venue
  pub since : Generates number venue v

module _ (number : ℕ) where
  just : (v : Venue) → AllStand v → Settled number v
  just v a = record { venue = v; stand = a; since = none }

  one_more : (i : ℕ) (v : Venue) → Settled number v → Settled number (generate number i v).venue
  one_more i v h = record { venue = h.venue; stand = h.stand; since = more i h.since }

  then-generates : (e : Effect) (f : Venue → Effect) → ((v : Venue) → Settled number v → Settled number (f v).venue) → Settled number (e ⟫ settle ⟫ f).venue
  unfolding ◌⟫◌
  then-generates e f ok = ok _ (just _ (settle-all e.venue))

  -- "After every accepted message all are tested against the same state, failures go together": none is left that fails when the message generates, and after
  -- that it does nothing else. `Generating.generate-stands` has that generation keeps it.
  pub perform-stands : (m : Message) (v : Venue) → Settled number (perform number m v).venue
  unfolding perform order complex cancel sweep limited_sweep
  perform-stands (Order o) v = just _ (settled (enter_regular o (with_last v o.id)))
  perform-stands (TwoLeg c) v = then-generates _ _ (one_more _)
  perform-stands (Cancel id) v = just _ (settled _)
  perform-stands (Away s bid offer) v = just _ (settle-all (set_away s bid offer v))
  perform-stands (Status s x) v = just _ (settle-all (set_status s x v))
  perform-stands Sweep v = then-generates _ _ (keeps-each_of (Settled number) (generate number) one_more _)
  perform-stands (Increment s i e) v = just _ (settle-all (set_figure number s i e v))
  perform-stands (Percent x e) v = just _ (settle-all (set_figure number percentage x e v))
  perform-stands (LimitedSweep n) v = then-generates _ _ (keeps-each_of (Settled number) (generate number) one_more _)
