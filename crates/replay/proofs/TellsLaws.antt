-- `Tells v e`: the records of the effect e upon v tell the venue that it leaves, and each is as claimed at its moment, whatever the message; `TellsFrom x v e`,
-- where the books of the state x are v. One effect after another, turns, sweeps.
use mathlib.Core.Path.{◌∙◌, ◌≡◌, ap, refl, subst, sym}
use mathlib.Core.List.{List, [], ◌++◌, ◌∷◌}
use Prim.Native.Nat.{◌<◌, suc, zero, ℕ}
use Rattle.rules.specs.declared.Venue.{Venue}
use Rattle.rules.specs.Records.{Report}
use Rattle.rules.specs.Effects.{Effect, Turn, ◌⟫◌, ended, nothing, repeat, report, turned}
use Rattle.rules.specs.Complex.{each_of}
use Rattle.rules.proofs.Cases.{repeat-by}
use Rattle.rules.proofs.Traffic.{Each}
use Rattle.replay.specs.Replay.{State, next, noted, replay}
use Rattle.replay.specs.Moments.{AtEach, AtItsMoment}

-- Records joined ------------------------------------------------------------------------------

pub replay-append : (x : State) (a b : List Report) → replay x (a ++ b) ≡ replay (replay x a) b
unfolding replay
replay-append x [] b = refl
replay-append x (r ∷ a) b = replay-append (next r x) a b

pub each_append : (x : State) (a b : List Report) → AtEach x a → AtEach (replay x a) b → AtEach x (a ++ b)
unfolding replay
each_append x [] b h k = k
each_append x (r ∷ a) b h k = (h.0, each_append (next r x) a b h.1 k)

-- Effects -------------------------------------------------------------------------------------

pub record TellsFrom (x : State) (v : Venue) (e : Effect) : Type 0 where
  pub replays : replay (noted x v) e.reports ≡ noted x e.venue
  pub moments : AtEach (noted x v) e.reports

abbrev pub Tells : Venue → Effect → Type 0
Tells v e = (x : State) → TellsFrom x v e

pub tells-nothing : (v : Venue) → Tells v (nothing v)
unfolding nothing replay
tells-nothing v x = record { replays = refl; moments = tt }

-- one record, which leads from v to w
pub from-report : (x : State) (r : Report) (v w : Venue) → next r (noted x v) ≡ noted x w → AtItsMoment v r → TellsFrom x v (report r w)
unfolding report replay noted
from-report x r v w is at = record { replays = is; moments = (at, tt) }

pub tells-report : (r : Report) (v w : Venue) → ((x : State) → next r (noted x v) ≡ noted x w) → AtItsMoment v r → Tells v (report r w)
tells-report r v w is at x = from-report x r v w (is x) at

pub from_then : (x : State) (v : Venue) (e : Effect) (f : Venue → Effect) → TellsFrom x v e → TellsFrom x e.venue (f e.venue) → TellsFrom x v (e ⟫ f)
unfolding ◌⟫◌
from_then x v e f a b = record {
  replays =
      replay-append (noted x v) e.reports (f e.venue).reports
      ∙ ap (λ (y : State). replay y (f e.venue).reports) a.replays
      ∙ b.replays;
  moments =
      each_append (noted x v) e.reports (f e.venue).reports a.moments
      (subst (λ (y : State). AtEach y (f e.venue).reports) (sym a.replays) b.moments);
}

pub tells-then : (v : Venue) (e : Effect) (f : Venue → Effect) → Tells v e → Tells e.venue (f e.venue) → Tells v (e ⟫ f)
tells-then v e f a b x = from_then x v e f (a x) (b x)

-- Turns and sweeps ----------------------------------------------------------------------------

-- nothing is asked
abbrev pub Any : Venue → Type 0
Any v = Unit {0}

-- a turn tells, and keeps P
abbrev pub TellsTurn : (Venue → Type 0) → Venue → Turn → Type 0
TellsTurn P v ended = Unit {0}
TellsTurn P v (turned e) = Tells v e × P e.venue

pub tells-repeat : (P : Venue → Type 0) (turn : Venue → Turn) → ((v : Venue) → P v → TellsTurn P v (turn v)) → (fuel : ℕ) (v : Venue) → P v → Tells v (repeat fuel turn v)
tells-repeat P turn ok zero v h = unfold repeat in (tells-nothing v)
tells-repeat P turn ok (suc fuel) v h =
    repeat-by (Tells v) fuel turn v (λ _. tells-nothing v)
    (λ e is. let k = subst (TellsTurn P v) is (ok v h) in tells-then v e _ k.0 (tells-repeat P turn ok fuel _ k.1))

-- f for the order at each of these places
pub tells-each_of : (P : Venue → Type 0) (f : ℕ → Venue → Effect) →
    ((i : ℕ) (v : Venue) → i < 32 → P v → Tells v (f i v) × P (f i v).venue) →
    (places : List ℕ) → Each (λ i. i < 32) places → (v : Venue) → P v → Tells v (each_of f places v)
unfolding each_of
tells-each_of P f ok [] low v h = tells-nothing v
tells-each_of P f ok (i ∷ places) low v h = let k = ok i v low.0 h in tells-then v (f i v) _ k.0 (tells-each_of P f ok places low.1 _ k.1)
