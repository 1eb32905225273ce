-- Request (b), over every list of calls: "A cross is made only if neither party's net is above what best regular prices of both legs
-- would give that party, where both legs have one." Of every 70 written, at its moment: the venue upon which the definition makes that
-- cross.
use Rattle.std.specs.Prelude.{◌≡◌, true, List, [], ◌∷◌, ◌++◌, ℕ, zero, suc, eqb, ℤ, neg_ℤ, take, if◌then◌else◌}
use Rattle.std.specs.Int.Signed.{le_z}
use Rattle.rules.specs.declared.Complex.{Complex}
use Rattle.rules.specs.declared.Message.{Message}
use Rattle.rules.specs.declared.Message.TheVariants.{Order, TwoLeg, Cancel, Away, Status, Sweep, Increment, Percent, LimitedSweep}
use Rattle.rules.specs.declared.Venue.{Venue}
use Rattle.rules.specs.Base.{held}
use Rattle.rules.specs.Words.{complex_at, fresh_venue, opposite, with_last, with_reached}
use Rattle.rules.specs.Messages.{message_of}
use Rattle.rules.specs.Records.{Report, answer, trade, pair, generated, removed, crossed, cancelled, looked}
use Rattle.rules.specs.Effects.{ended, turned}
use Rattle.rules.specs.Prices.{best_regular, net}
use Rattle.rules.specs.Trading.{free_complex, put_complex}
use Rattle.rules.specs.Complex.{any_closed, cross, cross_turn, going_round, id_reached, resting_places, work}
use Rattle.rules.specs.Refusals.{refusal}
use Rattle.demands.specs.Demand.{Later, Opening, calls, opening}
use Rattle.demands.specs.Truth.{venue_after}

-- Moments -------------------------------------------------------------------------------------

-- a moment of crossing: the venue as it stands, all that was written before it done, and the place of the order whose turn it is
pub record Moment : Type 0 where
  pub venue : Venue
  pub place : ℕ

-- the turns of `repeat turns (cross_turn i)` upon v in which something is done
unfoldable pub crossings : (turns i : ℕ) → Venue → List Moment
crossings zero i v = []
crossings (suc turns) i v =
    elim (cross_turn i v) [ ended ↦ [] | turned e ↦ record { venue = v; place = i } ∷ crossings turns i e.venue ]

-- those of `work i`
unfoldable pub in_work : (i : ℕ) → Venue → List Moment
in_work i v = if any_closed v (complex_at v i) then [] else crossings (complex_at v i).quantity i v

-- those of `each_of work places`, in a sweep
unfoldable pub in_each_of : (places : List ℕ) → Venue → List Moment
in_each_of [] v = []
in_each_of (i ∷ places) v = in_work i v ++ in_each_of places (work i v).venue

-- those of an accepted message: only a complex order that arrives and sweeps cross
unfoldable pub in_message : Message → Venue → List Moment
in_message (Order o) v = []
in_message (TwoLeg c) v =
    let w = with_last v c.id in
    in_work (free_complex w) (put_complex (free_complex w) c w)
in_message (Cancel id) v = []
in_message (Away s bid offer) v = []
in_message (Status s x) v = []
in_message Sweep v = in_each_of (resting_places v) v
in_message (Increment s i e) v = []
in_message (Percent x e) v = []
in_message (LimitedSweep n) v =
    let places = take n (going_round v) in
    in_each_of places (with_reached v (id_reached v places))

-- those of the message at the front of bs
unfoldable pub in_step : Venue → (message : List ℕ) → List Moment
in_step v bs = if eqb (refusal v bs) 0 then in_message (message_of bs) v else []

-- those of messages upon v one after another, n having gone before
unfoldable pub in_all : Venue → (n : ℕ) → (messages : List (List ℕ)) → List Moment
in_all v n [] = []
in_all v n (m ∷ ms) = in_step v m ++ in_all (venue_after v (suc n) m) (suc n) ms

-- What is written at a moment -----------------------------------------------------------------

-- "neither party's net is above what best regular prices of both legs would give that party, where both legs have one": of the party c,
-- at net t
abbrev pub Respects : Venue → Complex → (t : ℤ) → Type 0
Respects v c t =
    let a = best_regular v c.series1 (opposite c.side1) in
    let b = best_regular v c.series2 (opposite c.side2) in
    held a ≡ true → held b ≡ true → le_z t (net c a b) ≡ true

-- the record r is the 70 of the cross made at a moment: the order whose turn it is takes, at the resting limit of the maker
pub record Deal (x : Moment) (r : Report) : Type 0 where
  pub maker : ℕ
  pub quantity : ℕ
  pub is : cross_turn x.place x.venue ≡ turned (cross x.place maker quantity x.venue)
  pub told : r ≡
      crossed (complex_at x.venue x.place).id (complex_at x.venue maker).id (neg_ℤ (complex_at x.venue maker).limit) quantity
  pub taker : Respects x.venue (complex_at x.venue x.place) (neg_ℤ (complex_at x.venue maker).limit)
  pub resting : Respects x.venue (complex_at x.venue maker) (complex_at x.venue maker).limit

-- a record that is no 70
abbrev pub NoCross : Report → Type 0
NoCross (answer number refusal mask count) = Unit {0}
NoCross (trade series side price quantity taker maker) = Unit {0}
NoCross (pair id n quantity) = Unit {0}
NoCross (generated id series side price displayed quantity) = Unit {0}
NoCross (removed id series side cause) = Unit {0}
NoCross (crossed taker maker n quantity) = ⊥
NoCross (cancelled id quantity) = Unit {0}
NoCross (looked count) = Unit {0}

-- record by record: no 70, or the 70 of the next moment
pub data Dealt : List Moment → List Report → Type 0 where
  none : Dealt [] []
  other : {xs : List Moment} {r : Report} {rs : List Report} → NoCross r → Dealt xs rs → Dealt xs (r ∷ rs)
  deal : {x : Moment} {xs : List Moment} {r : Report} {rs : List Report} → Deal x r → Dealt xs rs → Dealt (x ∷ xs) (r ∷ rs)

-- The claim -----------------------------------------------------------------------------------

abbrev pub CrossesRespect : Type 0
CrossesRespect = (o : Opening) (cs : List Later) →
    let s = calls (opening o) cs in
    Dealt (in_all fresh_venue 0 s.messages) s.reports
