-- What each effect writes: records that fit their widths, and the fields stay in range. Nothing is asked of the venue but that.
use Rattle.std.specs.Prelude.{if◌then◌else◌}
use mathlib.Core.Path.{◌≡◌, subst, sym}
use mathlib.Core.Bool.{Bool, ◌&&◌, false, true}
use mathlib.Core.Logic.{◌⊎◌, inl, inr}
use mathlib.Core.List.{List, [], ◌∷◌}
use Prim.Native.Nat.{◌%◌, ◌*◌, ◌+◌, ◌/◌, ◌<◌, ◌≤◌, min, suc, zero, ℕ}
use native.Mathlib.Nat.{mul-le-mul}
use native.Mathlib.Omega.{arith}
use lib.Dec.{eqb, leb}
use borrow.Author.Tests.{leb-true}
use lib.IntN.{ℤ}
use lib.ListN.{get_or, length}
use Rattle.rules.specs.declared.Cause.{Cause}
use Rattle.rules.specs.declared.Cause.TheVariants.{Executed}
use Rattle.rules.specs.declared.Complex.{Complex}
use Rattle.rules.specs.declared.Leg.{Leg}
use Rattle.rules.specs.declared.Legging.{Legging}
use Rattle.rules.specs.declared.Message.{Message}
use Rattle.rules.specs.declared.Message.TheVariants.{Away, Cancel, Increment, LimitedSweep, Order, Percent, Status, Sweep, TwoLeg}
use Rattle.rules.specs.declared.Venue.{Venue}
use Rattle.rules.specs.declared.Verdict.{Verdict}
use Rattle.rules.specs.declared.Verdict.TheVariants.{Fails, Stands}
use Rattle.rules.specs.Base.{held}
use Rattle.rules.specs.Words.{complex_at, is_complex_of, legging_at, no_complex, no_legging, opposite, regular_at, with_legging, within}
use Rattle.rules.specs.Settings.{increment}
use Rattle.rules.specs.Records.{ForAll, Fits, FourSigned, Report, FourBytes, looked, removed}
use Rattle.rules.specs.Effects.{Effect, Turn, ◌⟫◌, ended, nothing, repeat, report, turned}
use Rattle.rules.specs.Prices.{clear_price, in_band, market_best, net, shown_size, weighed}
use Rattle.rules.specs.Removal.{goes, leavers, remove, remove_of, stayers}
use Rattle.rules.specs.Standing.{find_complex, other_clear, other_leg, parent_of, settle, verdict, show_again}
use Rattle.rules.specs.Trading.{pair_off, put_complex, put_regular, trade_at_price, trade_with}
use Rattle.rules.specs.Order.{enter_regular, hit, meet, meet_turn, order}
use Rattle.rules.specs.Generation.{generate, generate_leg, leg_price, make, makes, new_legging}
use Rattle.rules.specs.Complex.{any_closed, cancel, cancel_complex, cancel_regular, complex, complex_place, cross, cross_turn, each_of}
use Rattle.rules.specs.Complex.{examined, leg_in, leg_in_turn, legs_in, regular_place, limited_sweep, rests_regular, sweep, touch, touches, units_in}
use Rattle.rules.specs.Complex.{work}
use Rattle.rules.specs.Step.{accept, perform}
use Rattle.rules.proofs.Bounds.{band-first, band-second, clear-small, neg-i32, net-i32, new-fits, regular-small, displayed-small}
use Rattle.rules.proofs.Cases.{cross_turn-by, if-by, meet_turn-by, repeat-by, at-price-by}
use Rattle.rules.proofs.Filling.{cx, lg, reg}
use Rattle.rules.proofs.Generating.{Makes, made}
use Rattle.rules.proofs.Removing.{length-stayers}
use Rattle.rules.proofs.Settling.{SameOrGone, stayers-kept}
use Rattle.rules.proofs.Tests.{and_l, and_r}
use Rattle.rules.proofs.RefusalsLaws.{well_formed}
use Rattle.rules.proofs.Units.{units-open}
use Rattle.rules.proofs.Widths.{again-ranged, CxFits, LgFits, Ranged, away-ranged, closed-ranged, complex-fits, counted-ranged, each_append}
use Rattle.rules.proofs.Widths.{fill-ranged, fill_c-ranged, increment-ranged, last-ranged, no-cx, no-lg, order-fits, percent-ranged}
use Rattle.rules.proofs.Widths.{placed-ranged, put-ranged, put_c-ranged, reached-ranged, status-ranged, with-legging}

-- an effect that writes records that fit and leaves the fields in range
pub record Writes (e : Effect) : Type 0 where
  pub fits : ForAll Fits e.reports
  pub ranged : Ranged e.venue

pub writes_nothing : (v : Venue) → Ranged v → Writes (nothing v)
unfolding nothing
writes_nothing v r = record { fits = tt; ranged = r }

writes-report : (q : Report) (v : Venue) → Fits q → Ranged v → Writes (report q v)
unfolding report
writes-report q v h r = record { fits = (h, tt); ranged = r }

pub writes_then : (e : Effect) (f : Venue → Effect) → Writes e → ((v : Venue) → Ranged v → Writes (f v)) → Writes (e ⟫ f)
unfolding ◌⟫◌
writes_then e f a b =
    let k = b e.venue a.ranged in
    record { fits = each_append Fits e.reports (f e.venue).reports a.fits k.fits; ranged = k.ranged }

-- Removals ------------------------------------------------------------------------------------

goes-fit : (n : ℕ) (x : Verdict) (l : Legging) → n < 512 → LgFits l → ForAll Fits (goes n x l)
unfolding goes
goes-fit n Stands l s h = tt
goes-fit n (Fails c) l s h = go (held l.quantity)
  where
    go : (b : Bool) → ForAll Fits (if b then removed l.parent (n / 2) (n % 2) c ∷ [] else [])
    go true = ((h.parent, omega arith, omega arith), tt)
    go false = tt

leavers-fit : (f : ℕ → Legging → Verdict) (n : ℕ) (ls : List Legging) → n + length ls ≤ 512 → ((i : ℕ) → LgFits (get_or ls i no_legging)) → ForAll Fits (leavers f n ls)
unfolding leavers
leavers-fit f n [] s h = tt
leavers-fit f n (l ∷ ls) s h =
    each_append Fits (goes n (f n l) l) (leavers f (suc n) ls) (goes-fit n (f n l) l (omega arith) (h 0))
    (leavers-fit f (suc n) ls (omega arith) (λ i. h (suc i)))

pub writes-remove : (f : ℕ → Legging → Verdict) (v : Venue) → Ranged v → Writes (remove f v)
unfolding remove with_legging SameOrGone
writes-remove f v r = record {
  fits = leavers-fit f 0 v.legging (let z = r.len in omega arith) r.legging;
  ranged = with-legging r _ (λ i. go i (stayers-kept f 0 v.legging i)) (length-stayers f 0 v.legging);
}
  where
    go : (i : ℕ) → (get_or (stayers f 0 v.legging) i no_legging ≡ lg v i) ⊎ (get_or (stayers f 0 v.legging) i no_legging ≡ no_legging) → LgFits (get_or (stayers f 0 v.legging) i no_legging)
    go i (inl e) = subst LgFits (sym e) (r.legging i)
    go i (inr e) = subst LgFits (sym e) no-lg

writes-remove_of : (id : ℕ) (c : Cause) (v : Venue) → Ranged v → Writes (remove_of id c v)
unfolding remove_of
writes-remove_of id c v r = writes-remove _ v r

-- Trades --------------------------------------------------------------------------------------

writes-trade : (taker d i k : ℕ) (v : Venue) → FourBytes taker → d < 2 → k ≤ 30000 → Ranged v → Writes (trade_with taker d i k v)
unfolding trade_with regular_at
writes-trade taker d i k v t s q r =
    let o = r.regular i in
    let a = o.series in
    let p = o.price in
    writes-report _ _ (omega arith, omega arith, omega arith, omega arith, t, o.id) (fill-ranged i k v r)

pub writes-at-price : (taker s d p fuel k : ℕ) → FourBytes taker → d < 2 → k ≤ 30000 → (v : Venue) → Ranged v → Writes (trade_at_price fuel taker s d p k v)
writes-at-price taker s d p zero k t b q v r = unfold trade_at_price in (writes_nothing v r)
writes-at-price taker s d p (suc fuel) k t b q v r =
    at-price-by Writes fuel taker s d p k v (λ _. writes_nothing v r) (λ _ _. writes_nothing v r)
    (λ _ i o _. writes_then _ _ (writes-trade taker d i (min k (shown_size o)) v t b (omega arith) r) (writes-at-price taker s d p fuel _ t b (omega arith)))

-- An order ------------------------------------------------------------------------------------

writes-meet : (i j k : ℕ) (v : Venue) → k ≤ 10000 → Ranged v → Writes (meet i j k v)
unfolding meet regular_at
writes-meet i j k v q r = writes-trade _ _ j k _ (r.regular i).id (r.regular i).side (omega arith) (fill-ranged i k v r)

find-each : (P : Complex → Type 0) (id : ℕ) (cs : List Complex) → P no_complex → ((i : ℕ) → P (get_or cs i no_complex)) → P (find_complex id cs)
unfolding find_complex
find-each P id [] n h = n
find-each P id (c ∷ cs) n h = go (is_complex_of id c) (find-each P id cs n (λ i. h (suc i)))
  where
    go : (b : Bool) → P (find_complex id cs) → P (if b then c else find_complex id cs)
    go true k = h 0
    go false k = k

pub parent-fits : (v : Venue) → Ranged v → (l : Legging) → CxFits (parent_of v l)
unfolding parent_of
parent-fits v r l = find-each CxFits l.parent v.complex no-cx r.complex

other-side : (c : Complex) → CxFits c → (s : ℕ) → (other_leg c s).side < 2
unfolding other_leg
other-side c f s = go (eqb c.series1 s)
  where
    go : (b : Bool) → (if◌then◌else◌ {A = Leg} b (record { series = c.series2; side = c.side2 }) (record { series = c.series1; side = c.side1 })).side < 2
    go true = f.side2
    go false = f.side1

writes-pair_off : (i id : ℕ) (n : ℤ) (k : ℕ) → FourBytes id → FourSigned n → k ≤ 10000 → (v : Venue) → Ranged v → Writes (pair_off i id n k v)
unfolding pair_off
writes-pair_off i id n k u s q v r = writes_then _ _ (writes-report _ _ (u, s, omega arith) (fill_c-ranged i k v r)) (writes-remove_of _ Executed)

pub writes-hit : (i : ℕ) (l : Legging) (k : ℕ) (v : Venue) → LgFits l → k ≤ 10000 → Ranged v → Writes (hit i l k v)
unfolding hit regular_at other_clear
writes-hit i l k v f q r =
    let o = reg v i in
    let c = parent_of v l in
    let other = other_leg c o.series in
    let clear = clear_price v other.series (opposite other.side) in
    let rf = r.regular i in
    let a = rf.series in
    let b = rf.side in
    let p = f.price in
    let cf = parent-fits v r l in
    writes_then _ _
    (writes_then _ _
    (writes-report _ _ (omega arith, omega arith, omega arith, omega arith, rf.id, cf.id) (fill-ranged i k v r))
    (writes-at-price c.id other.series other.side clear k k cf.id (other-side c cf o.series) (omega arith)))
    (λ w x. writes-pair_off _ c.id _ k cf.id
    (net-i32 (opposite o.side) other.side l.price clear (omega arith)
    (omega (arith, clear-small v r other.series (opposite other.side)))) q w x)

-- Turns ---------------------------------------------------------------------------------------

abbrev TurnWrites : Turn → Type 0
TurnWrites ended = Unit {0}
TurnWrites (turned e) = Writes e

pub writes-repeat : (turn : Venue → Turn) → ((v : Venue) → Ranged v → TurnWrites (turn v)) → (fuel : ℕ) (v : Venue) → Ranged v → Writes (repeat fuel turn v)
writes-repeat turn ok zero v r = unfold repeat in (writes_nothing v r)
writes-repeat turn ok (suc fuel) v r =
    repeat-by Writes fuel turn v (λ _. writes_nothing v r) (λ e is. writes_then e _ (subst TurnWrites is (ok v r)) (writes-repeat turn ok fuel))

pub writes-meet_turn : (i : ℕ) (v : Venue) → Ranged v → TurnWrites (meet_turn i v)
unfolding regular_at legging_at
writes-meet_turn i v r =
    let q = (r.regular i).quantity in
    meet_turn-by TurnWrites i v (λ _. tt) (λ _ _ _. tt) (λ _ _ _. writes-hit i _ _ v (r.legging _) (omega arith) r) (λ _ j m _ _. writes-meet i j _ v (omega arith) r)

-- Complex orders ------------------------------------------------------------------------------

writes-cross : (i j k : ℕ) (v : Venue) → k ≤ 10000 → Ranged v → Writes (cross i j k v)
unfolding cross complex_at
writes-cross i j k v q r =
    let c = r.complex i in
    let m = r.complex j in
    writes_then _ _
    (writes_then _ _
    (writes-report _ _ (c.id, m.id, neg-i32 (cx v j).limit m.high m.low, omega arith) (fill_c-ranged j k _ (fill_c-ranged i k v r)))
    (writes-remove_of (cx v i).id Executed))
    (writes-remove_of (cx v j).id Executed)

writes-cross_turn : (i : ℕ) (v : Venue) → Ranged v → TurnWrites (cross_turn i v)
unfolding complex_at
writes-cross_turn i v r =
    let q = (r.complex i).quantity in
    cross_turn-by TurnWrites i v (λ _. tt) (λ _ _. tt) (λ _ j m _. writes-cross i j _ v (omega arith) r)

writes-touch : (i : ℕ) (v : Venue) → Ranged v → Writes (touch i v)
unfolding touch
writes-touch i v r = if-by Writes (touches v (complex_at v i)) (λ _. writes-remove _ v r) (λ _. writes_nothing v r)

writes-leg_in : (i a b k : ℕ) (v : Venue) → a ≤ 100000 → b ≤ 100000 → k ≤ 10000 → Ranged v → Writes (leg_in i a b k v)
unfolding leg_in complex_at net weighed
writes-leg_in i a b k v p q n r =
    let c = cx v i in
    let f = r.complex i in
    writes_then _ _
    (writes_then _ _
    (writes-at-price c.id c.series1 c.side1 a _ _ f.id f.side1 (mul-le-mul f.ratio1 n) v r)
    (writes-at-price c.id c.series2 c.side2 b _ _ f.id f.side2 (mul-le-mul f.ratio2 n)))
    (writes-pair_off i c.id _ k f.id (net-i32 c.side1 c.side2 (c.ratio1 * a) (c.ratio2 * b) (mul-le-mul f.ratio1 p) (mul-le-mul f.ratio2 q)) n)

writes-leg_in_turn : (i : ℕ) (v : Venue) → Ranged v → TurnWrites (leg_in_turn i v)
unfolding leg_in_turn complex_at
writes-leg_in_turn i v r =
    let c = cx v i in
    let q = (r.complex i).quantity in
    if-by TurnWrites (legs_in v c _ _ && held (units_in v c))
    (λ _. writes-leg_in i _ _ _ v (regular-small v r c.series1 (opposite c.side1)) (regular-small v r c.series2 (opposite c.side2)) (omega (arith, units-open v c)) r)
    (λ _. tt)

pub writes-work : (i : ℕ) (v : Venue) → Ranged v → Writes (work i v)
unfolding work
writes-work i v r =
    let n = (complex_at v i).quantity in
    if-by Writes (any_closed v (complex_at v i)) (λ _. writes_nothing v r)
    (λ _. writes_then _ _ (writes_then _ _ (writes-repeat (cross_turn i) (writes-cross_turn i) n v r) (writes-touch i))
    (writes-repeat (leg_in_turn i) (writes-leg_in_turn i) n))

-- Generation ----------------------------------------------------------------------------------

writes-make : (number : ℕ) (c : Complex) (s d : ℕ) (v : Venue) → CxFits c → held c.quantity ≡ true → s < 8 → d < 2 → Makes number v c s d → held
    (market_best v s (opposite d)) ≡ true → Ranged v → Writes (make number c s d v)
unfolding make new_legging
writes-make number c s d v f h s8 d2 m t r =
    let n = new-fits v c s d f h s8 d2 m t r in
    let a = n.price in
    let b = displayed-small _ (increment v s) d (leg_price v c s d) m.range in
    let q = f.quantity in
    writes_then _ _ (writes-remove _ v r)
    (λ w x. writes-report _ _ (f.id, omega arith, omega arith, omega arith, omega arith, omega arith) (counted-ranged number s _ (placed-ranged _ _ w n x)))

pub writes-leg : (number : ℕ) (c : Complex) (s d : ℕ) (v : Venue) → CxFits c → s < 8 → d < 2 →
    (in_band v c c.limit ≡ true → held (market_best v s (opposite d)) ≡ true) → Ranged v → Writes (generate_leg number c s d v)
unfolding generate_leg
writes-leg number c s d v f s8 d2 t r =
    if-by Writes (held c.quantity && makes number v c s d)
    (λ e.
    let m = made (and_r (held c.quantity) (makes number v c s d) e) in
    writes-make number c s d v f (and_l (held c.quantity) (makes number v c s d) e) s8 d2 m (t m.band) r)
    (λ _. writes_nothing v r)

pub writes-generate : (number i : ℕ) (v : Venue) → Ranged v → Writes (generate number i v)
unfolding generate complex_at
writes-generate number i v r =
    let c = cx v i in
    let f = r.complex i in
    writes_then _ _ (writes-leg number c c.series1 c.side1 v f f.series1 f.side1 (band-first v c c.limit) r)
    (λ w x. writes-leg number c c.series2 c.side2 w f f.series2 f.side2 (band-second w c c.limit) x)

-- Messages ------------------------------------------------------------------------------------

pub writes-settle : (v : Venue) → Ranged v → Writes (settle v)
unfolding settle
writes-settle v r = writes-remove (verdict (show_again v)) (show_again v) (again-ranged v r)

pub writes-each_of : (f : ℕ → Venue → Effect) → ((i : ℕ) (v : Venue) → Ranged v → Writes (f i v)) → (places : List ℕ) (v : Venue) → Ranged v → Writes (each_of f places v)
unfolding each_of
writes-each_of f ok [] v r = writes_nothing v r
writes-each_of f ok (i ∷ places) v r = writes_then _ _ (ok i v r) (writes-each_of f ok places)

writes-cancel : (id : ℕ) (v : Venue) → Ranged v → Writes (cancel id v)
unfolding cancel cancel_regular cancel_complex regular_at complex_at
writes-cancel id v r =
    let i = regular_place v id in
    let j = complex_place v id in
    writes_then _ _ (if-by Writes (rests_regular v id)
    (λ _. writes-report _ _ ((r.regular i).id, (let z = (r.regular i).quantity in omega arith)) (fill-ranged i _ v r))
    (λ _. writes_then _ _ (writes-report _ _ ((r.complex j).id, (let z = (r.complex j).quantity in omega arith)) (fill_c-ranged j _ v r)) (writes-remove_of _ _)))
    writes-settle

pub writes-perform : (number : ℕ) (m : Message) (v : Venue) → well_formed m ≡ true → Ranged v → Writes (perform number m v)
unfolding perform order enter_regular put_regular complex put_complex sweep limited_sweep
writes-perform number (Order o) v h r =
    writes_then _ _ (writes-repeat _ (writes-meet_turn _) o.quantity _ (let f = order-fits o (unfold well_formed in h) in put-ranged _ o _ f (last-ranged o.id v f.id r))) writes-settle
writes-perform number (TwoLeg c) v h r =
    writes_then _ _ (writes_then _ _
    (writes-work _ _ (let f = complex-fits c (unfold well_formed in h) in put_c-ranged _ c _ f (last-ranged c.id v f.id r))) writes-settle)
    (writes-generate number _)
writes-perform number (Cancel id) v h r = writes-cancel id v r
writes-perform number (Away s b o) v h r = writes-settle _ (away-ranged s b o v h r)
writes-perform number (Status s x) v h r = writes-settle _ (status-ranged s x v h r)
writes-perform number Sweep v h r =
    writes_then _ _ (writes_then _ _ (writes-each_of work writes-work _ v r) writes-settle) (writes-each_of (generate number) (writes-generate number) _)
writes-perform number (Increment s i e) v h r = writes-settle _ (increment-ranged number s i e v h r)
writes-perform number (Percent x e) v h r = writes-settle _ (percent-ranged number x e v h r)
writes-perform number (LimitedSweep n) v h r =
    let few = leb-true n 32 (and_r (leb 1 n) _ (unfold well_formed within in h)) in
    writes_then _ _ (writes_then _ _ (writes_then _ _
    (writes-report (looked (examined n v)) _ (unfold examined in (omega arith)) (reached-ranged _ v r)) (writes-each_of work writes-work _)) writes-settle)
    (writes-each_of (generate number) (writes-generate number) _)

pub writes-accept : (number : ℕ) (m : Message) (v : Venue) → well_formed m ≡ true → Ranged v → Writes (accept number m v)
unfolding accept
writes-accept number m v h r = writes_then _ _ (writes-perform number m v h r) (λ w x. writes_nothing _ (closed-ranged w x))
