-- Laws of pairs, hits and cancels, for the code that does them step by step.
use Rattle.std.specs.Prelude.{if◌then◌else◌, Option, Some, None, unwrap_or}
use mathlib.Core.Path.{◌≡◌, refl, sym, ap, ◌∙◌}
use mathlib.Core.Bool.{Bool, true, false, true≢false}
use mathlib.Core.List.{List, [], ◌∷◌}
use Prim.Native.Nat.{ℕ, suc, ◌*◌, ◌≤◌, ◌<◌}
use native.Mathlib.Omega.{arith}
use lib.Dec.{eqb}
use lib.ListN.{length, get_or, set}
use lib.Seq.{set-get_or}
use lib.IntN.{ℤ, pos, ◌+ℤ◌}
use Rattle.rules.specs.declared.Regular.{Regular}
use Rattle.rules.specs.declared.Complex.{Complex}
use Rattle.rules.specs.declared.Legging.{Legging}
use Rattle.rules.specs.declared.Leg.{Leg}
use Rattle.rules.specs.declared.Venue.{Venue}
use Rattle.rules.specs.declared.Cause.TheVariants.{Executed, Withdrawn}
use Rattle.rules.specs.Base.{place_where}
use Rattle.rules.specs.Words.{opposite, sign_times, no_complex, regular_at, complex_at, with_complex, is_complex_of}
use Rattle.rules.specs.Prices.{weighed, clear_price}
use Rattle.rules.specs.Records.{Report, trade, pair, cancelled}
use Rattle.rules.specs.Effects.{Effect, report, ◌⟫◌}
use Rattle.rules.specs.Removal.{remove_of}
use Rattle.rules.specs.Standing.{other_leg, other_clear, parent_of}
use Rattle.rules.specs.Trading.{less_complex, fill_regular, fill_complex, trade_with, trade_at_price, pair_off}
use Rattle.rules.specs.Order.{meet, hit}
use Rattle.rules.specs.Complex.{complex_place, rests_complex, cancel_regular, cancel_complex}
use Rattle.records.specs.Seen.{seen, ◌writes◌}
use Rattle.records.specs.Stage.{stage, ◌does◌}
use Rattle.records.proofs.StageLaws.{follow, does-report}
use Rattle.places.specs.Layout.{complexes_used, complex_in, venue_of}
use Rattle.places.proofs.Parts.{complex-past, complexes-few}
use Rattle.places.proofs.Tables.{used-length}
use Rattle.levels.specs.Grid.{LegsIn}
use Rattle.book.specs.Picks.{complex_found}
use Rattle.book.proofs.FirstPlace.{found_in, found-is, found-not}
use Rattle.trades.specs.declared.Pairing.{Pairing}
use Rattle.trades.specs.Hits.{pairing_of}

-- Places --------------------------------------------------------------------------------------

-- a place that is not in use has nothing to fill
pub fill-unused : (b : List ℕ) (i k : ℕ) → complexes_used b ≤ i → venue_of b ≡ fill_complex i k (venue_of b)
unfolding fill_complex
fill-unused b i k h =
    let e : less_complex k (complex_at (venue_of b) i) ≡ complex_at (venue_of b) i = ap (less_complex k) (complex-past b i h) ∙ none ∙ sym (complex-past b i h) in
    sym (ap (λ (c : Complex). with_complex (venue_of b) (set (venue_of b).complex i c)) e ∙ same)
  where
    none : less_complex k no_complex ≡ no_complex
    none = unfold less_complex in ap (λ (q : ℕ). record { id = 0; series1 = 0; side1 = 0; series2 = 0; side2 = 0; class = 0; limit = pos 0; quantity = q; ratio1 = 0; ratio2 = 0 }) (omega arith)

    same : with_complex (venue_of b) (set (venue_of b).complex i (complex_at (venue_of b) i)) ≡ venue_of b
    same = unfold complex_at in unfold with_complex in ap (λ (cs : List Complex). with_complex (venue_of b) cs) (set-get_or (venue_of b).complex i no_complex)

-- no element passes: the first that does is past the end
not_found : {A : Type 0} (f : A → Bool) (d : A) (l : List A) → f (get_or l (place_where f l) d) ≡ false → place_where f l ≡ length l
unfolding place_where
not_found f d [] h = refl
not_found f d (x ∷ l) h = go (f x) refl h (not_found f d l)
  where
    go : (t : Bool) → f x ≡ t → f (get_or (x ∷ l) (if t then 0 else suc (place_where f l)) d) ≡ false → (f (get_or l (place_where f l) d) ≡ false → place_where f l ≡ length l) →
        (if t then 0 else suc (place_where f l)) ≡ suc (length l)
    go true e k r = absurd (true≢false (sym e ∙ k))
    go false e k r = ap suc (r k)

module _ (b : List ℕ) (id : ℕ) where
  pub place_found : (j : ℕ) → Some j ≡ complex_found (venue_of b) id → j ≡ complex_place (venue_of b) id
  unfolding complex_found rests_complex complex_place complex_at found_in
  place_found j e = sym (found-is (is_complex_of id) no_complex (venue_of b).complex j e).0

  pub place-nothing : None ≡ complex_found (venue_of b) id → 32 ≡ complex_place (venue_of b) id
  unfolding complex_found rests_complex complex_place complex_at found_in
  place-nothing e =
      sym (not_found (is_complex_of id) no_complex (venue_of b).complex (found-not (is_complex_of id) no_complex (venue_of b).complex e)
      ∙ (unfold venue_of in used-length (complex_in b) no_complex (complexes_used b) 32 (complexes-few b)))

  pub place_end : (x : Option ℕ) → x ≡ complex_found (venue_of b) id → unwrap_or x 32 ≡ complex_place (venue_of b) id
  place_end None e = place-nothing e
  place_end (Some j) e = place_found j e

-- Pairs ---------------------------------------------------------------------------------------

-- a record and a venue, and then a removal
told-then : (r : Report) (f : Venue → Effect) (w x y : Venue) (l₀ l₁ l₂ : List ℕ) (a₀ a₁ a₂ : ℕ) → w ≡ y → seen l₁ a₁ ≡ seen l₀ a₀ writes (r ∷ []) →
    stage x l₂ a₂ ≡ seen l₁ a₁ does f w → stage x l₂ a₂ ≡ seen l₀ a₀ does (report r y ⟫ f)
told-then r f w x y l₀ l₁ l₂ a₀ a₁ a₂ e p q =
    follow (seen l₀ a₀) (report r y) f w x l₁ l₂ a₁ a₂ (does-report w l₁ l₀ a₁ a₀ r p ∙ ap (λ (z : Venue). seen l₀ a₀ does report r z) e) q

-- the net as the machine has it is m
pub pair-law : (i id : ℕ) (m n : ℤ) (k : ℕ) (v w x : Venue) (l₀ l₁ l₂ : List ℕ) (a₀ a₁ a₂ : ℕ) → m ≡ n → w ≡ fill_complex i k v →
    seen l₁ a₁ ≡ seen l₀ a₀ writes (pair id m k ∷ []) → stage x l₂ a₂ ≡ seen l₁ a₁ does remove_of id Executed w →
    stage x l₂ a₂ ≡ seen l₀ a₀ does pair_off i id n k v
unfolding pair_off
pair-law i id m n k v w x l₀ l₁ l₂ a₀ a₁ a₂ e q p r =
    told-then (pair id m k) (remove_of id Executed) w x (fill_complex i k v) l₀ l₁ l₂ a₀ a₁ a₂ q p r
    ∙ ap (λ (z : ℤ). seen l₀ a₀ does (report (pair id z k) (fill_complex i k v) ⟫ remove_of id Executed)) e

-- Hits ----------------------------------------------------------------------------------------

-- the other leg has a place in the grid
pub leg-in : (c : Complex) (s : ℕ) → LegsIn c → ((other_leg c s).series < 8) × ((other_leg c s).side < 2)
unfolding other_leg
leg-in c s h = go (eqb c.series1 s)
  where
    go : (t : Bool) → let leg : Leg = (if t then record { series = c.series2; side = c.side2 } else record { series = c.series1; side = c.side1 }) in (leg.series < 8) × (leg.side < 2)
    go true = (h.second, h.side2)
    go false = (h.first, h.side1)

pub opposite-in : (d : ℕ) → opposite d < 2
unfolding opposite
opposite-in d = omega arith

one_of : (d p : ℕ) → weighed 1 d p ≡ sign_times d (pos p)
unfolding weighed
one_of d p = let z : 1 * p ≡ p = omega arith in ap (λ (x : ℕ). sign_times d (pos x)) z

pub pairing-law : (v : Venue) (l : Legging) (s d : ℕ) (c : Complex) (leg : Leg) (facing near clear : ℕ) (n m : ℤ) →
    c ≡ parent_of v l → leg ≡ other_leg c s → facing ≡ opposite leg.side → clear ≡ clear_price v leg.series facing → near ≡ opposite d →
    n ≡ weighed 1 near l.price +ℤ weighed 1 leg.side clear → m ≡ n →
    ◌≡◌ {A = Pairing} (record { id = c.id; series = leg.series; side = leg.side; clear = clear; net = m }) (pairing_of v l s d)
unfolding pairing_of other_clear
pairing-law v l s d c leg facing near clear n m ec eo ef el en e q =
    rw (q, e, one_of near l.price, one_of leg.side clear, en, el, ef, eo, ec)

-- a hit, by what it pairs
hit-is : (i : ℕ) (l : Legging) (k : ℕ) (v : Venue) → let o = regular_at v i in let p = pairing_of v l o.series o.side in
    hit i l k v ≡ (report (trade o.series o.side l.price k o.id p.id) (fill_regular i k v)
    ⟫ trade_at_price k p.id p.series p.side p.clear k
    ⟫ (λ w. pair_off (complex_place w p.id) p.id p.net k w))
unfolding hit pairing_of complex_place
hit-is i l k v = refl

pub hit-law : (i : ℕ) (l : Legging) (k : ℕ) (v w x y : Venue) (l₀ l₁ l₂ l₃ : List ℕ) (a₀ a₁ a₂ a₃ : ℕ) (o : Regular) (p : Pairing) (n : ℤ) (j : ℕ) →
    n ≡ p.net → o ≡ regular_at v i → p ≡ pairing_of v l o.series o.side → w ≡ fill_regular i k v →
    seen l₁ a₁ ≡ seen l₀ a₀ writes (trade o.series o.side l.price k o.id p.id ∷ []) →
    stage x l₂ a₂ ≡ seen l₁ a₁ does trade_at_price k p.id p.series p.side p.clear k w →
    j ≡ complex_place x p.id →
    stage y l₃ a₃ ≡ seen l₂ a₂ does pair_off j p.id n k x →
    stage y l₃ a₃ ≡ seen l₀ a₀ does hit i l k v
hit-law i l k v w x y l₀ l₁ l₂ l₃ a₀ a₁ a₂ a₃ o p n j en eo ep ew h₁ h₂ ej h₃ =
    let step : Regular → Pairing → Effect = λ o p.
    report (trade o.series o.side l.price k o.id p.id) (fill_regular i k v)
    ⟫ trade_at_price k p.id p.series p.side p.clear k
    ⟫ (λ z. pair_off (complex_place z p.id) p.id p.net k z) in
    follow (seen l₀ a₀) (report (trade o.series o.side l.price k o.id p.id) (fill_regular i k v) ⟫ trade_at_price k p.id p.series p.side p.clear k)
    (λ z. pair_off (complex_place z p.id) p.id p.net k z) x y l₂ l₃ a₂ a₃
    (told-then _ _ w x (fill_regular i k v) l₀ l₁ l₂ a₀ a₁ a₂ ew h₁ h₂)
    (h₃ ∙ ap (λ (z : ℤ). seen l₂ a₂ does pair_off j p.id z k x) en ∙ ap (λ (z : ℕ). seen l₂ a₂ does pair_off z p.id p.net k x) ej)
    ∙ ap (λ (z : Pairing). seen l₀ a₀ does step o z) ep
    ∙ ap (λ (z : Regular). seen l₀ a₀ does step z (pairing_of v l z.series z.side)) eo
    ∙ ap (λ (e : Effect). seen l₀ a₀ does e) (sym (hit-is i l k v))

-- Meeting -------------------------------------------------------------------------------------

pub meet-law : (i j k : ℕ) (v w x : Venue) (l₀ l₁ : List ℕ) (a₀ a₁ : ℕ) (o : Regular) → o ≡ regular_at v i → w ≡ fill_regular i k v →
    stage x l₁ a₁ ≡ seen l₀ a₀ does trade_with o.id o.side j k w → stage x l₁ a₁ ≡ seen l₀ a₀ does meet i j k v
unfolding meet
meet-law i j k v w x l₀ l₁ a₀ a₁ o eo ew h =
    h ∙ ap (λ (z : Regular). seen l₀ a₀ does trade_with z.id z.side j k w) eo
    ∙ ap (λ (z : Venue). seen l₀ a₀ does trade_with (regular_at v i).id (regular_at v i).side j k z) ew

-- Cancels -------------------------------------------------------------------------------------

pub cancel-law : (i : ℕ) (v w : Venue) (l₀ l₁ : List ℕ) (a₀ a₁ : ℕ) (o : Regular) → o ≡ regular_at v i → w ≡ fill_regular i o.quantity v →
    seen l₁ a₁ ≡ seen l₀ a₀ writes (cancelled o.id o.quantity ∷ []) → stage w l₁ a₁ ≡ seen l₀ a₀ does cancel_regular i v
unfolding cancel_regular
cancel-law i v w l₀ l₁ a₀ a₁ o eo ew h =
    does-report w l₁ l₀ a₁ a₀ _ h
    ∙ ap (λ (z : Venue). seen l₀ a₀ does report (cancelled o.id o.quantity) z) ew
    ∙ ap (λ (z : Regular). seen l₀ a₀ does report (cancelled z.id z.quantity) (fill_regular i z.quantity v)) eo

pub cancel-complex-law : (i : ℕ) (v w x : Venue) (l₀ l₁ l₂ : List ℕ) (a₀ a₁ a₂ : ℕ) (c : Complex) → c ≡ complex_at v i → w ≡ fill_complex i c.quantity v →
    seen l₁ a₁ ≡ seen l₀ a₀ writes (cancelled c.id c.quantity ∷ []) → stage x l₂ a₂ ≡ seen l₁ a₁ does remove_of c.id Withdrawn w →
    stage x l₂ a₂ ≡ seen l₀ a₀ does cancel_complex i v
unfolding cancel_complex
cancel-complex-law i v w x l₀ l₁ l₂ a₀ a₁ a₂ c ec ew h r =
    told-then (cancelled c.id c.quantity) (remove_of c.id Withdrawn) w x (fill_complex i c.quantity v) l₀ l₁ l₂ a₀ a₁ a₂ ew h r
    ∙ ap (λ (z : Complex). seen l₀ a₀ does (report (cancelled z.id z.quantity) (fill_complex i z.quantity v) ⟫ remove_of z.id Withdrawn)) ec
