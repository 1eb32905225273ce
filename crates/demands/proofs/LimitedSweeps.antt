-- What a limited sweep looks at, by ids; what each message leaves of the id reached; and of messages one after another the turns of two orders.
use Rattle.std.specs.Prelude.{if◌then◌else◌}
use mathlib.Core.Path.{◌∙◌, ◌≡◌, ap, refl, subst, sym}
use mathlib.Core.Bool.{Bool, ◌&&◌, false, not, true}
use mathlib.Core.Logic.{◌≢◌, ◌⊎◌, inl, inr, ⊎_swap}
use mathlib.Core.List.Memᴰ
use mathlib.Core.List.{List, Memᴰ, [], ◌++◌, ◌∷◌, map, map-append}
use Prim.Native.Nat.{◌+◌, ◌<◌, min, suc, zero, ℕ}
use native.Mathlib.Decide.{dec_lt}
use native.Mathlib.Nat.{add-zero, zero-add}
use native.Mathlib.Omega.{arith}
use lib.Dec.{eqb, ltb}
use lib.ListN.{get_or, length, length-map, take}
use borrow.Author.Tests.{eq-eqb, eqb-false, eqb-true, leb-true}
use Rattle.rules.specs.declared.Complex.{Complex}
use Rattle.rules.specs.declared.Message.{Message}
use Rattle.rules.specs.declared.Message.TheVariants.{Away, Cancel, Increment, LimitedSweep, Order, Percent, Status, Sweep, TwoLeg}
use Rattle.rules.specs.declared.Venue.{Venue}
use Rattle.rules.specs.Base.{held, keep}
use Rattle.rules.specs.Words.{complex_at, is_id, no_complex, with_complex, with_editions, with_generations, with_last, with_legging, with_reached, with_regular, with_series, within}
use Rattle.rules.specs.Settings.{enter_edition}
use Rattle.rules.specs.Messages.{message_form, message_of}
use Rattle.rules.specs.Records.{Report, looked}
use Rattle.rules.specs.Effects.{Effect, ◌⟫◌, nothing, report}
use Rattle.rules.specs.Removal.{remove}
use Rattle.rules.specs.Standing.{settle, show_again}
use Rattle.rules.specs.Trading.{fill_complex, fill_regular, put_complex, put_regular}
use Rattle.rules.specs.Order.{enter_regular, order}
use Rattle.rules.specs.Generation.{counted, generate, generate_leg, make, makes, placed}
use Rattle.rules.specs.Complex.{complex, each_of, examined, going_round, id_reached, limited_sweep, places_of, sweep, work}
use Rattle.rules.specs.Places.{close_gaps}
use Rattle.rules.specs.Refusals.{complex_in_range, refusal, two_leg_in_range}
use Rattle.rules.specs.Step.{accept, answered, perform, set_away, set_figure, set_status, step}
use Rattle.demands.specs.Soundness.{SoundAt, SoundVenue}
use Rattle.demands.specs.Truth.{answer_of, venue_after}
use Rattle.demands.specs.LimitedSweeps.{Among, InTurn, Limited, LimitedSweeps, NoLook, Rises, Stays, last_of, looks, looks_all, looks_by, looks_in, resting, round}
use Rattle.rules.proofs.CallsLaws.{step_by}
use Rattle.rules.proofs.Cases.{if-by}
use Rattle.rules.proofs.Filling.{FewerC, cx, fewer_c-refl, fewer_c-trans}
use Rattle.rules.proofs.EffectsLaws.{Lasts, keeps-cancel, keeps-each_of, keeps-matching, keeps-settle, keeps-work}
use Rattle.rules.proofs.Quiet.{All, Others, all-cancel, all-each_of, all-generate, all_nothing, all-order, all-settle, all_then, all-work}
use Rattle.rules.proofs.Sweeping.{fewer-lasts, generate-fewer}
use Rattle.rules.proofs.Takers.{Works, told-each_of, told-generate, told-remove, told-then, told-work}
use Rattle.rules.proofs.Tests.{and_l, and_r}
use Rattle.rules.proofs.Traffic.{looked-count, round-all}
use Rattle.demands.proofs.Calls.{stays-sound}
use Rattle.demands.proofs.Homes.{Invariant}
use Rattle.demands.proofs.Rounds.{Turns, along, no-turns, path-front, round-path}
use Rattle.demands.proofs.SoundnessLaws.{sound-out}

-- Ids -----------------------------------------------------------------------------------------

-- orders in rising id by place have rising ids
rises-from : (low : ℕ) (cs : List Complex) → ((i : ℕ) → held (get_or cs i no_complex).quantity ≡ true → low < (get_or cs i no_complex).id) →
    ((i j : ℕ) → i < j → held (get_or cs i no_complex).quantity ≡ true → held (get_or cs j no_complex).quantity ≡ true → (get_or cs i no_complex).id < (get_or cs j no_complex).id) →
    Rises low (map (λ (c : Complex). c.id) (keep (λ (c : Complex). held c.quantity) cs))
unfolding keep
rises-from low [] a r = tt
rises-from low (c ∷ cs) a r = go (held c.quantity) refl (λ low a. rises-from low cs a (λ i j l. r (suc i) (suc j) (omega arith)))
  where
    tail : List Complex
    tail = keep (λ (c : Complex). held c.quantity) cs

    go : (b : Bool) → held c.quantity ≡ b →
        ((low : ℕ) → ((i : ℕ) → held (get_or cs i no_complex).quantity ≡ true → low < (get_or cs i no_complex).id) → Rises low (map (λ (c : Complex). c.id) tail)) →
        Rises low (map (λ (c : Complex). c.id) (if b then c ∷ tail else tail))
    go true e on = (a 0 e, on c.id (λ i h. r 0 (suc i) (omega arith) e h))
    go false e on = on low (λ i h. a (suc i) h)

some_id : (c : Complex) → complex_in_range c ≡ true → 0 < c.id
unfolding complex_in_range two_leg_in_range is_id within
some_id c h = let a = leb-true 1 c.id (search (and_l, and_r, h) depth 16) in omega arith

resting-rises : (v : Venue) → Invariant v → Rises 0 (resting v)
unfolding resting
resting-rises v k =
    rises-from 0 v.complex (λ i h. some_id (cx v i) ((k.ranged.complex i).ok h)) k.fine.good.rise2

-- the ids at places that pass a test of ids
ids-of : (all : List Complex) (g : ℕ → Bool) (n : ℕ) (cs : List Complex) → ((j : ℕ) → get_or all (n + j) no_complex ≡ get_or cs j no_complex) →
    map (λ i. (get_or all i no_complex).id) (places_of (λ c. g c.id) n cs) ≡ keep g (map (λ (c : Complex). c.id) (keep (λ (c : Complex). held c.quantity) cs))
unfolding places_of keep
ids-of all g n [] same = refl
ids-of all g n (c ∷ cs) same =
    go (held c.quantity) (g c.id) refl (ids-of all g (suc n) cs (λ j. ap (λ (m : ℕ). get_or all m no_complex) (omega arith) ∙ same (suc j)))
  where
    id : ℕ → ℕ
    id i = (get_or all i no_complex).id

    here : id n ≡ c.id
    here = ap (λ (m : ℕ). (get_or all m no_complex).id) (sym (add-zero n)) ∙ ap (λ (x : Complex). x.id) (same 0)

    places : List ℕ
    places = places_of (λ c. g c.id) (suc n) cs

    rest : List Complex
    rest = keep (λ (c : Complex). held c.quantity) cs

    go : (a b : Bool) → g c.id ≡ b → map id places ≡ keep g (map (λ (c : Complex). c.id) rest) →
        map id (if a && b then n ∷ places else places) ≡ keep g (map (λ (c : Complex). c.id) (if a then c ∷ rest else rest))
    go true true e ih = rw (e, here, ih)
    go true false e ih = rw (e, ih)
    go false b e ih = ih

map-front : (f : ℕ → ℕ) (n : ℕ) (is : List ℕ) → map f (take n is) ≡ take n (map f is)
map-front f zero is = refl
map-front f (suc n) [] = refl
map-front f (suc n) (i ∷ is) = ap (λ (l : List ℕ). f i ∷ l) (map-front f n is)

-- those that a limited sweep looks at
places-looks : (n : ℕ) (v : Venue) → map (λ i. (complex_at v i).id) (take n (going_round v)) ≡ looks n v
unfolding looks round resting going_round complex_at
places-looks n v =
    let id : ℕ → ℕ = λ i. (get_or v.complex i no_complex).id in
    map-front id n _
    ∙ ap (take n) (map-append id (places_of (λ c. ltb v.reached c.id) 0 v.complex) (places_of (λ c. not (ltb v.reached c.id)) 0 v.complex)
    ∙ ap2 (ids-of v.complex (ltb v.reached) 0 v.complex same) (ids-of v.complex (λ i. not (ltb v.reached i)) 0 v.complex same))
  where
    same : (j : ℕ) → get_or v.complex (0 + j) no_complex ≡ get_or v.complex j no_complex
    same j = rw (zero-add j)

    ap2 : {a b c d : List ℕ} → a ≡ c → b ≡ d → a ++ b ≡ c ++ d
    ap2 e f = rw (e, f)

looks-lesser : (n : ℕ) (v : Venue) → length (looks n v) ≡ examined n v
looks-lesser n v =
    ap (λ (l : List ℕ). length l) (sym (places-looks n v)) ∙ length-map (take n (going_round v)) (λ i. (complex_at v i).id) ∙ looked-count n v

resting-many : (n : ℕ) (v : Venue) → examined n v ≡ min n (length (resting v))
unfolding examined resting
resting-many n v = ap (min n) (round-all v ∙ sym (length-map (keep (λ (c : Complex). held c.quantity) v.complex) (λ c. c.id)))

reached-last : (v : Venue) (places : List ℕ) → id_reached v places ≡ last_of v.reached (map (λ i. (complex_at v i).id) places)
unfolding id_reached last_of
reached-last v [] = refl
reached-last v (i ∷ []) = refl
reached-last v (i ∷ j ∷ places) = reached-last v (j ∷ places)

reached-looks : (n : ℕ) (v : Venue) → id_reached v (take n (going_round v)) ≡ last_of v.reached (looks n v)
reached-looks n v = reached-last v (take n (going_round v)) ∙ ap (last_of v.reached) (places-looks n v)

-- What messages leave -------------------------------------------------------------------------

no-look : Others NoLook
no-look = record { trades = λ _ _ _ _ _ _. tt; pairs = λ _ _ _. tt; removals = λ _ _ _ _. tt; cancels = λ _ _. tt }

module _ (r : ℕ) where
  abbrev Reached : Venue → Type 0
  Reached v = v.reached ≡ r

  lasts : Lasts Reached
  unfolding fill_regular fill_complex remove show_again with_regular with_complex with_legging
  lasts = record { fill_r = λ i k v h. h; fill_c = λ i k v h. h; gone = λ f v h. h; again = λ v h. h }

  leg-keeps : (n : ℕ) (c : Complex) (s d : ℕ) (v : Venue) → Reached v → Reached (generate_leg n c s d v).venue
  unfolding generate_leg make report nothing ◌⟫◌ remove placed counted with_legging with_generations
  leg-keeps n c s d v h = if-by (λ (e : Effect). Reached e.venue) (held c.quantity && makes n v c s d) (λ _. h) (λ _. h)

  -- an effect that leaves the id reached, and tells no 72
  record Leaves (e : Effect) : Type 0 where
    left : Reached e.venue
    silent : All NoLook e

  leaves-then : (e : Effect) (f : Venue → Effect) → Leaves e → Leaves (f e.venue) → Leaves (e ⟫ f)
  leaves-then e f a b = record { left = unfold ◌⟫◌ in b.left; silent = all_then NoLook no-look e f a.silent b.silent }

  -- one after another
  leaves-on : (e : Effect) (f : Venue → Effect) → Leaves e → ((w : Venue) → Reached w → Leaves (f w)) → Leaves (e ⟫ f)
  leaves-on e f a k = record {
    left = unfold ◌⟫◌ in (k e.venue a.left).left;
    silent = all_then NoLook no-look e f a.silent (k e.venue a.left).silent;
  }

  leaves-settle : (v : Venue) → Reached v → Leaves (settle v)
  leaves-settle v h = record { left = keeps-settle lasts v h; silent = all-settle NoLook no-look v }

  leaves-closed : (v : Venue) → Reached v → Leaves (nothing (close_gaps v))
  leaves-closed v h = record { left = unfold nothing close_gaps with_regular with_complex in h; silent = all_nothing NoLook no-look _ }

  says-work : (i : ℕ) (v : Venue) → All NoLook (work i v)
  says-work = all-work NoLook no-look (λ _ _ _ _. tt)

  leaves-work : (i : ℕ) (v : Venue) → Reached v → Leaves (work i v)
  leaves-work i v h = record { left = keeps-work lasts i v h; silent = says-work i v }

  generate-keeps : (n i : ℕ) (v : Venue) → Reached v → Reached (generate n i v).venue
  unfolding generate ◌⟫◌
  generate-keeps n i v h = leg-keeps n _ _ _ _ (leg-keeps n _ _ _ v h)

  says-generate : (n i : ℕ) (v : Venue) → All NoLook (generate n i v)
  says-generate = all-generate NoLook no-look (λ _ _ _ _ _ _. tt)

  leaves-generate : (n i : ℕ) (v : Venue) → Reached v → Leaves (generate n i v)
  leaves-generate n i v h = record { left = generate-keeps n i v h; silent = says-generate n i v }

  leaves-each_of : (f : ℕ → Venue → Effect) → ((i : ℕ) (v : Venue) → Reached v → Reached (f i v).venue) → ((i : ℕ) (v : Venue) → All NoLook (f i v)) →
      (places : List ℕ) (v : Venue) → Reached v → Leaves (each_of f places v)
  leaves-each_of f ok says places v h = record { left = keeps-each_of Reached f ok places v h; silent = all-each_of NoLook no-look f says places v }

  -- every message but a limited sweep
  leaves-perform : (n : ℕ) (m : Message) (v : Venue) → ((k : ℕ) → m ≢ LimitedSweep k) → Reached v → Leaves (perform n m v)
  unfolding perform complex put_complex sweep set_away set_status set_figure enter_edition with_complex with_series with_editions with_last
  leaves-perform n (Order o) v but h = record {
    left = unfold order enter_regular put_regular with_regular with_last ◌⟫◌ in (keeps-settle lasts _ (keeps-matching lasts _ _ _ h));
    silent = all-order NoLook no-look o _;
  }
  leaves-perform n (TwoLeg c) v but h = leaves-on _ _ (leaves-on _ settle (leaves-work _ _ h) leaves-settle) (leaves-generate n _)
  leaves-perform n (Cancel id) v but h = record { left = keeps-cancel lasts id v h; silent = all-cancel NoLook no-look id v }
  leaves-perform n (Away s b o) v but h = leaves-settle _ h
  leaves-perform n (Status s x) v but h = leaves-settle _ h
  leaves-perform n Sweep v but h =
      leaves-on _ _ (leaves-on _ settle (leaves-each_of work (keeps-work lasts) says-work _ v h) leaves-settle) (leaves-each_of (generate n) (generate-keeps n) (says-generate n) _)
  leaves-perform n (Increment s i e) v but h = leaves-settle _ h
  leaves-perform n (Percent x e) v but h = leaves-settle _ h
  leaves-perform n (LimitedSweep k) v but h = absurd (but k refl)

-- Who takes and who generates ------------------------------------------------------------------

mem-map : (f : ℕ → ℕ) {i : ℕ} {is : List ℕ} → Memᴰ i is → Memᴰ (f i) (map f is)
mem-map f (Memᴰ.head e) = Memᴰ.head (ap f e)
mem-map f (Memᴰ.tail m) = Memᴰ.tail (mem-map f m)

-- a sweep of the orders at some places of v, upon books that have no more of each complex order
module _ (v : Venue) (places : List ℕ) where
  abbrev ids : List ℕ
  ids = map (λ i. (complex_at v i).id) places

  abbrev Since : Venue → Type 0
  Since w = FewerC w.complex v.complex

  own : (i : ℕ) → Memᴰ i places → (w : Venue) → Since w → Memᴰ (complex_at w i).id ids
  unfolding complex_at
  own i m w h = Memᴰ.cast (h.lesser i).id (mem-map (λ i. (complex_at v i).id) m)

  works : (x : ℕ) → Memᴰ x ids → Works (Among ids) x
  works x m = record { takes = record { trades = λ _ _ _ _ _. m; pairs = λ _ _. m; removals = λ _ _ _ _. tt }; crosses = λ _ _ _. m }

  among-work : (w : Venue) → Since w → All (Among ids) (each_of work places w)
  among-work = told-each_of (Among ids) Since work places (λ i m w h. (told-work (Among ids) i w (works _ (own i m w h)), keeps-work (fewer-lasts v) i w h))

  among-settle : (w : Venue) → All (Among ids) (settle w)
  unfolding settle
  among-settle w = told-remove (Among ids) (λ _ _ _ _. tt) _ _

  among-generate : (number : ℕ) (w : Venue) → Since w → All (Among ids) (each_of (generate number) places w)
  among-generate number =
      told-each_of (Among ids) Since (generate number) places
      (λ i m w h. (told-generate (Among ids) (λ _ _ _ _. tt) number i w (λ _ _ _ _ _. own i m w h), fewer_c-trans (generate-fewer number i w) h))

  settled-since : (w : Venue) → Since w → Since (each_of work places w ⟫ settle).venue
  unfolding ◌⟫◌
  settled-since w h = keeps-settle (fewer-lasts v) _ (keeps-each_of Since work (keeps-work (fewer-lasts v)) places w h)

  pub among-sweep : (number : ℕ) (w : Venue) → Since w → All (Among ids) (each_of work places w ⟫ settle ⟫ each_of (generate number) places)
  among-sweep number w h =
      told-then (Among ids) _ _ (told-then (Among ids) _ _ (among-work w h) (among-settle _)) (among-generate number _ (settled-since w h))

-- a limited sweep from its 72 on, and the gaps closed
after_look : (number n : ℕ) → Venue → Effect
after_look number n v =
    let places = take n (going_round v) in
    each_of work places (with_reached v (id_reached v places)) ⟫ settle ⟫ each_of (generate number) places ⟫ (λ w. nothing (close_gaps w))

after-leaves : (number n : ℕ) (v : Venue) → Leaves (last_of v.reached (looks n v)) (after_look number n v)
unfolding after_look with_reached
after-leaves number n v =
    let r = last_of v.reached (looks n v) in
    leaves-on r _ _ (leaves-on r _ _ (leaves-on r _ settle (leaves-each_of r work (keeps-work (lasts r)) (says-work r) _ _ (reached-looks n v)) (leaves-settle r))
    (leaves-each_of r (generate number) (generate-keeps r number) (says-generate r number) _)) (leaves-closed r)

after-among : (number n : ℕ) (v : Venue) → All (Among (looks n v)) (after_look number n v)
unfolding after_look nothing with_reached
after-among number n v =
    let places = take n (going_round v) in
    subst (λ (ids : List ℕ). All (Among ids) (after_look number n v)) (places-looks n v)
    (told-then (Among (ids v places)) _ _ (among-sweep v places number _ (fewer_c-refl _)) tt)

sweep-reports : (number n : ℕ) (v : Venue) → (accept number (LimitedSweep n) v).reports ≡ looked (examined n v) ∷ (after_look number n v).reports
unfolding accept perform limited_sweep report ◌⟫◌ after_look
sweep-reports number n v = refl

sweep-venue : (number n : ℕ) (v : Venue) → (accept number (LimitedSweep n) v).venue ≡ (after_look number n v).venue
unfolding accept perform limited_sweep report ◌⟫◌ after_look
sweep-venue number n v = refl

-- One message ---------------------------------------------------------------------------------

accepted-is : (v : Venue) (number : ℕ) (bs : List ℕ) (m : Message) → message_of bs ≡ m → refusal v bs ≡ 0 →
    (if eqb (refusal v bs) 0 then accept number (message_of bs) v else nothing v) ≡ accept number m v
accepted-is v number bs m is ok = rw (eq-eqb (refusal v bs) 0 ok, is)

limited : (v : Venue) → SoundVenue v → (number : ℕ) (bs : List ℕ) (n : ℕ) → message_of bs ≡ LimitedSweep n → refusal v bs ≡ 0 → Limited v number bs n
unfolding step answered answer_of venue_after
limited v s number bs n is ok = record {
  rising = resting-rises v (sound-out v s);
  lesser = looks-lesser n v ∙ resting-many n v;
  places = places-looks n v;
  effects = (after_look number n v).reports;
  written = written;
  once = (after-leaves number n v).silent;
  only = after-among number n v;
  reached = reached;
}
  where
    written : (step v number bs).effect.reports ≡ answer_of v number bs ∷ looked (length (looks n v)) ∷ (after_look number n v).reports
    written =
        ap (λ (e : Effect). answer_of v number bs ∷ e.reports) (accepted-is v number bs (LimitedSweep n) is ok)
        ∙ ap (λ (rs : List Report). answer_of v number bs ∷ rs) (sweep-reports number n v ∙ ap (λ (k : ℕ). looked k ∷ (after_look number n v).reports) (sym (looks-lesser n v)))

    reached : (venue_after v number bs).reached ≡ last_of v.reached (looks n v)
    reached = ap (λ (e : Effect). e.venue.reached) (accepted-is v number bs (LimitedSweep n) is ok) ∙ ap (λ (w : Venue). w.reached) (sweep-venue number n v) ∙ (after-leaves number n v).left

-- refused, or another
other : (v : Venue) (number : ℕ) (bs : List ℕ) → ((n : ℕ) → message_of bs ≡ LimitedSweep n → refusal v bs ≢ 0) → Leaves v.reached (step v number bs).effect
unfolding step answered
other v number bs but =
    let e = step_by (Leaves v.reached) v number bs
    (λ ok. unfold accept in (leaves-on v.reached _ _ (leaves-perform v.reached number (message_of bs) v (λ n is. but n is ok) refl) (leaves-closed v.reached)))
    (λ _. record { left = unfold nothing in refl; silent = all_nothing NoLook no-look v }) in
    record { left = e.left; silent = (tt, e.silent) }

-- Messages one after another ------------------------------------------------------------------

-- a message that is a limited sweep, or another
data Kind (m : Message) : Type 0 where
  sweeps : (n : ℕ) → m ≡ LimitedSweep n → Kind m
  another : ((n : ℕ) → m ≢ LimitedSweep n) → ((v : Venue) → looks_by m v ≡ []) → Kind m

lower : (m : Message) → message_form m < 9 → (n : ℕ) → m ≢ LimitedSweep n
lower m l n e = let q : message_form m ≡ 9 = ap message_form e in omega arith

kind-of : (m : Message) → Kind m
unfolding looks_by
kind-of (Order o) = another (lower _ (omega arith)) (λ _. refl)
kind-of (TwoLeg c) = another (lower _ (omega arith)) (λ _. refl)
kind-of (Cancel id) = another (lower _ (omega arith)) (λ _. refl)
kind-of (Away s b o) = another (lower _ (omega arith)) (λ _. refl)
kind-of (Status s x) = another (lower _ (omega arith)) (λ _. refl)
kind-of Sweep = another (lower _ (omega arith)) (λ _. refl)
kind-of (Increment s i e) = another (lower _ (omega arith)) (λ _. refl)
kind-of (Percent x e) = another (lower _ (omega arith)) (λ _. refl)
kind-of (LimitedSweep n) = sweeps n refl

-- what one message looks at, and what it leaves
data Does (v : Venue) (number : ℕ) (bs : List ℕ) : Type 0 where
  idle : looks_in v bs ≡ [] → (venue_after v number bs).reached ≡ v.reached → Does v number bs
  looking : (n : ℕ) → looks_in v bs ≡ looks n v → (venue_after v number bs).reached ≡ last_of v.reached (looks n v) → Does v number bs

does : (v : Venue) → SoundVenue v → (number : ℕ) (bs : List ℕ) → Does v number bs
unfolding looks_in
does v s number bs = go (eqb (refusal v bs) 0) refl (kind-of (message_of bs))
  where
    left : ((n : ℕ) → message_of bs ≡ LimitedSweep n → refusal v bs ≢ 0) → (venue_after v number bs).reached ≡ v.reached
    left but = unfold venue_after in (other v number bs but).left

    go : (b : Bool) → eqb (refusal v bs) 0 ≡ b → Kind (message_of bs) → Does v number bs
    go true e (sweeps n is) =
        looking n (rw (e, is) (unfold looks_by in refl)) (limited v s number bs n is (eqb-true (refusal v bs) 0 e)).reached
    go true e (another but none) = idle (rw e (none v)) (left (λ n is _. but n is))
    go false e k = idle (rw e) (left (λ n _. eqb-false (refusal v bs) 0 e))

module _ (x y : ℕ) (apart : x < y) where
  -- from the id reached on, x and y by turns
  turns : (v : Venue) (n : ℕ) → SoundAt (suc n) v → (ms : List (List ℕ)) → n + length ms < 4294967296 → Stays x v n ms → Stays y v n ms → Turns x y v.reached (looks_all v n ms)
  unfolding looks_all
  turns v n s [] few sx sy = no-turns x y v.reached
  turns v n s (m ∷ ms) few sx sy =
      go (does v s.venue (suc n) m) (turns (venue_after v (suc n) m) (suc n) (unfold venue_after in (stays-sound v (suc n) (omega arith) s m)) ms (omega arith) sx.1 sy.1)
    where
      rest : List ℕ
      rest = looks_all (venue_after v (suc n) m) (suc n) ms

      go : Does v (suc n) m → Turns x y (venue_after v (suc n) m).reached rest → Turns x y v.reached (looks_in v m ++ rest)
      go (idle none same) t = rw none (subst (λ (p : ℕ). Turns x y p rest) same t)
      go (looking k are last) t =
          rw are (along x y apart v.reached (looks k v) rest
          (unfold looks in (path-front x y k v.reached _ (round-path x y v.reached (resting v) (resting-rises v (sound-out v s.venue)) sx.0 sy.0)))
          (subst (λ (p : ℕ). Turns x y p rest) last t))

  either : (p : ℕ) (is : List ℕ) → Turns x y p is → InTurn x y is ⊎ InTurn y x is
  either p is t = elim (dec_lt p x) [
    | yes l ↦ inl (t.low l)
    | no a ↦ elim (dec_lt p y) [
      | yes l ↦ inr (t.mid (omega arith) l)
      | no b ↦ inl (t.high (omega arith))
    ]
  ]

in-turn : (v : Venue) (n : ℕ) → SoundAt (suc n) v → (ms : List (List ℕ)) → n + length ms < 4294967296 → (x y : ℕ) → x ≢ y → Stays x v n ms → Stays y v n ms →
    InTurn x y (looks_all v n ms) ⊎ InTurn y x (looks_all v n ms)
in-turn v n s ms few x y ne sx sy = elim (dec_lt x y) [
  | yes l ↦ either x y l _ _ (turns x y l v n s ms few sx sy)
  | no a ↦ let l : y < x = omega arith in ⊎_swap (either y x l _ _ (turns y x l v n s ms few sy sx))
]

pub limited-sweeps : LimitedSweeps
limited-sweeps = record {
  looks_at = limited;
  others = λ v number bs but. let k = other v number bs but in (unfold venue_after in k.left, k.silent);
  in_turn = in-turn;
}
