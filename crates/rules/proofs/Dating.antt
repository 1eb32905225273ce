-- Editions under a message: none is entered but by kinds 7 and 8, which keep them rising in both numbers; every resting price stays on the
-- increment in force; and the next message's number is above every edition's.
use Rattle.std.specs.Prelude.{if◌then◌else◌}
use mathlib.Core.Path.{◌∙◌, ◌≡◌, ap, refl, subst, sym}
use mathlib.Core.Bool.{Bool, ◌&&◌, false, not, true, true≢false}
use mathlib.Core.Logic.{◌≢◌}
use mathlib.Core.List.{List, [], ◌∷◌}
use Prim.Native.Nat.{◌<◌, ◌≤◌, suc, ℕ}
use native.Mathlib.Omega.{arith}
use lib.Dec.{eqb, leb, ltb}
use lib.ListN.{get_or, length, set}
use borrow.Author.Tests.{eq-eqb, le-leb, leb-false, leb-true, lt-ltb, ltb-true, not-false, not-true}
use Rattle.rules.specs.declared.Complex.{Complex}
use Rattle.rules.specs.declared.Edition.{Edition}
use Rattle.rules.specs.declared.Message.{Message}
use Rattle.rules.specs.declared.Message.TheVariants.{Away, Cancel, Increment, LimitedSweep, Order, Percent, Status, Sweep, TwoLeg}
use Rattle.rules.specs.declared.Regular.{Regular}
use Rattle.rules.specs.declared.Venue.{Venue}
use Rattle.rules.specs.Base.{all, held, place_where}
use Rattle.rules.specs.Words.{is_series, no_edition, no_regular, with_complex, with_editions, with_generations, with_last, with_legging, with_reached, with_regular, with_series, within}
use Rattle.rules.specs.Settings.{base_figure, enter_edition, figure_now, free_edition, in_force, increment, is_edition, is_increment, is_percent, percentage, sets}
use Rattle.rules.specs.Messages.{message_of}
use Rattle.rules.specs.Effects.{Effect, ◌⟫◌, nothing, report}
use Rattle.rules.specs.Removal.{remove}
use Rattle.rules.specs.Standing.{settle, show_again}
use Rattle.rules.specs.Trading.{fill_complex, fill_regular, put_complex, put_regular}
use Rattle.rules.specs.Order.{enter_regular, order}
use Rattle.rules.specs.Generation.{counted, generate, generate_leg, make, makes, placed}
use Rattle.rules.specs.Complex.{complex, each_of, limited_sweep, sweep, work}
use Rattle.rules.specs.Places.{arranged, blank_edition, close_gaps, holds_edition}
use Rattle.rules.specs.Refusals.{edition_too_low, idle, in_use, no_edition_left, off_increment, on_increment}
use Rattle.rules.specs.Step.{accept, answered, perform, set_away, set_figure, set_status, step}
use Rattle.rules.specs.Sound.{edition_in_range, editions_sound, figure_in_range, follows}
use Rattle.rules.proofs.Again.{again-fewer}
use Rattle.rules.proofs.Arranging.{all-at, all_in}
use Rattle.rules.proofs.CallsLaws.{step_by}
use Rattle.rules.proofs.Cases.{if-by}
use Rattle.rules.proofs.Editions.{Stepped, ed, figure-other, past-set, steps-same}
use Rattle.rules.proofs.Filling.{Fewer, fill-fewer, reg, still-held}
use Rattle.rules.proofs.Finding.{where-passes}
use Rattle.rules.proofs.Gaps.{fr, was}
use Rattle.rules.proofs.EffectsLaws.{Lasts, keeps-cancel, keeps-each_of, keeps-matching, keeps-settle, keeps-work}
use Rattle.rules.proofs.RefusalsLaws.{Passed, accepted, well_formed}
use Rattle.rules.proofs.Tests.{and_in, and_l, and_r, pos-held}
use Rattle.rules.proofs.Widths.{Ranged, set-each}

-- One more in an arranged list ----------------------------------------------------------------

module _ {A : Type 0} (holds asked blank : A → Bool) (id : A → ℕ) (free : (x : A) → blank x ≡ true → holds x ≡ false) where
  blanks-arranged : (low : ℕ) (l : List A) → all blank l ≡ true → arranged holds asked blank id low l ≡ true
  unfolding all arranged
  blanks-arranged low [] h = refl
  blanks-arranged low (x ∷ l) h = rw (free x (and_l (blank x) _ h)) h

  -- above all that are there, at the first free place
  entered-arranged : (low : ℕ) (l : List A) (x : A) → arranged holds asked blank id low l ≡ true → all (λ y. ltb (id y) (id x)) l ≡ true →
      place_where (λ y. not (holds y)) l < length l → low < id x → holds x ≡ true → asked x ≡ true →
      arranged holds asked blank id low (set l (place_where (λ y. not (holds y)) l) x) ≡ true
  unfolding arranged all place_where
  entered-arranged low [] x h b p lt k a = absurd (omega arith)
  entered-arranged low (y ∷ l) x h b p lt k a = go (holds y) refl h p (entered-arranged (id y) l x)
    where
      lower : id y < id x
      lower = ltb-true (id y) (id x) (and_l (ltb (id y) (id x)) _ b)

      rest : all (λ z. ltb (id z) (id x)) l ≡ true
      rest = and_r (ltb (id y) (id x)) _ b

      go : (t : Bool) → holds y ≡ t → (if t then ltb low (id y) && asked y && arranged holds asked blank id (id y) l else blank y && all blank l) ≡ true →
          (if not t then 0 else suc (place_where (λ z. not (holds z)) l)) < suc (length l) →
          (arranged holds asked blank id (id y) l ≡ true → all (λ z. ltb (id z) (id x)) l ≡ true → place_where (λ z. not (holds z)) l < length l → id y < id x →
          holds x ≡ true → asked x ≡ true → arranged holds asked blank id (id y) (set l (place_where (λ z. not (holds z)) l) x) ≡ true) →
          arranged holds asked blank id low (set (y ∷ l) (if not t then 0 else suc (place_where (λ z. not (holds z)) l)) x) ≡ true
      go true e h p ih =
          rw e (and_in (ltb low (id y) && asked y) (arranged holds asked blank id (id y) (set l (place_where (λ z. not (holds z)) l) x))
          (and_l _ (arranged holds asked blank id (id y) l) h) (ih (and_r (ltb low (id y) && asked y) _ h) rest (omega arith) lower k a))
      go false e h p ih = rw k
          (and_in (ltb low (id x) && asked x) (arranged holds asked blank id (id x) l) (and_in (ltb low (id x)) (asked x) (lt-ltb low (id x) lt) a)
          (blanks-arranged (id x) l (and_r (blank y) _ h)))

-- The editions after a message ----------------------------------------------------------------

-- what an accepted message of this number leaves of them
unfoldable pub editions_after : (number : ℕ) → Message → Venue → List Edition
editions_after number (Order o) v = v.editions
editions_after number (TwoLeg c) v = v.editions
editions_after number (Cancel id) v = v.editions
editions_after number (Away s b o) v = v.editions
editions_after number (Status s x) v = v.editions
editions_after number Sweep v = v.editions
editions_after number (Increment s i e) v = (set_figure number s i e v).editions
editions_after number (Percent x e) v = (set_figure number percentage x e v).editions
editions_after number (LimitedSweep n) v = v.editions

module _ (es : List Edition) where
  abbrev Has : Venue → Type 0
  Has v = v.editions ≡ es

  has-lasts : Lasts Has
  unfolding fill_regular fill_complex remove show_again with_regular with_complex with_legging
  has-lasts = record { fill_r = λ i k v h. h; fill_c = λ i k v h. h; gone = λ f v h. h; again = λ v h. h }

  has-leg : (number : ℕ) (x : Complex) (t d : ℕ) (v : Venue) → Has v → Has (generate_leg number x t d v).venue
  unfolding generate_leg make report nothing ◌⟫◌ remove placed counted with_legging with_generations
  has-leg number x t d v h = if-by (λ (f : Effect). Has f.venue) (held x.quantity && makes number v x t d) (λ _. h) (λ _. h)

  has-generate : (number i : ℕ) (v : Venue) → Has v → Has (generate number i v).venue
  unfolding generate ◌⟫◌
  has-generate number i v h = has-leg number _ _ _ _ (has-leg number _ _ _ v h)

pub perform-editions : (number : ℕ) (m : Message) (v : Venue) → (perform number m v).venue.editions ≡ editions_after number m v
unfolding perform editions_after order enter_regular put_regular complex put_complex sweep limited_sweep set_away set_status with_regular with_complex with_series with_last with_reached report ◌⟫◌
perform-editions number (Order o) v = keeps-settle (has-lasts v.editions) _ (keeps-matching (has-lasts v.editions) _ _ _ refl)
perform-editions number (TwoLeg x) v = has-generate v.editions number _ _ (keeps-settle (has-lasts v.editions) _ (keeps-work (has-lasts v.editions) _ _ refl))
perform-editions number (Cancel id) v = keeps-cancel (has-lasts v.editions) id v refl
perform-editions number (Away t b o) v = keeps-settle (has-lasts v.editions) _ refl
perform-editions number (Status t x) v = keeps-settle (has-lasts v.editions) _ refl
perform-editions number Sweep v =
    keeps-each_of (Has v.editions) (generate number) (has-generate v.editions number) _ _
    (keeps-settle (has-lasts v.editions) _ (keeps-each_of (Has v.editions) work (keeps-work (has-lasts v.editions)) _ v refl))
perform-editions number (Increment s i e) v = keeps-settle (has-lasts (set_figure number s i e v).editions) _ refl
perform-editions number (Percent x e) v = keeps-settle (has-lasts (set_figure number percentage x e v).editions) _ refl
perform-editions number (LimitedSweep n) v =
    keeps-each_of (Has v.editions) (generate number) (has-generate v.editions number) _ _
    (keeps-settle (has-lasts v.editions) _ (keeps-each_of (Has v.editions) work (keeps-work (has-lasts v.editions)) _ _ refl))

accept-editions : (number : ℕ) (m : Message) (v : Venue) → (accept number m v).venue.editions ≡ editions_after number m v
unfolding accept nothing ◌⟫◌ close_gaps with_regular with_complex
accept-editions number m v = perform-editions number m v

-- They rise in both numbers -------------------------------------------------------------------

pub edition-free : (e : Edition) → blank_edition e ≡ true → holds_edition e ≡ false
unfolding blank_edition
edition-free e z = let a : eqb e.edition 0 ≡ true = search (and_l, and_r, z) depth 6 in rw a

some-above : (f : Edition → ℕ) (n : ℕ) (es : List Edition) → all (λ e. ltb (f e) n) es ≡ true → 0 < length es → 0 < n
unfolding all
some-above f n [] h l = absurd (omega arith)
some-above f n (e ∷ es) h l = let z = ltb-true (f e) n (and_l (ltb (f e) n) _ h) in omega arith

-- the editions' part
follows-editions : (number : ℕ) (v : Venue) → follows number v ≡ true → all (λ k. ltb k.message number) v.editions ≡ true
unfolding follows
follows-editions number v h = and_l _ _ h

-- a number that is above every edition's is some number
pub some_number : (number : ℕ) (v : Venue) → length v.editions ≡ 32 → follows number v ≡ true → 0 < number
unfolding follows
some_number number v len h = some-above (λ k. k.message) number v.editions (and_l _ _ h) (omega arith)

module _ (number f x e : ℕ) (v : Venue) (len : length v.editions ≡ 32)
    (low : not (all (λ k. ltb k.edition e) v.editions) ≡ false) (place : leb 32 (free_edition v) ≡ false)
    (next : all (λ k. ltb k.message number) v.editions ≡ true) where
  abbrev entered : Edition
  entered = record { edition = e; message = number; figure = f; value = x }

  above : all (λ k. ltb k.edition e) v.editions ≡ true
  above = not-false _ low

  pub there : free_edition v < length v.editions
  there = let z = leb-false 32 (free_edition v) place in omega arith

  some-edition : 0 < e
  some-edition = some-above (λ k. k.edition) e v.editions above (omega arith)

  figure-rises : figure_in_range entered ≡ true → is_edition e ≡ true → number ≤ 4294967295 → editions_sound v ≡ true → editions_sound (set_figure number f x e v) ≡ true
  unfolding editions_sound set_figure enter_edition with_editions free_edition follows
  figure-rises r u few s =
      let p = there in
      and_in _ _
      (entered-arranged holds_edition edition_in_range blank_edition (λ k. k.edition) edition-free 0 v.editions entered (and_l _ _ s) above p some-edition (pos-held e some-edition)
      (unfold edition_in_range in (and_in _ _ (and_in _ _ r u) (le-leb number 4294967295 few))))
      (entered-arranged holds_edition (λ _. true) blank_edition (λ k. k.message) edition-free 0 v.editions entered
      (and_r (arranged holds_edition edition_in_range blank_edition (λ k. k.edition) 0 v.editions) _ s) next p
      (some-above (λ k. k.message) number v.editions next (omega arith)) (pos-held e some-edition) refl)

-- a message in range enters an edition in range
increment-range : (v : Venue) (number s i e : ℕ) → well_formed (Increment s i e) ≡ true → figure_in_range (record { edition = e; message = number; figure = s; value = i }) ≡ true
unfolding well_formed is_series within figure_in_range
increment-range v number s i e h =
    let a : leb s 7 ≡ true = search (and_l, and_r, h) depth 6 in
    let b : is_increment i ≡ true = search (and_l, and_r, h) depth 6 in
    rw a b

increment-edition : (v : Venue) (s i e : ℕ) → well_formed (Increment s i e) ≡ true → is_edition e ≡ true
unfolding well_formed
increment-edition v s i e h = and_r (is_series s && is_increment i) _ h

percent-range : (v : Venue) (number x e : ℕ) → well_formed (Percent x e) ≡ true → figure_in_range (record { edition = e; message = number; figure = percentage; value = x }) ≡ true
unfolding well_formed figure_in_range
percent-range v number x e h = and_l _ _ h

percent-edition : (v : Venue) (x e : ℕ) → well_formed (Percent x e) ≡ true → is_edition e ≡ true
unfolding well_formed
percent-edition v x e h = and_r (is_percent x) _ h

sound-same : (v w : Venue) → w.editions ≡ v.editions → editions_sound v ≡ true → editions_sound w ≡ true
unfolding editions_sound
sound-same v w e h = rw e h

-- an accepted message
accept-rises : (number : ℕ) (m : Message) (v : Venue) → Passed v m → length v.editions ≡ 32 → number ≤ 4294967295 → follows number v ≡ true →
    editions_sound v ≡ true → editions_sound (accept number m v).venue ≡ true
unfolding editions_after edition_too_low no_edition_left
accept-rises number (Order o) v p len few next s = sound-same v _ (accept-editions number (Order o) v) s
accept-rises number (TwoLeg c) v p len few next s = sound-same v _ (accept-editions number (TwoLeg c) v) s
accept-rises number (Cancel id) v p len few next s = sound-same v _ (accept-editions number (Cancel id) v) s
accept-rises number (Away t b o) v p len few next s = sound-same v _ (accept-editions number (Away t b o) v) s
accept-rises number (Status t x) v p len few next s = sound-same v _ (accept-editions number (Status t x) v) s
accept-rises number Sweep v p len few next s = sound-same v _ (accept-editions number Sweep v) s
accept-rises number (LimitedSweep n) v p len few next s = sound-same v _ (accept-editions number (LimitedSweep n) v) s
accept-rises number (Increment t i e) v p len few next s =
    sound-same (set_figure number t i e v) _ (accept-editions number (Increment t i e) v)
    (figure-rises number t i e v len p.rising p.place (follows-editions number v next) (increment-range v number t i e p.range) (increment-edition v t i e p.range) few s)
accept-rises number (Percent x e) v p len few next s =
    sound-same (set_figure number percentage x e v) _ (accept-editions number (Percent x e) v)
    (figure-rises number percentage x e v len p.rising p.place (follows-editions number v next) (percent-range v number x e p.range) (percent-edition v x e p.range) few s)

pub step-rises : (v : Venue) (number : ℕ) (bs : List ℕ) → length v.editions ≡ 32 → number ≤ 4294967295 → follows number v ≡ true →
    editions_sound v ≡ true → editions_sound (step v number bs).effect.venue ≡ true
unfolding step answered nothing
step-rises v number bs len few next s =
    step_by (λ e. editions_sound e.venue ≡ true) v number bs (λ h. accept-rises number (message_of bs) v (accepted v bs h) len few next s) (λ _. s)

-- The next number is above them ---------------------------------------------------------------

-- all numbers of a list are below n, as far as anyone reads it
abbrev Below : ℕ → List Edition → Type 0
Below n es = (i : ℕ) → (get_or es i no_edition).message < n

below_out : (n : ℕ) (v : Venue) → 0 < n → follows n v ≡ true → Below n v.editions
unfolding follows
below_out n v some h i = ltb-true (ed v i).message n (all-at (λ e. ltb e.message n) no_edition v.editions (lt-ltb 0 n some) (and_l _ _ h) i)

below_in : (n : ℕ) (v : Venue) → Below n v.editions → all (λ g. all (λ k. ltb k n) g.messages) v.generations ≡ true → follows n v ≡ true
unfolding follows
below_in n v h g = and_in _ _ (all_in (λ e. ltb e.message n) no_edition v.editions (λ i. lt-ltb (ed v i).message n (h i))) g

after-below : (number : ℕ) (m : Message) (v : Venue) → Below (suc number) v.editions → Below (suc number) (editions_after number m v)
unfolding editions_after set_figure enter_edition with_editions
after-below number (Order o) v h = h
after-below number (TwoLeg c) v h = h
after-below number (Cancel id) v h = h
after-below number (Away t b o) v h = h
after-below number (Status t x) v h = h
after-below number Sweep v h = h
after-below number (LimitedSweep n) v h = h
after-below number (Increment t i e) v h = set-each (λ k. k.message < suc number) no_edition v.editions (free_edition v) _ (omega arith) h
after-below number (Percent x e) v h = set-each (λ k. k.message < suc number) no_edition v.editions (free_edition v) _ (omega arith) h

-- of what is generated, by Traffic
pub step_follows : (v : Venue) (number : ℕ) (bs : List ℕ) → 0 < number → follows number v ≡ true →
    all (λ g. all (λ k. ltb k (suc number)) g.messages) (step v number bs).effect.venue.generations ≡ true → follows (suc number) (step v number bs).effect.venue ≡ true
unfolding step answered nothing
step_follows v number bs some h =
    let b : Below (suc number) v.editions = λ i. (let z = below_out number v some h i in omega arith) in
    step_by (λ e. all (λ g. all (λ k. ltb k (suc number)) g.messages) e.venue.generations ≡ true → follows (suc number) e.venue ≡ true) v number bs
    (λ _. below_in (suc number) _ (rw (accept-editions number (message_of bs) v) (after-below number (message_of bs) v b)))
    (λ _. below_in (suc number) v b)

-- Resting prices on the increments in force ---------------------------------------------------

abbrev pub Priced : Venue → Type 0
Priced v = (i : ℕ) → held (reg v i).quantity ≡ true → on_increment v (reg v i) ≡ true

free-edition : (v : Venue) → free_edition v < length v.editions → held (ed v (free_edition v)).edition ≡ false
unfolding free_edition
free-edition v h = not-true _ (where-passes no_edition (λ e. not (held e.edition)) v.editions h)

fill-editions : (i k : ℕ) (v : Venue) → (fill_regular i k v).editions ≡ v.editions
unfolding fill_regular with_regular
fill-editions i k v = refl

again-editions : (v : Venue) → (show_again v).editions ≡ v.editions
unfolding show_again with_regular
again-editions v = refl

closed-editions : (v : Venue) → (close_gaps v).editions ≡ v.editions
unfolding close_gaps with_regular with_complex
closed-editions v = refl

-- what is on the increment is so of every venue with the same increments
on_same : (v w : Venue) (a b : Regular) → a.series ≡ b.series → a.price ≡ b.price → increment w b.series ≡ increment v b.series → on_increment v b ≡ true → on_increment w a ≡ true
unfolding on_increment
on_same v w a b s p e h = rw (s, p, e) h

increment-same : (v w : Venue) → w.editions ≡ v.editions → (s : ℕ) → increment w s ≡ increment v s
unfolding increment figure_now
increment-same v w e s = rw e

priced-fewer : (v w : Venue) → Fewer w.regular v.regular → w.editions ≡ v.editions → Priced v → Priced w
priced-fewer v w f e h j t =
    let l = f.lesser j in
    on_same v w (reg w j) (reg v j) l.series l.price (increment-same v w e (reg v j).series) (h j (still-held l t))

-- what leaves both the regular orders and the editions
priced-same : (v w : Venue) → w.regular ≡ v.regular → w.editions ≡ v.editions → Priced v → Priced w
priced-same v w r e h j t =
    let o : reg w j ≡ reg v j = ap (λ (x : List Regular). get_or x j no_regular) r in
    on_same v w (reg w j) (reg v j) (ap (λ (x : Regular). x.series) o) (ap (λ (x : Regular). x.price) o) (increment-same v w e _)
    (h j (subst (λ (x : Regular). held x.quantity ≡ true) o t))

priced-lasts : Lasts Priced
unfolding fill_complex remove with_complex with_legging
priced-lasts = record {
  fill_r = λ i k v. priced-fewer v _ (fill-fewer i k v) (fill-editions i k v);
  fill_c = λ i k v. priced-same v _ refl refl;
  gone = λ f v. priced-same v _ refl refl;
  again = λ v. priced-fewer v _ (again-fewer v) (again-editions v);
}

priced-leg : (number : ℕ) (x : Complex) (t d : ℕ) (v : Venue) → Priced v → Priced (generate_leg number x t d v).venue
unfolding generate_leg make report nothing ◌⟫◌ remove placed counted with_legging with_generations
priced-leg number x t d v h = if-by (λ (f : Effect). Priced f.venue) (held x.quantity && makes number v x t d) (λ _. priced-same v _ refl refl h) (λ _. h)

priced-generate : (number i : ℕ) (v : Venue) → Priced v → Priced (generate number i v).venue
unfolding generate ◌⟫◌
priced-generate number i v h = priced-leg number _ _ _ _ (priced-leg number _ _ _ v h)

-- an order that comes is on the increment
priced-put : (i : ℕ) (o : Regular) (v : Venue) → on_increment v o ≡ true → Priced v → Priced (put_regular i o (with_last v o.id))
unfolding put_regular with_regular with_last
priced-put i o v a h j t =
    on_same v _ _ (get_or (set v.regular i o) j no_regular) refl refl (increment-same v _ refl _)
    (set-each (λ x. held x.quantity ≡ true → on_increment v x ≡ true) no_regular v.regular i o (λ _. a) h j t)

-- an edition of a figure that is no resting order's
priced-figure : (number f x e : ℕ) (v : Venue) → free_edition v < length v.editions → ((i : ℕ) → held (reg v i).quantity ≡ true → f ≢ (reg v i).series) →
    Priced v → Priced (set_figure number f x e v)
unfolding set_figure
priced-figure number f x e v there apart h j t =
    let k : Edition = record { edition = e; message = number; figure = f; value = x } in
    let u : held (reg v j).quantity ≡ true = unfold enter_edition with_editions in t in
    on_same v _ _ (reg v j) (unfold enter_edition with_editions in refl) (unfold enter_edition with_editions in refl) (other k (reg v j).series (apart j u)) (h j u)
  where
    none : held (ed v (free_edition v)).edition ≡ false
    none = free-edition v there

    other : (k : Edition) (s : ℕ) → k.figure ≢ s → increment (enter_edition k v) s ≡ increment v s
    other k s ne = unfold increment in (figure-other s k v none ne)

-- an idle series has no resting order
idle-apart : (v : Venue) (s : ℕ) → idle v s ≡ true → (i : ℕ) → held (reg v i).quantity ≡ true → s ≢ (reg v i).series
unfolding idle
idle-apart v s h i t e =
    let a : all (λ o. not (held o.quantity && eqb o.series s)) v.regular ≡ true = search (and_l, and_r, h) depth 4 in
    let z = all-at (λ o. not (held o.quantity && eqb o.series s)) no_regular v.regular refl a i in
    true≢false (sym (rw (t, eq-eqb (reg v i).series s (sym e)) at z))

perform-priced : (number : ℕ) (m : Message) (v : Venue) → Passed v m → length v.editions ≡ 32 → Ranged v → Priced v → Priced (perform number m v).venue
unfolding perform order enter_regular complex put_complex sweep limited_sweep set_away set_status with_complex with_series with_last with_reached report ◌⟫◌ in_use no_edition_left
perform-priced number (Order o) v p len r h =
    keeps-settle priced-lasts _ (keeps-matching priced-lasts _ _ _ (priced-put _ o v (not-false _ (unfold off_increment in p.stepped)) h))
perform-priced number (TwoLeg c) v p len r h = priced-generate number _ _ (keeps-settle priced-lasts _ (keeps-work priced-lasts _ _ (priced-same v _ refl refl h)))
perform-priced number (Cancel id) v p len r h = keeps-cancel priced-lasts id v h
perform-priced number (Away t b o) v p len r h = keeps-settle priced-lasts _ (priced-same v _ refl refl h)
perform-priced number (Status t x) v p len r h = keeps-settle priced-lasts _ (priced-same v _ refl refl h)
perform-priced number Sweep v p len r h =
    keeps-each_of Priced (generate number) (priced-generate number) _ _ (keeps-settle priced-lasts _ (keeps-each_of Priced work (keeps-work priced-lasts) _ v h))
perform-priced number (LimitedSweep n) v p len r h =
    keeps-each_of Priced (generate number) (priced-generate number) _ _
    (keeps-settle priced-lasts _ (keeps-each_of Priced work (keeps-work priced-lasts) _ _ (priced-same v _ refl refl h)))
perform-priced number (Increment s i e) v p len r h =
    keeps-settle priced-lasts _ (priced-figure number s i e v (let z = leb-false 32 (free_edition v) p.place in omega arith) (idle-apart v s (not-false _ p.unused)) h)
perform-priced number (Percent x e) v p len r h =
    keeps-settle priced-lasts _ (priced-figure number percentage x e v (let z = leb-false 32 (free_edition v) p.place in omega arith)
    (λ i t g. (let z = (r.regular i).series in omega arith)) h)

closed-priced : (v : Venue) → Priced v → Priced (close_gaps v)
closed-priced v h j t =
    let o = was v j in
    on_same v (close_gaps v) (reg (close_gaps v) j) (reg v (fr v j)) (ap (λ (x : Regular). x.series) o) (ap (λ (x : Regular). x.price) o)
    (increment-same v (close_gaps v) (closed-editions v) _) (h (fr v j) (subst (λ (x : Regular). held x.quantity ≡ true) o t))

pub step-priced : (v : Venue) (number : ℕ) (bs : List ℕ) → length v.editions ≡ 32 → Ranged v → Priced v → Priced (step v number bs).effect.venue
unfolding step answered accept nothing ◌⟫◌
step-priced v number bs len r h =
    step_by (λ e. Priced e.venue) v number bs (λ a. closed-priced _ (perform-priced number (message_of bs) v (accepted v bs a) len r h)) (λ _. h)

-- Increments in force, on the way to generation -----------------------------------------------

-- what leaves the editions leaves the increments
steps-lasts : Lasts Stepped
unfolding fill_regular fill_complex remove show_again with_regular with_complex with_legging
steps-lasts = record { fill_r = λ i k v. steps-same v _ refl; fill_c = λ i k v. steps-same v _ refl; gone = λ f v. steps-same v _ refl; again = λ v. steps-same v _ refl }

pub steps-work : (i : ℕ) (v : Venue) → Stepped v → Stepped (work i v).venue
steps-work i v h = keeps-work steps-lasts i v h

pub steps-settled : (e : Effect) → Stepped e.venue → Stepped (e ⟫ settle).venue
unfolding ◌⟫◌
steps-settled e h = keeps-settle steps-lasts _ h

pub steps-leg : (number : ℕ) (x : Complex) (t d : ℕ) (v : Venue) → Stepped v → Stepped (generate_leg number x t d v).venue
steps-leg number x t d v = steps-same v _ (has-leg v.editions number x t d v refl)

pub steps-generate : (number i : ℕ) (v : Venue) → Stepped v → Stepped (generate number i v).venue
steps-generate number i v = steps-same v _ (has-generate v.editions number i v refl)

pub steps-swept : (places : List ℕ) (v : Venue) → Stepped v → Stepped (each_of work places v ⟫ settle).venue
steps-swept places v h = steps-settled (each_of work places v) (keeps-each_of Stepped work steps-work places v h)

-- What was in force stays told ----------------------------------------------------------------

gt-leb : (a b : ℕ) → b < a → leb a b ≡ false
gt-leb a b h = go (leb a b) refl
  where
    go : (c : Bool) → leb a b ≡ c → leb a b ≡ false
    go true e = let z = leb-true a b e in absurd (omega arith)
    go false e = e

force-same : (v w : Venue) → w.editions ≡ v.editions → (k f : ℕ) → in_force w k f ≡ in_force v k f
unfolding in_force
force-same v w e k f = rw e

figure-past : (number g x e : ℕ) (v : Venue) → free_edition v < length v.editions → (k f : ℕ) → k < number → in_force (set_figure number g x e v) k f ≡ in_force v k f
unfolding in_force set_figure enter_edition with_editions sets
figure-past number g x e v there k f lt =
    past-set k f (base_figure f) v.editions (free_edition v) _ (rw (free-edition v there)) (gt-leb number k lt)

accept-past : (number : ℕ) (m : Message) (v : Venue) → Passed v m → length v.editions ≡ 32 → (k f : ℕ) → k < number → in_force (accept number m v).venue k f ≡ in_force v k f
unfolding editions_after no_edition_left
accept-past number (Order o) v p len k f lt = force-same v _ (accept-editions number (Order o) v) k f
accept-past number (TwoLeg c) v p len k f lt = force-same v _ (accept-editions number (TwoLeg c) v) k f
accept-past number (Cancel id) v p len k f lt = force-same v _ (accept-editions number (Cancel id) v) k f
accept-past number (Away t b o) v p len k f lt = force-same v _ (accept-editions number (Away t b o) v) k f
accept-past number (Status t x) v p len k f lt = force-same v _ (accept-editions number (Status t x) v) k f
accept-past number Sweep v p len k f lt = force-same v _ (accept-editions number Sweep v) k f
accept-past number (LimitedSweep n) v p len k f lt = force-same v _ (accept-editions number (LimitedSweep n) v) k f
accept-past number (Increment t i e) v p len k f lt =
    force-same (set_figure number t i e v) _ (accept-editions number (Increment t i e) v) k f
    ∙ figure-past number t i e v (let z = leb-false 32 (free_edition v) p.place in omega arith) k f lt
accept-past number (Percent x e) v p len k f lt =
    force-same (set_figure number percentage x e v) _ (accept-editions number (Percent x e) v) k f
    ∙ figure-past number percentage x e v (let z = leb-false 32 (free_edition v) p.place in omega arith) k f lt

pub step_past : (v : Venue) (number : ℕ) (bs : List ℕ) → length v.editions ≡ 32 → (k f : ℕ) → k < number → in_force (step v number bs).effect.venue k f ≡ in_force v k f
unfolding step answered nothing
step_past v number bs len k f lt =
    step_by (λ e. in_force e.venue k f ≡ in_force v k f) v number bs (λ h. accept-past number (message_of bs) v (accepted v bs h) len k f lt) (λ _. refl)
