-- (e) "Before settling, each order shows again": after every accepted message each order shows the lesser of its shown quantity and what is left of it.
use mathlib.Core.Path.{◌≡◌, refl, subst, sym}
use mathlib.Core.Bool.{◌&&◌, true}
use mathlib.Core.List.{List, [], ◌∷◌, map}
use Prim.Native.Nat.{◌-◌, ◌≤◌, min, suc, ℕ}
use native.Mathlib.Omega.{arith}
use lib.Dec.{eqb}
use lib.ListN.{get_or}
use borrow.Author.Tests.{eq-eqb, eqb-true, leb-true}
use Rattle.rules.specs.declared.Complex.{Complex}
use Rattle.rules.specs.declared.Message.{Message}
use Rattle.rules.specs.declared.Message.TheVariants.{Away, Cancel, Increment, LimitedSweep, Order, Percent, Status, Sweep, TwoLeg}
use Rattle.rules.specs.declared.Regular.{Regular}
use Rattle.rules.specs.declared.Venue.{Venue}
use Rattle.rules.specs.Base.{held}
use Rattle.rules.specs.Words.{no_regular, with_generations, with_legging, with_regular, within}
use Rattle.rules.specs.Bytes.{kind_field, u32_at}
use Rattle.rules.specs.Messages.{message_of, order_at}
use Rattle.rules.specs.Effects.{Effect, ◌⟫◌, nothing, report}
use Rattle.rules.specs.Prices.{shown_size}
use Rattle.rules.specs.Removal.{remove}
use Rattle.rules.specs.Standing.{settle, show_again, shows_again}
use Rattle.rules.specs.Trading.{less_regular}
use Rattle.rules.specs.Order.{order}
use Rattle.rules.specs.Generation.{counted, generate, generate_leg, make, makes, placed}
use Rattle.rules.specs.Complex.{cancel, complex, limited_sweep, sweep}
use Rattle.rules.specs.Places.{close_gaps}
use Rattle.rules.specs.Refusals.{refusal, regular_in_range}
use Rattle.rules.specs.Step.{accept, answered, perform, step}
use Rattle.rules.specs.Sound.{shows_fully}
use Rattle.rules.proofs.Again.{Shown, again-at}
use Rattle.rules.proofs.Cases.{if-by}
use Rattle.rules.proofs.Filling.{reg}
use Rattle.rules.proofs.Gaps.{fr, was}
use Rattle.rules.proofs.EffectsLaws.{keeps-each_of}
use Rattle.rules.proofs.Tests.{and_l, and_r, pos-held}
use Rattle.rules.proofs.Widths.{Ranged}

-- each order shows what it should
unfoldable pub Showing : Venue → Type 0
Showing v = (i : ℕ) → shows_fully (reg v i) ≡ true

-- Showing again ---------------------------------------------------------------------------------

again-fully : (o : Regular) → shows_fully (shows_again o) ≡ true
unfolding shows_fully shows_again
again-fully o = eq-eqb (o.quantity - o.display) _ refl

pub again-showing : (v : Venue) → Showing (show_again v)
unfolding Showing
again-showing v i = subst (λ (o : Regular). shows_fully o ≡ true) (sym (again-at v i)) (again-fully (reg v i))

-- an order that shows what it should changes nothing by showing again, and a venue of such orders is left as it was: so code may skip it
pub fully-same : (o : Regular) → shows_fully o ≡ true → shows_again o ≡ o
unfolding shows_fully shows_again
fully-same o z = let e = eqb-true o.reserve (o.quantity - o.display) z in rw (← e)

-- a fill leaves an order without reserve so, and one that it fills whole: only what is left of one with reserve has to show again
pub less-fully : (k : ℕ) (o : Regular) → o.reserve ≡ 0 → shows_fully o ≡ true → shows_fully (less_regular k o) ≡ true
unfolding shows_fully less_regular
less-fully k o r z =
    let e = eqb-true o.reserve (o.quantity - o.display) z in
    eq-eqb (min o.reserve (o.quantity - k)) (o.quantity - k - min o.display (o.quantity - k)) (omega arith)

pub filled-fully : (k : ℕ) (o : Regular) → o.quantity ≤ k → shows_fully (less_regular k o) ≡ true
unfolding shows_fully less_regular
filled-fully k o le = eq-eqb (min o.reserve (o.quantity - k)) (o.quantity - k - min o.display (o.quantity - k)) (omega arith)

map_same : (os : List Regular) → ((i : ℕ) → shows_fully (get_or os i no_regular) ≡ true) → map shows_again os ≡ os
map_same [] h = refl
map_same (o ∷ os) h = rw (fully-same o (h 0), map_same os (λ i. h (suc i)))

pub again-same : (v : Venue) → Showing v → show_again v ≡ v
unfolding Showing show_again with_regular
again-same v h = rw (map_same v.regular h)

-- an order in range then shows some size
pub fully-shown : (o : Regular) → regular_in_range o ≡ true → shows_fully o ≡ true → held (shown_size o) ≡ true
unfolding regular_in_range within shows_fully shown_size
fully-shown o r z =
    let a = leb-true 1 o.display (search (and_l, and_r, r) depth 12) in
    let b = leb-true o.display o.quantity (search (and_l, and_r, r) depth 12) in
    let e = eqb-true o.reserve (o.quantity - o.display) z in
    pos-held (o.quantity - o.reserve) (omega arith)

pub showing-shown : (v : Venue) → Ranged v → Showing v → Shown v
unfolding Showing
showing-shown v r z i h = fully-shown (reg v i) ((r.regular i).ok h) (z i)

-- an order that a message brings shows what it should
order-fully : (display : ℕ) (bs : List ℕ) → shows_fully (order_at display bs) ≡ true
unfolding shows_fully order_at
order-fully x bs = eq-eqb (u32_at bs 14 - x) (u32_at bs 14 - x) refl

pub message-fully : (bs : List ℕ) (o : Regular) → message_of bs ≡ Order o → shows_fully o ≡ true
unfolding message_of
message-fully bs =
    let k = kind_field bs in
    if-by Brings (eqb k 1) (λ _. is-order _) (λ _.
    if-by Brings (eqb k 2) (λ _ o e. cc) (λ _.
    if-by Brings (eqb k 3) (λ _ o e. cc) (λ _.
    if-by Brings (eqb k 4) (λ _ o e. cc) (λ _.
    if-by Brings (eqb k 5) (λ _ o e. cc) (λ _.
    if-by Brings (eqb k 6) (λ _ o e. cc) (λ _.
    if-by Brings (eqb k 7) (λ _ o e. cc) (λ _.
    if-by Brings (eqb k 8) (λ _ o e. cc) (λ _.
    if-by Brings (eqb k 9) (λ _. is-order _) (λ _.
    if-by Brings (eqb k 10) (λ _ o e. cc) (λ _ o e. cc))))))))))
  where
    Brings : Message → Type 0
    Brings m = (o : Regular) → m ≡ Order o → shows_fully o ≡ true

    is-order : (x : ℕ) → Brings (Order (order_at x bs))
    is-order x o e = let same : order_at x bs ≡ o = cc in subst (λ (a : Regular). shows_fully a ≡ true) same (order-fully x bs)

-- Messages --------------------------------------------------------------------------------------

pub settle-showing : (v : Venue) → Showing (settle v).venue
unfolding settle remove with_legging Showing
settle-showing v i = unfold Showing in (again-showing v i)

leg-regular : (number : ℕ) (c : Complex) (s d : ℕ) (v : Venue) → (generate_leg number c s d v).venue.regular ≡ v.regular
unfolding generate_leg make report remove with_legging placed counted with_generations nothing ◌⟫◌
leg-regular number c s d v = if-by (λ (e : Effect). e.venue.regular ≡ v.regular) (held c.quantity && makes number v c s d) (λ _. refl) (λ _. refl)

same-showing : (v w : Venue) → w.regular ≡ v.regular → Showing v → Showing w
unfolding Showing
same-showing v w e z i = subst (λ (l : List Regular). shows_fully (get_or l i no_regular) ≡ true) (sym e) (z i)

pub leg-showing : (number : ℕ) (c : Complex) (s d : ℕ) (v : Venue) → Showing v → Showing (generate_leg number c s d v).venue
leg-showing number c s d v z = same-showing v _ (leg-regular number c s d v) z

generate-showing : (number i : ℕ) (v : Venue) → Showing v → Showing (generate number i v).venue
unfolding generate ◌⟫◌
generate-showing number i v z = leg-showing number _ _ _ _ (leg-showing number _ _ _ v z)

perform-showing : (number : ℕ) (m : Message) (v : Venue) → Showing (perform number m v).venue
unfolding perform order cancel complex sweep limited_sweep ◌⟫◌
perform-showing number (Order o) v = settle-showing _
perform-showing number (TwoLeg c) v = generate-showing number _ _ (settle-showing _)
perform-showing number (Cancel id) v = settle-showing _
perform-showing number (Away s b o) v = settle-showing _
perform-showing number (Status s x) v = settle-showing _
perform-showing number Sweep v = keeps-each_of Showing (generate number) (generate-showing number) _ _ (settle-showing _)
perform-showing number (Increment s i e) v = settle-showing _
perform-showing number (Percent x e) v = settle-showing _
perform-showing number (LimitedSweep n) v = keeps-each_of Showing (generate number) (generate-showing number) _ _ (settle-showing _)

closed-showing : (v : Venue) → Showing v → Showing (close_gaps v)
unfolding Showing
closed-showing v z i = subst (λ (o : Regular). shows_fully o ≡ true) (sym (was v i)) (z (fr v i))

-- an accepted message leaves each order so upon every venue, and a refused one leaves it as it was
pub step-showing : (v : Venue) (number : ℕ) (bs : List ℕ) → Showing v → Showing (step v number bs).effect.venue
unfolding step answered accept nothing ◌⟫◌
step-showing v number bs z =
    if-by (λ (e : Effect). Showing e.venue) (eqb (refusal v bs) 0) (λ _. closed-showing _ (perform-showing number (message_of bs) v)) (λ _. z)
