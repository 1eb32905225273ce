-- What stopped the handing out, that its fuel is enough, and that the call never returns 1.
use Rattle.std.specs.Prelude.{if◌then◌else◌}
use mathlib.Core.Path.{◌≡◌, refl, sym, ap, subst, ◌∙◌}
use mathlib.Core.Bool.{Bool, true, false, ◌&&◌, ◌||◌}
use mathlib.Core.Logic.{◌≢◌}
use mathlib.Core.List.{List, [], ◌∷◌}
use Prim.Native.Nat.{ℕ, zero, suc, ◌+◌, ◌<◌, ◌≤◌}
use native.Mathlib.Omega.{arith}
use lib.Dec.{ltb, eqb}
use lib.ListN.{length, drop, length-drop}
use borrow.Author.Tests.{eqb-true, eqb-false, ltb-false, ne_eqb}
use Rattle.rules.specs.declared.Venue.{Venue}
use Rattle.rules.specs.Words.{fresh_venue}
use Rattle.rules.specs.Step.{step}
use Rattle.rules.specs.Calls.{Call, Outcome, after, called, ends, exceeds}
use Rattle.rules.proofs.Tests.{and_l, and_r, or-false-l, or-false-r}
use Rattle.feed.specs.Feed.{faultless, Part, parts_of, Under, absent, stands, under, later, same, Next, message, stop, next_by, next, Handed, stopped, first, handed_from, handed, feed}
use Rattle.feed.specs.Cursors.{stop_of, advance_of}
use Rattle.feed.specs.Turns.{fed_from, hands}
use Rattle.feed.specs.Stops.{StopsThere, NoneLeft, NeverTorn}
use Rattle.feed.proofs.Handing.{handed-on, handed-stop}
use Rattle.feed.proofs.FeedRuns.{hands-full, hands_more, fed-on, fed-stop, feed-is, feed-not}
use Rattle.feed.proofs.Ahead.{Ahead, ahead-start, ahead-moved, ahead-ready, advance-within, some-move, next_up, next-end, next-whole, up-stop, stop-not}

-- The number after the last -------------------------------------------------------------------

module _ (m s : List Part) where
  -- n messages having gone before, what stopped it is what came of the number after the list's last
  abbrev Stops : (n : ℕ) → Handed → Type 0
  Stops n h = next (suc (n + length h.messages)) m s ≡ stop h.number

  stops-here : (n k : ℕ) → next (suc n) m s ≡ stop k → Stops n (stopped k)
  unfolding stopped
  stops-here n k e = let z : suc (n + 0) ≡ suc n = omega arith in ap (λ (j : ℕ). next j m s) z ∙ e

  stops_first : (n : ℕ) (bs : List ℕ) (h : Handed) → Stops (suc n) h → Stops n (first bs h)
  unfolding first
  stops_first n bs h e =
      let z : suc (n + suc (length h.messages)) ≡ suc (suc n + length h.messages) = omega arith in
      ap (λ (j : ℕ). next j m s) z ∙ e

  -- a message that is handed out stands on a line, which then has less left
  module _ (n : ℕ) (bs cs : List ℕ) (g : Ahead n bs m) (h : Ahead n cs s) where
    some_left : (x : List ℕ) → next (suc n) m s ≡ message x → 0 < length bs + length cs
    some_left x e = go (eqb (length bs + length cs) 0) refl
      where
        go : (t : Bool) → eqb (length bs + length cs) 0 ≡ t → 0 < length bs + length cs
        go true f =
            let z = eqb-true (length bs + length cs) 0 f in
            absurd (stop-not 0 x (sym (next-end n bs cs m s g h (omega arith) (omega arith)) ∙ e))
        go false f = let z = eqb-false (length bs + length cs) 0 f in omega arith

    not_stopped : (x : List ℕ) → next (suc n) m s ≡ message x → stop_of (suc n) bs cs ≡ 0
    not_stopped x e = go (eqb (stop_of (suc n) bs cs) 0) refl
      where
        go : (t : Bool) → eqb (stop_of (suc n) bs cs) 0 ≡ t → stop_of (suc n) bs cs ≡ 0
        go true f = eqb-true (stop_of (suc n) bs cs) 0 f
        go false f =
            absurd (stop-not (stop_of (suc n) bs cs) x
            (sym (next_up n bs cs m s g h (some_left x e) ∙ up-stop (suc n) bs cs (stop_of (suc n) bs cs) refl (eqb-false (stop_of (suc n) bs cs) 0 f)) ∙ e))

    less-left : (x : List ℕ) → next (suc n) m s ≡ message x →
        length (drop (advance_of (suc n) bs) bs) + length (drop (advance_of (suc n) cs) cs) < length bs + length cs
    less-left x e =
        let a = some-move (suc n) bs cs (not_stopped x e) in
        let b = advance-within n bs (ahead-ready n bs m g) in
        let c = advance-within n cs (ahead-ready n cs s h) in
        let j = length-drop (advance_of (suc n) bs) bs in
        let k = length-drop (advance_of (suc n) cs) cs in
        omega arith

  stops-from : (fuel n : ℕ) (bs cs : List ℕ) → Ahead n bs m → Ahead n cs s → length bs + length cs ≤ fuel → Stops n (handed_from fuel n m s)
  stops-from zero n bs cs g h le = unfold handed_from in (stops-here n 0 (next-end n bs cs m s g h (omega arith) (omega arith)))
  stops-from (suc fuel) n bs cs g h le = go (next (suc n) m s) refl (λ ds es i j k. stops-from fuel (suc n) ds es i j k)
    where
      go : (x : Next) → next (suc n) m s ≡ x →
          ((ds es : List ℕ) → Ahead (suc n) ds m → Ahead (suc n) es s → length ds + length es ≤ fuel → Stops (suc n) (handed_from fuel (suc n) m s)) →
          Stops n (handed_from (suc fuel) n m s)
      go (stop k) e on = subst (Stops n) (sym (handed-stop fuel n m s k e)) (stops-here n k e)
      go (message x) e on =
          let l = less-left n bs cs g h x e in
          subst (Stops n) (sym (handed-on fuel n m s x e))
          (stops_first n x (handed_from fuel (suc n) m s) (on _ _ (ahead-moved n bs m g) (ahead-moved n cs s h) (omega arith)))

pub stops-there : StopsThere
unfolding handed
stops-there main spare e =
    let a = and_l (faultless main) (faultless spare) e in
    let b = and_r (faultless main) (faultless spare) e in
    let n = length (handed_from (length main + length spare) 0 (parts_of main) (parts_of spare)).messages in
    let z : suc n ≡ suc (0 + n) = omega arith in
    rw e (ap (λ (j : ℕ). next j (parts_of main) (parts_of spare)) z
    ∙ stops-from (parts_of main) (parts_of spare) (length main + length spare) 0 main spare (ahead-start main a) (ahead-start spare b) (omega arith))

-- Nothing beyond the list ---------------------------------------------------------------------

-- where no later number stands on a line, none that is later is found
none-later : (n k : ℕ) (ps : List Part) → later n ps ≡ false → n < k → under k ps ≡ absent
none-later n k [] e h = unfold under in refl
none-later n k (p ∷ ps) e h = go (unfold later in e) (none-later n k ps)
  where
    go : (ltb n p.number || later n ps) ≡ false → (later n ps ≡ false → n < k → under k ps ≡ absent) → under k (p ∷ ps) ≡ absent
    go f on =
        let z = ltb-false n p.number (or-false-l (ltb n p.number) (later n ps) f) in
        unfold under in (rw (ne_eqb p.number k (λ i. omega arith)) (on (or-false-r (ltb n p.number) (later n ps) f) h))

stop-same : (j k : ℕ) → stop j ≡ stop k → j ≡ k
stop-same j k e = ap out e
  where
    out : Next → ℕ
    out (stop i) = i
    out (message x) = j

-- the handing out comes to its end where neither line has the number and no later one stands
ended : (x y : Under) (l : Bool) → next_by x y l ≡ stop 0 → (x ≡ absent) × (y ≡ absent) × (l ≡ false)
unfolding next_by
ended (stands a) (stands b) l e = go (same a b) e
  where
    go : (t : Bool) → (if t then message a else stop 19) ≡ stop 0 → (stands a ≡ absent) × (stands b ≡ absent) × (l ≡ false)
    go true f = absurd (stop-not 0 a (sym f))
    go false f = let z = stop-same 19 0 f in absurd (omega arith)
ended (stands a) absent l e = absurd (stop-not 0 a (sym e))
ended absent (stands b) l e = absurd (stop-not 0 b (sym e))
ended absent absent true e = let z = stop-same 20 0 e in absurd (omega arith)
ended absent absent false e = (refl, refl, refl)

beyond : (n k : ℕ) (ps : List Part) → under (suc n) ps ≡ absent → later (suc n) ps ≡ false → n < k → under k ps ≡ absent
beyond n k ps u l h = go (eqb k (suc n)) refl
  where
    go : (t : Bool) → eqb k (suc n) ≡ t → under k ps ≡ absent
    go true e = ap (λ (j : ℕ). under j ps) (eqb-true k (suc n) e) ∙ u
    go false e = let z = eqb-false k (suc n) e in none-later (suc n) k ps l (omega arith)

-- with a faulty line the number is 21
faulty-stops : (main spare : List ℕ) → (faultless main && faultless spare) ≡ false → (handed main spare).number ≡ 21
unfolding handed stopped
faulty-stops main spare e = rw e

not-faulty : (main spare : List ℕ) → (handed main spare).number ≡ 0 → (faultless main && faultless spare) ≡ true
not-faulty main spare z = go (faultless main && faultless spare) refl
  where
    go : (t : Bool) → (faultless main && faultless spare) ≡ t → (faultless main && faultless spare) ≡ true
    go true e = e
    go false e = let y = faulty-stops main spare e in absurd (omega arith)

pub none_left : NoneLeft
unfolding next
none_left main spare z k h =
    let n = length (handed main spare).messages in
    let e = stops-there main spare (not-faulty main spare z) ∙ ap stop z in
    let a = ended (under (suc n) (parts_of main)) (under (suc n) (parts_of spare)) (later (suc n) (parts_of main) || later (suc n) (parts_of spare)) e in (
      beyond n k (parts_of main) a.0 (or-false-l (later (suc n) (parts_of main)) (later (suc n) (parts_of spare)) a.2) h,
      beyond n k (parts_of spare) a.1 (or-false-r (later (suc n) (parts_of main)) (later (suc n) (parts_of spare)) a.2) h,
    )

-- Never 1 -------------------------------------------------------------------------------------

-- what stops the handing out is no 1
stop-by : (a b : Under) (ahead : Bool) (k : ℕ) → next_by a b ahead ≡ stop k → k ≢ 1
unfolding next_by
stop-by (stands x) (stands y) ahead k = go (same x y)
  where
    go : (t : Bool) → (if t then message x else stop 19) ≡ stop k → k ≢ 1
    go true e one = absurd (stop-not k x (sym e))
    go false e one = let z : ◌≡◌ {A = ℕ} 19 k = cc in omega arith
stop-by (stands x) absent ahead k = λ e. absurd (stop-not k x (sym e))
stop-by absent (stands y) ahead k = λ e. absurd (stop-not k y (sym e))
stop-by absent absent ahead k = go ahead
  where
    go : (t : Bool) → (if t then stop 20 else stop 0) ≡ stop k → k ≢ 1
    go true e one = let z : ◌≡◌ {A = ℕ} 20 k = cc in omega arith
    go false e one = let z : ◌≡◌ {A = ℕ} 0 k = cc in omega arith

next-stops : (n : ℕ) (m s : List Part) (k : ℕ) → next n m s ≡ stop k → k ≢ 1
unfolding next
next-stops n m s k = stop-by (under n m) (under n s) (later n m || later n s) k

hands-whole : (v : Venue) (n room : ℕ) (bs : List ℕ) (rest : Venue → ℕ → Outcome) → ((w : Venue) (left : ℕ) → (rest w left).number ≢ 1) → (hands v n room bs rest).number ≢ 1
hands-whole v n room bs rest on = go (exceeds (suc n) room (step v (suc n) bs).effect.reports) refl
  where
    go : (b : Bool) → exceeds (suc n) room (step v (suc n) bs).effect.reports ≡ b → (hands v n room bs rest).number ≢ 1
    go true e = rw (hands-full v n room bs rest e) (unfold ends in (λ z. omega arith))
    go false e = rw (hands_more v n room bs rest e) (unfold after in (on _ _))

fed-whole : (fuel : ℕ) (v : Venue) (n room : ℕ) (m s : List Part) → (fed_from fuel v n room m s).number ≢ 1
fed-whole zero v n room m s = unfold fed_from ends in (λ z. omega arith)
fed-whole (suc fuel) v n room m s = go (next (suc n) m s) refl (λ w left. fed-whole fuel w (suc n) left m s)
  where
    go : (x : Next) → next (suc n) m s ≡ x → ((w : Venue) (left : ℕ) → (fed_from fuel w (suc n) left m s).number ≢ 1) → (fed_from (suc fuel) v n room m s).number ≢ 1
    go (stop k) e on = rw (fed-stop fuel v n room m s k e) (unfold ends in (next-stops (suc n) m s k e))
    go (message bs) e on = rw (fed-on fuel v n room m s bs e) (hands-whole v n room bs (λ w left. fed_from fuel w (suc n) left m s) on)

pub never-torn : NeverTorn
unfolding called ends
never-torn room main spare = go (faultless main && faultless spare) refl
  where
    go : (b : Bool) → (faultless main && faultless spare) ≡ b → (feed room main spare).returned.number ≢ 1
    go true e =
        let a = and_l (faultless main) (faultless spare) e in
        let b = and_r (faultless main) (faultless spare) e in
        subst (λ (c : Call). c.returned.number ≢ 1) (feed-is (parts_of main) (parts_of spare) (next-whole main spare a b) room main spare refl refl a b)
        (fed-whole (length main + length spare) fresh_venue 0 room (parts_of main) (parts_of spare))
    go false e = subst (λ (c : Call). c.returned.number ≢ 1) (feed-not room main spare e) (λ z. omega arith)
