-- What stands ahead of a position on a line, and that the next number is read from there.
use Rattle.std.specs.Prelude.{if◌then◌else◌}
use mathlib.Core.Path.{◌≡◌, refl, sym, ap, subst, ◌∙◌}
use mathlib.Core.Bool.{Bool, true, false, true≢false, ◌||◌}
use mathlib.Core.List.{List, [], ◌∷◌}
use Prim.Native.Nat.{ℕ, zero, suc, ◌+◌, ◌<◌, ◌≤◌}
use native.Mathlib.Omega.{arith}
use lib.Dec.{eqb}
use lib.ListN.{length, drop, length-drop}
use lib.Seq.{length-take-le}
use borrow.Author.Tests.{ne_eqb, eq-eqb, eqb-true, eqb-false, lt-ltb}
use Rattle.rules.specs.Bytes.{length_field}
use Rattle.rules.proofs.Front.{length_front}
use Rattle.rules.proofs.RefusalsLaws.{whole}
use Rattle.feed.specs.Feed.{number_of, message_in, behind, faulty, faultless, faultless_from, Part, parts_from, parts_of, Under, absent, stands, under, later, same, Next, message, stop, next, next_by}
use Rattle.feed.specs.Sent.{WholeMessage}
use Rattle.feed.specs.Cursors.{ready, stop_of, part_of, up_next, advance_of}
use Rattle.feed.proofs.Handing.{under-past, later-past}
use Rattle.feed.proofs.Cursors.{fine-above, fine-whole, fine-in, fine-length, advance-is, advance-not, ready-some, spare-has, faultless-not, faultless-on}

-- these bytes hold these parts, all numbers above the last
abbrev Holds : (last : ℕ) (bs : List ℕ) (ps : List Part) → Type 0
Holds last bs [] = length bs ≡ 0
Holds last bs (p ∷ ps) = (0 < length bs) × (faulty last bs ≡ false) × (p.number ≡ number_of bs) × (p.message ≡ message_in bs) × Holds (number_of bs) (behind bs) ps

behind-length : (last : ℕ) (bs : List ℕ) → faulty last bs ≡ false → length (behind bs) < length bs
unfolding behind
behind-length last bs e =
    let a = fine-length last bs e in
    let x = a.0 in
    let y = a.1 in
    let k = length-drop (4 + length_field (drop 4 bs)) bs in
    omega arith

parts_none : (fuel : ℕ) (bs : List ℕ) → eqb (length bs) 0 ≡ true → parts_from (suc fuel) bs ≡ []
unfolding parts_from
parts_none fuel bs e = rw (e, parts_from)

parts-some : (fuel : ℕ) (bs : List ℕ) → eqb (length bs) 0 ≡ false → parts_from (suc fuel) bs ≡ record { number = number_of bs; message = message_in bs } ∷ parts_from fuel (behind bs)
unfolding parts_from
parts-some fuel bs e = rw (e, parts_from)

holds-line : (fuel last : ℕ) (bs : List ℕ) → length bs ≤ fuel → faultless_from fuel last bs ≡ true → Holds last bs (parts_from fuel bs)
holds-line zero last bs le r = unfold parts_from in (omega arith)
holds-line (suc fuel) last bs le r = go (eqb (length bs) 0) refl (faulty last bs) refl (λ x cs k. holds-line fuel x cs k)
  where
    go : (z : Bool) → eqb (length bs) 0 ≡ z → (f : Bool) → faulty last bs ≡ f →
        ((x : ℕ) (cs : List ℕ) → length cs ≤ fuel → faultless_from fuel x cs ≡ true → Holds x cs (parts_from fuel cs)) → Holds last bs (parts_from (suc fuel) bs)
    go true a f b on = subst (Holds last bs) (sym (parts_none fuel bs a)) (eqb-true (length bs) 0 a)
    go false a true b on =
        let z = eqb-false (length bs) 0 a in
        absurd (true≢false (sym r ∙ faultless-not fuel last bs (omega arith) b))
    go false a false b on =
        let z = eqb-false (length bs) 0 a in
        let l = behind-length last bs b in
        subst (Holds last bs) (sym (parts-some fuel bs a))
        (omega arith, b, refl, refl, on (number_of bs) (behind bs) (omega arith) (sym (faultless-on fuel last bs (omega arith) b) ∙ r))

-- what stands in front, and what behind it
under-front : (k : ℕ) (p : Part) (ps : List Part) → eqb p.number k ≡ true → under k (p ∷ ps) ≡ stands p.message
unfolding under
under-front k p ps e = rw e

under-behind : (k : ℕ) (p : Part) (ps : List Part) → eqb p.number k ≡ false → under k (p ∷ ps) ≡ under k ps
unfolding under
under-behind k p ps e = rw e

-- a number that is passed
holds-low : (last k : ℕ) (bs : List ℕ) (ps : List Part) → Holds last bs ps → k ≤ last → under k ps ≡ absent
holds-low last k bs [] h le = unfold under in refl
holds-low last k bs (p ∷ ps) h le =
    let f = fine-above last bs h.1 in
    let n = h.2 in
    under-behind k p ps (ne_eqb p.number k (λ e. omega arith)) ∙ holds-low (number_of bs) k (behind bs) ps h.4 (omega arith)

-- what stands under the next number
abbrev here : (n : ℕ) (bs : List ℕ) → Under
here n bs = if eqb (number_of bs) n then stands (message_in bs) else absent

number-empty : (bs : List ℕ) → length bs ≡ 0 → number_of bs ≡ 0
unfolding number_of
number-empty bs e = rw (lt-ltb (length bs) 4 (omega arith))

under-here : (last : ℕ) (bs : List ℕ) (ps : List Part) → Holds last bs ps → under (suc last) ps ≡ here (suc last) bs
under-here last bs [] h = let z = number-empty bs h in unfold under in (rw (ne_eqb (number_of bs) (suc last) (λ e. omega arith)))
under-here last bs (p ∷ ps) h = go (eqb (number_of bs) (suc last)) refl
  where
    go : (t : Bool) → eqb (number_of bs) (suc last) ≡ t → under (suc last) (p ∷ ps) ≡ (if t then stands (message_in bs) else absent)
    go true e = under-front (suc last) p ps (ap (λ (k : ℕ). eqb k (suc last)) h.2 ∙ e) ∙ ap stands h.3
    go false e =
        let f = fine-above last bs h.1 in
        under-behind (suc last) p ps (ap (λ (k : ℕ). eqb k (suc last)) h.2 ∙ e) ∙ holds-low (number_of bs) (suc last) (behind bs) ps h.4 (omega arith)

later-here : (last : ℕ) (bs : List ℕ) (ps : List Part) → Holds last bs ps → 0 < length bs → eqb (number_of bs) (suc last) ≡ false → later (suc last) ps ≡ true
later-here last bs [] h some e = absurd (omega arith)
later-here last bs (p ∷ ps) h some e =
    let f = fine-above last bs h.1 in
    let n = h.2 in
    let z = eqb-false (number_of bs) (suc last) e in
    unfold later in (rw (lt-ltb (suc last) p.number (omega arith)))

-- every message on the line is whole
WholeParts : List Part → Type 0
WholeParts ps = (k : ℕ) (bs : List ℕ) → under k ps ≡ stands bs → WholeMessage bs

message-whole : (last : ℕ) (bs : List ℕ) → faulty last bs ≡ false → WholeMessage (message_in bs)
unfolding message_in
message-whole last bs e =
    let w = whole (drop 4 bs) (fine-whole last bs e) in
    let a = w.0 in
    let l = length-take-le (length_field (drop 4 bs)) (drop 4 bs) w.1 in
    let f = length_front (drop 4 bs) (length_field (drop 4 bs)) (omega arith) w.1 in
    (omega arith, f ∙ sym l)

stands_same : (a b : List ℕ) → stands a ≡ stands b → a ≡ b
stands_same a b e = ap out e
  where
    out : Under → List ℕ
    out (stands x) = x
    out absent = a

stands-not : (b : List ℕ) → absent ≡ stands b → ⊥
stands-not b e = true≢false (sym (ap is-absent e))
  where
    is-absent : Under → Bool
    is-absent absent = false
    is-absent (stands x) = true

holds-whole : (last : ℕ) (bs : List ℕ) (ps : List Part) → Holds last bs ps → WholeParts ps
unfolding WholeParts
holds-whole last bs [] h k cs e = absurd (stands-not cs (unfold under in e))
holds-whole last bs (p ∷ ps) h k cs e = go (eqb p.number k) refl (holds-whole (number_of bs) (behind bs) ps h.4 k cs)
  where
    go : (t : Bool) → eqb p.number k ≡ t → (under k ps ≡ stands cs → WholeMessage cs) → WholeMessage cs
    go true f on =
        let same-is : p.message ≡ cs = stands_same p.message cs (sym (under-front k p ps f) ∙ e) in
        subst WholeMessage (sym h.3 ∙ same-is) (message-whole last bs h.1)
    go false f on = on (sym (under-behind k p ps f) ∙ e)

-- Ahead of a position -------------------------------------------------------------------------

-- n messages are handed out, and of the line's parts those that count stand in these bytes
pub record Ahead (n : ℕ) (bs : List ℕ) (line : List Part) : Type 0 where
  pub parts : List Part
  pub held : Holds n bs parts
  pub same-under : (k : ℕ) → n < k → under k line ≡ under k parts
  pub same-later : (k : ℕ) → n < k → later k line ≡ later k parts

pub ahead-start : (line : List ℕ) → faultless line ≡ true → Ahead 0 line (parts_of line)
unfolding faultless parts_of
ahead-start line e =
    record { parts = parts_from (length line) line; held = holds-line (length line) 0 line (omega arith) e; same-under = λ k h. refl; same-later = λ k h. refl }

pub line-whole : (line : List ℕ) → faultless line ≡ true → (k : ℕ) (bs : List ℕ) → under k (parts_of line) ≡ stands bs → WholeMessage bs
unfolding faultless parts_of WholeParts
line-whole line e = holds-whole 0 line (parts_from (length line) line) (holds-line (length line) 0 line (omega arith) e)

pub ahead-ready : (n : ℕ) (bs : List ℕ) (line : List Part) → Ahead n bs line → ready n bs ≡ true
ahead-ready n bs line g = go g.parts g.held
  where
    go : (ps : List Part) → Holds n bs ps → ready n bs ≡ true
    go [] h = unfold ready in (rw (eq-eqb (length bs) 0 h))
    go (p ∷ ps) h = let z = h.0 in unfold ready in (rw (ne_eqb (length bs) 0 (λ e. omega arith), h.1))

advance-behind : (n : ℕ) (bs : List ℕ) → number_of bs ≡ n → drop (advance_of n bs) bs ≡ behind bs
unfolding behind
advance-behind n bs e = ap (λ (k : ℕ). drop k bs) (advance-is n bs e)

-- the line once the next number is handed out
pub ahead-moved : (n : ℕ) (bs : List ℕ) (line : List Part) → Ahead n bs line → Ahead (suc n) (drop (advance_of (suc n) bs) bs) line
ahead-moved n bs line g = go g.parts g.held g.same-under g.same-later
  where
    go : (ps : List Part) → Holds n bs ps → ((k : ℕ) → n < k → under k line ≡ under k ps) → ((k : ℕ) → n < k → later k line ≡ later k ps) →
        Ahead (suc n) (drop (advance_of (suc n) bs) bs) line
    go [] h u l =
        let z = number-empty bs h in
        record {
          parts = [];
          held = rw (advance-not (suc n) bs (λ e. omega arith)) h;
          same-under = λ k j. u k (omega arith);
          same-later = λ k j. l k (omega arith);
        }
    go (p ∷ ps) h u l = by (eqb (number_of bs) (suc n)) refl
      where
        by : (t : Bool) → eqb (number_of bs) (suc n) ≡ t → Ahead (suc n) (drop (advance_of (suc n) bs) bs) line
        by true e =
            let x = eqb-true (number_of bs) (suc n) e in
            let y = h.2 in
            record {
              parts = ps;
              held = subst (λ (cs : List ℕ). Holds (suc n) cs ps) (sym (advance-behind (suc n) bs x)) (subst (λ (k : ℕ). Holds k (behind bs) ps) x h.4);
              same-under = λ k j. u k (omega arith) ∙ under-past p ps k (omega arith);
              same-later = λ k j. l k (omega arith) ∙ later-past p ps k (omega arith);
            }
        by false e =
            let x = eqb-false (number_of bs) (suc n) e in
            let f = fine-above n bs h.1 in
            record {
              parts = p ∷ ps;
              held = rw (advance-not (suc n) bs x) (h.0, fine-in (suc n) bs (omega arith) (fine-whole n bs h.1), h.2, h.3, h.4);
              same-under = λ k j. u k (omega arith);
              same-later = λ k j. l k (omega arith);
            }

-- and it stays on the line
pub advance-within : (n : ℕ) (bs : List ℕ) → ready n bs ≡ true → advance_of (suc n) bs ≤ length bs
advance-within n bs r = go (eqb (number_of bs) (suc n)) refl
  where
    go : (t : Bool) → eqb (number_of bs) (suc n) ≡ t → advance_of (suc n) bs ≤ length bs
    go true e =
        let x = eqb-true (number_of bs) (suc n) e in
        let y = advance-is (suc n) bs x in
        let w = (fine-length n bs (ready-some n bs r (omega arith))).1 in
        omega arith
    go false e = let y = advance-not (suc n) bs (eqb-false (number_of bs) (suc n) e) in omega arith

-- where a message is handed out, a line goes on
pub some-move : (n : ℕ) (m s : List ℕ) → stop_of n m s ≡ 0 → 0 < advance_of n m + advance_of n s
some-move n m s z = go (eqb (number_of m) n) refl
  where
    go : (t : Bool) → eqb (number_of m) n ≡ t → 0 < advance_of n m + advance_of n s
    go true e = let y = advance-is n m (eqb-true (number_of m) n e) in omega arith
    go false e = let y = advance-is n s (spare-has n m s (eqb-false (number_of m) n e) z) in omega arith

-- The next number -----------------------------------------------------------------------------

or-true : (t : Bool) → (t || true) ≡ true
or-true true = refl
or-true false = refl

later-none : (last : ℕ) (bs : List ℕ) (ps : List Part) → Holds last bs ps → length bs ≡ 0 → (k : ℕ) → later k ps ≡ false
later-none last bs [] h e k = unfold later in refl
later-none last bs (p ∷ ps) h e k = let z = h.0 in absurd (omega arith)

abbrev kept : (a b t : Bool) → ℕ
kept a b t = if a then if b then if t then 0 else 19 else 0 else if b then 0 else 20

by-fronts : (a b : Bool) (x y : List ℕ) (l : Bool) → (a ≡ false → b ≡ false → l ≡ true) →
    next_by (if a then stands x else absent) (if b then stands y else absent) l
    ≡ (if eqb (kept a b (same x y)) 0 then message (if a then x else y) else stop (kept a b (same x y)))
unfolding next_by
by-fronts true true x y l h = go (same x y)
  where
    go : (t : Bool) → ◌≡◌ {A = Next} (if t then message x else stop 19) (if eqb (kept true true t) 0 then message x else stop (kept true true t))
    go true = refl
    go false = refl
by-fronts true false x y l h = refl
by-fronts false true x y l h = refl
by-fronts false false x y l h = rw (h refl)

message-same : (a b : List ℕ) → message a ≡ message b → a ≡ b
message-same a b e = ap out e
  where
    out : Next → List ℕ
    out (message x) = x
    out (stop k) = a

pub stop-not : (k : ℕ) (b : List ℕ) → stop k ≡ message b → ⊥
stop-not k b e = true≢false (sym (ap is_stop e))
  where
    is_stop : Next → Bool
    is_stop (stop k) = false
    is_stop (message x) = true

by_whole : (x y : Under) (l : Bool) (bs : List ℕ) → ((cs : List ℕ) → x ≡ stands cs → WholeMessage cs) → ((cs : List ℕ) → y ≡ stands cs → WholeMessage cs) →
    next_by x y l ≡ message bs → WholeMessage bs
unfolding next_by
by_whole (stands a) (stands b) l bs f g e = go (same a b) e
  where
    go : (t : Bool) → (if t then message a else stop 19) ≡ message bs → WholeMessage bs
    go true e = subst WholeMessage (message-same a bs e) (f a refl)
    go false e = absurd (stop-not 19 bs e)
by_whole (stands a) absent l bs f g e = subst WholeMessage (message-same a bs e) (f a refl)
by_whole absent (stands b) l bs f g e = subst WholeMessage (message-same b bs e) (g b refl)
by_whole absent absent true bs f g e = absurd (stop-not 20 bs e)
by_whole absent absent false bs f g e = absurd (stop-not 0 bs e)

module _ (n : ℕ) (bs cs : List ℕ) (m s : List Part) (g : Ahead n bs m) (h : Ahead n cs s) where
  main-under : under (suc n) m ≡ here (suc n) bs
  main-under = g.same-under (suc n) (omega arith) ∙ under-here n bs g.parts g.held

  spare-under : under (suc n) s ≡ here (suc n) cs
  spare-under = h.same-under (suc n) (omega arith) ∙ under-here n cs h.parts h.held

  ahead-then : 0 < length bs + length cs → eqb (number_of bs) (suc n) ≡ false → eqb (number_of cs) (suc n) ≡ false → (t : Bool) → eqb (length bs) 0 ≡ t →
      (later (suc n) m || later (suc n) s) ≡ true
  ahead-then some a b true e =
      let z = eqb-true (length bs) 0 e in
      ap (λ (t : Bool). later (suc n) m || t) (h.same-later (suc n) (omega arith) ∙ later-here n cs h.parts h.held (omega arith) b) ∙ or-true (later (suc n) m)
  ahead-then some a b false e =
      let z = eqb-false (length bs) 0 e in
      ap (λ (t : Bool). t || later (suc n) s) (g.same-later (suc n) (omega arith) ∙ later-here n bs g.parts g.held (omega arith) a)

  -- it is what the front of both lines tells
  pub next_up : 0 < length bs + length cs → next (suc n) m s ≡ up_next (suc n) bs cs
  unfolding next up_next stop_of part_of
  next_up some =
      rw (main-under, spare-under)
      (by-fronts (eqb (number_of bs) (suc n)) (eqb (number_of cs) (suc n)) (message_in bs) (message_in cs) (later (suc n) m || later (suc n) s)
      (λ a b. ahead-then some a b (eqb (length bs) 0) refl))

  -- both lines are at their ends
  pub next-end : length bs ≡ 0 → length cs ≡ 0 → next (suc n) m s ≡ stop 0
  unfolding next next_by
  next-end a b =
      let x = number-empty bs a in
      let y = number-empty cs b in
      rw (
        main-under,
        spare-under,
        ne_eqb (number_of bs) (suc n) (λ e. omega arith),
        ne_eqb (number_of cs) (suc n) (λ e. omega arith),
        g.same-later (suc n) (omega arith) ∙ later-none n bs g.parts g.held a (suc n),
        h.same-later (suc n) (omega arith) ∙ later-none n cs h.parts h.held b (suc n),
      ) refl

-- every message handed out is whole
pub next-whole : (main spare : List ℕ) → faultless main ≡ true → faultless spare ≡ true → (k : ℕ) (bs : List ℕ) → next k (parts_of main) (parts_of spare) ≡ message bs → WholeMessage bs
unfolding next
next-whole main spare a b k bs e = by_whole (under k (parts_of main)) (under k (parts_of spare)) _ bs (line-whole main a k) (line-whole spare b k) e

-- What is up ----------------------------------------------------------------------------------

pub up-message : (n : ℕ) (m s : List ℕ) → stop_of n m s ≡ 0 → up_next n m s ≡ message (part_of n m s)
unfolding up_next
up-message n m s e = rw e

pub up-stop : (n : ℕ) (m s : List ℕ) (k : ℕ) → k ≡ stop_of n m s → (k ≡ 0 → ⊥) → up_next n m s ≡ stop k
unfolding up_next
up-stop n m s k e z = rw (sym e, ne_eqb k 0 z)
