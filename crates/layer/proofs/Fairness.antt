-- The message at the head of a venue's wait is done by the fourth turn.
use mathlib.Core.Path.{◌≡◌, refl, sym, ap, ap₂, subst, ◌∙◌}
use mathlib.Core.Logic.{◌≢◌, ⊎_elim}
use mathlib.Core.List.{List, [], ◌∷◌, ◌++◌}
use Prim.Native.Nat.{ℕ, zero, suc, ◌+◌, ◌%◌, ◌≤◌, ◌<◌}
use native.Mathlib.Omega.{arith}
use native.Mathlib.Decide.{dec_lt, ℕ_discrete}
use lib.ListN.{length, set, get_or-eq_default}
use Rattle.rules.specs.declared.Venue.{Venue}
use Rattle.rules.specs.Calls.{one}
use Rattle.layer.specs.Layer.{Lane, Layer, Turned, Asked, arrival, turning, fresh_lane, lane_at, with_lane, joins, next, head, head_call, idle, advanced, serve, turn, after, after_all}
use Rattle.layer.specs.Promises.{turns, NoneEnded, Fair}
use Rattle.layer.proofs.Ways.{ending, not-done-number, arrive-by, turn_by}
use Rattle.layer.proofs.Lanes.{lane-same, lane-other, waiting-some, head-is, ahead, ahead-few, ahead-next, first-near}

-- a lane with a message at the head of its wait, and its venue and count
record Heads (c : Lane) (x : Venue) (n : ℕ) (m : List ℕ) : Type 0 where
  others : List (List ℕ)
  wait : c.wait ≡ m ∷ others
  venue : c.venue ≡ x
  done : c.done ≡ n

-- the claim, with what stood at first in the place of the layer that it stood in
record Within (most_turns : ℕ) (l : Layer) (list : List Asked) (v : ℕ) (x : Venue) (n : ℕ) (m : List ℕ) : Type 0 where
  before : List Asked
  room : ℕ
  rest : List Asked
  split : list ≡ before ++ (turning room ∷ rest)
  few : turns before ≤ most_turns
  does : turn (after_all l before) room ≡ serve (after_all l before) v (one x n room m)

-- one call more in front of it
within-arrival : (most_turns : ℕ) (l : Layer) (list : List Asked) (v : ℕ) (x : Venue) (n : ℕ) (m : List ℕ) (w : ℕ) (b : List ℕ) →
    Within most_turns (after l (arrival w b)) list v x n m → Within most_turns l (arrival w b ∷ list) v x n m
unfolding turns after_all
within-arrival most_turns l list v x n m w b i = record {
  before = arrival w b ∷ i.before;
  room = i.room;
  rest = i.rest;
  split = ap (λ (z : List Asked). arrival w b ∷ z) i.split;
  few = i.few;
  does = i.does;
}

within-turn : (most_turns : ℕ) (l : Layer) (list : List Asked) (v : ℕ) (x : Venue) (n : ℕ) (m : List ℕ) (r : ℕ) →
    Within most_turns (after l (turning r)) list v x n m → Within (suc most_turns) l (turning r ∷ list) v x n m
unfolding turns after_all
within-turn most_turns l list v x n m r i = record {
  before = turning r ∷ i.before;
  room = i.room;
  rest = i.rest;
  split = ap (λ (z : List Asked). turning r ∷ z) i.split;
  few = (let f = i.few in omega arith);
  does = i.does;
}

-- a lane that is not there has no message
heads-in : (l : Layer) (v : ℕ) (x : Venue) (n : ℕ) (m : List ℕ) → Heads (lane_at l v) x n m → v < length l.lanes
unfolding lane_at fresh_lane
heads-in l v x n m h =
    elim (dec_lt v (length l.lanes)) [
      | yes q ↦ q
      | no q ↦ let e : [] ≡ m ∷ h.others = ap (λ (c : Lane). c.wait) (sym (get_or-eq_default l.lanes fresh_lane {n = v} (omega arith))) ∙ h.wait in
          let k : 0 ≡ suc (length h.others) = ap length e in absurd (omega arith)
    ]

joined-heads : (c : Lane) (x : Venue) (n : ℕ) (m b : List ℕ) → Heads c x n m → Heads (joins b c) x n m
unfolding joins
joined-heads c x n m b h = record { others = h.others ++ (b ∷ []); wait = ap (λ (w : List (List ℕ)). w ++ (b ∷ [])) h.wait; venue = h.venue; done = h.done }

-- an arrival leaves the head of each wait, its venue and its count, and who was served last
arrival-keeps : (l : Layer) (v : ℕ) (x : Venue) (n : ℕ) (m : List ℕ) (w : ℕ) (b : List ℕ) → Heads (lane_at l v) x n m →
    Heads (lane_at (after l (arrival w b)) v) x n m × ((after l (arrival w b)).last ≡ l.last)
unfolding after with_lane
arrival-keeps l v x n m w b h =
    arrive-by (λ a. Heads (lane_at a.layer v) x n m × (a.layer.last ≡ l.last)) l w b (λ _ _ _. (h, refl)) (λ _. (go, refl))
  where
    k : v < length l.lanes
    k = heads-in l v x n m h

    go : Heads (lane_at (with_lane l w (joins b (lane_at l w))) v) x n m
    go =
        elim (ℕ_discrete v w) [
          | yes e ↦ rw (e, lane-same l w l.last (joins b (lane_at l w)) (rw e at k)) (joined-heads (lane_at l w) x n m b (rw e at h))
          | no e ↦ rw (lane-other l w v l.last (joins b (lane_at l w)) e) h
        ]

module _ (v : ℕ) (x : Venue) (n : ℕ) (m : List ℕ) (small : v < 4) where
  -- what the rest of the list is known to do
  abbrev Rest : List Asked → Type 0
  Rest list = (d : ℕ) (l : Layer) → Heads (lane_at l v) x n m → NoneEnded l list → ahead ((l.last + 1) % 4) v ≤ d → suc d ≤ turns list → Within d l list v x n m

  -- the turn serves v
  served-now : (d : ℕ) (l : Layer) (list : List Asked) (room : ℕ) → Heads (lane_at l v) x n m → next l ≡ v →
      turn l room ≡ serve l (next l) (head_call (lane_at l (next l)) room) → Within d l (turning room ∷ list) v x n m
  unfolding turns after_all head_call
  served-now d l list room h e t = record {
    before = [];
    room = room;
    rest = list;
    split = refl;
    few = omega arith;
    does = t ∙ ap (λ (w : ℕ). serve l w (head_call (lane_at l w) room)) e
        ∙ ap (serve l v) (ap₂ (λ (y : Venue) (k : ℕ). one y k room (head (lane_at l v))) h.venue h.done ∙ ap (one x n room) (head-is (lane_at l v) m h.others h.wait));
  }

  -- it serves another, which lies before v
  served-other : (d : ℕ) (l : Layer) (list : List Asked) (room : ℕ) → Rest list → Heads (lane_at l v) x n m → next l ≢ v → (t : Turned) →
      turn l room ≡ t → t ≡ serve l (next l) (head_call (lane_at l (next l)) room) → NoneEnded t.layer list → next l < 4 → ahead (next l) v ≤ d → suc d ≤ suc (turns list) →
      Within d l (turning room ∷ list) v x n m
  unfolding serve after
  served-other zero l list room ih h e t p q o k a b = let z = ahead-next (next l) v k small e in absurd (omega arith)
  served-other (suc d) l list room ih h e t p q o k a b =
      let z = ahead-next (next l) v k small e in
      let c : Lane = advanced (lane_at l (next l)) (head_call (lane_at l (next l)) room) in
      let l' : Layer = record { lanes = set l.lanes (next l) c; last = next l } in
      let y : t.layer ≡ l' = ap (λ (u : Turned). u.layer) q in
      let g : Heads (lane_at l' v) x n m = rw (lane-other l (next l) v (next l) c (λ i. e (sym i))) h in
      within-turn d l list v x n m room
      (subst (λ (w : Layer). Within d w list v x n m) (sym (ap (λ (u : Turned). u.layer) p ∙ y)) (ih d l' g (subst (λ (w : Layer). NoneEnded w list) y o) (omega arith) (omega arith)))

  fair-turn : (d : ℕ) (l : Layer) (list : List Asked) (room : ℕ) → Rest list → Heads (lane_at l v) x n m → (turn l room).number ≢ 9 → (turn l room).number ≢ 10 →
      NoneEnded (turn l room).layer list → ahead ((l.last + 1) % 4) v ≤ d → suc d ≤ suc (turns list) → Within d l (turning room ∷ list) v x n m
  unfolding idle next
  fair-turn d l list room ih h p q o a b =
      turn_by (λ t. turn l room ≡ t → t.number ≢ 9 → t.number ≢ 10 → NoneEnded t.layer list → Within d l (turning room ∷ list) v x n m) l room
      (λ _ _ i _ _. absurd (i refl))
      (λ _ f _ _ _ _. (let g = near.0 in absurd (omega arith)))
      (λ _ _ f _ i j _. absurd (stopped f i j))
      (λ _ _ _ e _ _ o'. elim (ℕ_discrete (next l) v) [
        | yes z ↦ served-now d l list room h z e
        | no z ↦ served-other d l list room ih h z _ e refl o' near.0 (let g = near.1 in omega arith) b
      ]) refl p q o
    where
      near : (next l < 4) × (ahead (next l) v ≤ ahead ((l.last + 1) % 4) v)
      near = first-near l v 4 ((l.last + 1) % 4) (waiting-some (lane_at l v) m h.others h.wait) small (omega arith) (ahead-few ((l.last + 1) % 4) v)

      stopped : (head_call (lane_at l (next l)) room).returned.done ≡ 0 → (head_call (lane_at l (next l)) room).returned.number ≢ 9 →
          (head_call (lane_at l (next l)) room).returned.number ≢ 10 → ⊥
      stopped f i j = unfold head_call in (⊎_elim i j (not-done-number _ _ room _ (ending _ _ room (head (lane_at l (next l)))) f))

  fair-from : (list : List Asked) → Rest list
  unfolding turns after
  fair-from [] d l h o a b = absurd (omega arith)
  fair-from (arrival w y ∷ list) d l h o a b =
      let k = arrival-keeps l v x n m w y h in
      let z : ahead (((after l (arrival w y)).last + 1) % 4) v ≤ d = rw k.1 a in
      within-arrival d l list v x n m w y (fair-from list d (after l (arrival w y)) k.0 o z b)
  fair-from (turning room ∷ list) d l h o a b = fair-turn d l list room (fair-from list) h o.0 o.1 o.2 a b

pub fair : Fair
fair l list v m others h e o k =
    let x : Venue = (lane_at l v).venue in
    let n : ℕ = (lane_at l v).done in
    let i = fair-from v x n m h list 3 l (record { others = others; wait = e; venue = refl; done = refl }) o (let f = ahead-few ((l.last + 1) % 4) v in omega arith) k in
    record { before = i.before; room = i.room; rest = i.rest; split = i.split; few = i.few; does = i.does }
