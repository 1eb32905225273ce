-- A venue's own messages keep their order.
use Rattle.std.specs.Prelude.{if◌then◌else◌}
use mathlib.Core.Path.{◌≡◌, refl, sym, ap, ◌∙◌}
use mathlib.Core.Bool.{true, false, ◌&&◌}
use mathlib.Core.Logic.{◌≢◌}
use mathlib.Core.List.{List, [], ◌∷◌, ◌++◌, append_assoc, append-nil}
use Prim.Native.Nat.{ℕ, ◌<◌}
use native.Mathlib.Omega.{arith}
use native.Mathlib.Decide.{ℕ_discrete}
use lib.Dec.{eqb}
use lib.ListN.{length, get_or, drop, length-set}
use borrow.Author.Tests.{eq-eqb, ne_eqb}
use Rattle.demands.specs.Demand.{Later, by_message, given_to}
use Rattle.layer.specs.Layer.{Lane, Layer, Arrived, Turned, Asked, arrival, turning, lane_at, with_lane, waiting, joins, arrive, next, head, head_call, idle, advanced, serve, turn, after, after_all}
use Rattle.layer.specs.Promises.{brings, brought_by, takes, taken_by, messages_of, Ordered}
use Rattle.layer.proofs.Ways.{arrive-by, turn_by}
use Rattle.layer.proofs.Lanes.{lane-same, lane-other, next-some}

-- The four lanes stay four --------------------------------------------------------------------

pub still-four : (l : Layer) (a : Asked) → length l.lanes ≡ 4 → length (after l a).lanes ≡ 4
unfolding after with_lane idle serve
still-four l (arrival v m) h = arrive-by (λ a. length a.layer.lanes ≡ 4) l v m (λ _ _ _. h) (λ _. length-set l.lanes v _ ∙ h)
still-four l (turning room) h =
    turn_by (λ t. length t.layer.lanes ≡ 4) l room (λ _. h) (λ _ _. h) (λ _ _ _. h) (λ _ _ _. length-set l.lanes (next l) _ ∙ h)

-- The venue served, by its lane ---------------------------------------------------------------

-- what a turn does to the lane of v: served, or as it was
pub data LaneAfter (v : ℕ) (l : Layer) (room : ℕ) (t : Turned) : Type 0 where
  took : t.served ≡ v → lane_at t.layer v ≡ advanced (lane_at l v) (head_call (lane_at l v) room) → t.report ≡ (head_call (lane_at l v) room).report →
      (head_call (lane_at l v) room).returned.done ≢ 0 → waiting (lane_at l v) ≡ true → LaneAfter v l room t
  left : t.served ≢ v → lane_at t.layer v ≡ lane_at l v → LaneAfter v l room t

pub turn-lane : (l : Layer) (room v : ℕ) → length l.lanes ≡ 4 → v < 4 → LaneAfter v l room (turn l room)
unfolding idle serve
turn-lane l room v four h =
    turn_by (LaneAfter v l room) l room (λ _. left (λ e. omega arith) refl) (λ _ _. left (λ e. omega arith) refl) (λ _ _ _. left (λ e. omega arith) refl)
    (λ _ n d. elim (ℕ_discrete (next l) v) [
      | yes e ↦ took e (rw e (lane-same l v v _ (omega arith))) (ap (λ (w : ℕ). (head_call (lane_at l w) room).report) e) (rw e at d) (rw e at (next-some l n).1)
      | no e ↦ left e (lane-other l (next l) v (next l) _ (λ z. e (sym z)))
    ])

-- what an arrival does to it
pub data Arrival (v : ℕ) (l : Layer) (w : ℕ) (m : List ℕ) (a : Arrived) : Type 0 where
  joined : (eqb a.number 0 && eqb w v) ≡ true → lane_at a.layer v ≡ joins m (lane_at l v) → Arrival v l w m a
  apart : (eqb a.number 0 && eqb w v) ≡ false → lane_at a.layer v ≡ lane_at l v → Arrival v l w m a

pub arrival-lane : (l : Layer) (w : ℕ) (m : List ℕ) (v : ℕ) → length l.lanes ≡ 4 → v < 4 → Arrival v l w m (arrive l w m)
unfolding with_lane
arrival-lane l w m v four h =
    arrive-by (Arrival v l w m) l w m (λ x n _. apart (rw (ne_eqb x 0 n)) refl)
    (λ _. elim (ℕ_discrete w v) [
      | yes e ↦ joined (eq-eqb w v e) (rw e (lane-same l v l.last (joins m (lane_at l v)) (omega arith)))
      | no e ↦ apart (ne_eqb w v e) (lane-other l w v l.last (joins m (lane_at l w)) (λ z. e (sym z)))
    ])

-- Order ---------------------------------------------------------------------------------------

-- a wait that is not empty is its head and the rest
pub wait-split : (c : Lane) → waiting c ≡ true → c.wait ≡ head c ∷ drop 1 c.wait
unfolding waiting head
wait-split c w = go c.wait w
  where
    go : (l : List (List ℕ)) → mathlib.Core.Bool.not (eqb (length l) 0) ≡ true → l ≡ get_or l 0 [] ∷ drop 1 l
    go [] e = absurd (mathlib.Core.Bool.false≢true e)
    go (x ∷ l) e = refl

pub messages-append : (a b : List Later) → messages_of (a ++ b) ≡ messages_of a ++ messages_of b
unfolding messages_of
messages-append [] b = refl
messages-append (c ∷ a) b = ap (λ (z : List (List ℕ)). (given_to c).bytes ∷ z) (messages-append a b)

-- one call
one-ordered : (l : Layer) (a : Asked) (v : ℕ) → length l.lanes ≡ 4 → v < 4 → (lane_at l v).wait ++ brings v l a ≡ messages_of (takes v l a) ++ (lane_at (after l a) v).wait
unfolding brings takes messages_of after given_to
one-ordered l (arrival w m) v four h = go (arrival-lane l w m v four h)
  where
    go : Arrival v l w m (arrive l w m) → (lane_at l v).wait ++ (if eqb (arrive l w m).number 0 && eqb w v then m ∷ [] else []) ≡ (lane_at (arrive l w m).layer v).wait
    go (joined e f) = unfold joins in (rw (e, f))
    go (apart e f) = rw (e, f) (append-nil (lane_at l v).wait)
one-ordered l (turning room) v four h = go (turn-lane l room v four h)
  where
    go : LaneAfter v l room (turn l room) → (lane_at l v).wait ++ [] ≡
        messages_of (if eqb (turn l room).served v then by_message (record { room = room; bytes = head (lane_at l v) }) ∷ [] else []) ++ (lane_at (turn l room).layer v).wait
    go (took e f _ _ w) = unfold advanced in (rw (eq-eqb (turn l room).served v e, f, append-nil (lane_at l v).wait) (wait-split (lane_at l v) w))
    go (left e f) = rw (ne_eqb (turn l room).served v e, f) (append-nil (lane_at l v).wait)

pub ordered : Ordered
unfolding brought_by taken_by after_all messages_of
ordered l [] v four h = append-nil (lane_at l v).wait
ordered l (a ∷ list) v four h =
    sym (append_assoc (lane_at l v).wait (brings v l a) (brought_by v (after l a) list))
    ∙ ap (λ (z : List (List ℕ)). z ++ brought_by v (after l a) list) (one-ordered l a v four h)
    ∙ append_assoc (messages_of (takes v l a)) (lane_at (after l a) v).wait (brought_by v (after l a) list)
    ∙ ap (λ (z : List (List ℕ)). messages_of (takes v l a) ++ z) (ordered (after l a) list v (still-four l a four) h)
    ∙ sym (append_assoc (messages_of (takes v l a)) (messages_of (taken_by v (after l a) list)) (lane_at (after_all (after l a) list) v).wait)
    ∙ ap (λ (z : List (List ℕ)). z ++ (lane_at (after_all (after l a) list) v).wait) (sym (messages-append (takes v l a) (taken_by v (after l a) list)))
