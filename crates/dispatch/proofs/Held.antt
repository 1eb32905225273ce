-- The calls upon a memory are those upon the layer that it holds.
use Rattle.std.specs.Prelude.{if◌then◌else◌}
use mathlib.Core.Path.{◌≡◌, refl, sym, ap, ◌∙◌}
use mathlib.Core.Bool.{true}
use mathlib.Core.Logic.{◌≢◌}
use mathlib.Core.List.{List, [], ◌∷◌}
use Prim.Native.Nat.{ℕ, ◌*◌, ◌≤◌, ◌<◌}
use native.Mathlib.Omega.{arith}
use lib.Dec.{eqb, leb}
use lib.ListN.{length, set, length-set}
use borrow.Author.Tests.{eq-eqb, ne_eqb, leb-true, eqb-false, not-true}
use Rattle.rules.specs.Base.{all}
use Rattle.rules.specs.Bytes.{u8_at}
use Rattle.rules.specs.Calls.{Call}
use Rattle.rules.proofs.Tests.{and_l}
use Rattle.places.proofs.Tables.{upto-length}
use Rattle.layer.specs.Layer.{Lane, Layer, Asked, arrival, turning, lane_at, with_lane, wait_sound, layer_sound, joins, arrive, waiting, next, head_call, idle, advanced, serve, turn, after, after_all}
use Rattle.layer.proofs.Ways.{Waits, arrive-by, turn_by}
use Rattle.layer.proofs.Lanes.{next-some}
use Rattle.layer.proofs.PromisesLaws.{each_lane, lane-wait}
use Rattle.lanes.specs.Memory.{count_at, lane_size, last_at, layer_size, lane_from, lane_part, lane_of, layer_from, with_part, joined_bytes, head_called, advanced_bytes}
use Rattle.dispatch.specs.Hosts.{fresh_held, arrive_held, served_bytes, turn_leaves, turn_held, memory_after, memory_after_all, Held}
use Rattle.lanes.proofs.Bytes.{part_length}
use Rattle.lanes.proofs.Figures.{lane-of}
use Rattle.lanes.proofs.Lent.{with_size, lane-anew, last-anew}
use Rattle.lanes.proofs.WaitJoined.{joined-size, lane-joined}
use Rattle.lanes.proofs.HeadCalled.{head-called, lane-advanced, advanced-size}
use Rattle.lanes.proofs.Fresh.{fresh-held}

-- A lane with its figures in range -------------------------------------------------------------

pub record Lends (m : List ℕ) (v : ℕ) : Type 0 where
  pub at : lane_at (layer_from m) v ≡ lane_from (lane_part m v)
  pub size : length (lane_part m v) ≡ lane_size
  pub fine : wait_sound (lane_from (lane_part m v)).wait ≡ true
  pub few : u8_at (lane_part m v) count_at ≤ 8

count-is : (bs : List ℕ) → length (lane_from bs).wait ≡ u8_at bs count_at
unfolding lane_from
count-is bs = upto-length _ 0 (u8_at bs count_at)

pub lends : (m : List ℕ) (v : ℕ) → length m ≡ layer_size → wait_sound (lane_at (layer_from m) v).wait ≡ true → v < 4 → Lends m v
unfolding lane_part
lends m v size s h =
    let e : lane_at (layer_from m) v ≡ lane_from (lane_part m v) = unfold lane_of in (lane-of m v h) in
    let w : wait_sound (lane_from (lane_part m v)).wait ≡ true = ap (λ (c : Lane). wait_sound c.wait) (sym e) ∙ s in
    record {
      at = e;
      size = part_length m (lane_size * v) lane_size (omega arith);
      fine = w;
      few = (let k = few w in omega (arith, count-is (lane_part m v)));
    }
  where
    few : wait_sound (lane_from (lane_part m v)).wait ≡ true → length (lane_from (lane_part m v)).wait ≤ 8
    few w = unfold wait_sound in
        (leb-true (length (lane_from (lane_part m v)).wait) 8
        (and_l (leb (length (lane_from (lane_part m v)).wait) 8) (all (λ (x : List ℕ). leb (length x) 32) (lane_from (lane_part m v)).wait) w))

-- the lane of the venue that a turn serves
pub lends-next : (m : List ℕ) → length m ≡ layer_size → ((v : ℕ) → v < 4 → wait_sound (lane_at (layer_from m) v).wait ≡ true) → next (layer_from m) ≢ 4 →
    (next (layer_from m) < 4) × Lends m (next (layer_from m)) × (0 < u8_at (lane_part m (next (layer_from m))) count_at)
lends-next m size s n =
    let v : ℕ = next (layer_from m) in
    let k = next-some (layer_from m) n in
    let x = lends m v size (s v k.0) k.0 in
    (k.0, x, go (lane_part m v) (ap waiting (sym x.at) ∙ k.1))
  where
    go : (bs : List ℕ) → waiting (lane_from bs) ≡ true → 0 < u8_at bs count_at
    go bs e = unfold waiting in (
        let z = eqb-false (length (lane_from bs).wait) 0 (not-true (eqb (length (lane_from bs).wait) 0) e) in omega (arith, count-is bs)
        )

-- A memory after a call -----------------------------------------------------------------------

pub record Holds (memory : List ℕ) (l : Layer) : Type 0 where
  pub is : layer_from memory ≡ l
  pub size : length memory ≡ layer_size

module _ (m : List ℕ) (size : length m ≡ layer_size) where
  abbrev l : Layer
  l = layer_from m

  waits : layer_sound l ≡ true → (v : ℕ) → wait_sound (lane_at l v).wait ≡ true
  waits s v = lane-wait (lane_at l v) (each_lane l s v)

  same : Holds m l
  same = record { is = refl; size = size }

  joined-held : (v : ℕ) (b : List ℕ) → Waits l v b → Holds (with_part m v (joined_bytes (lane_part m v) b)) (with_lane l v (joins b (lane_at l v)))
  joined-held v b w =
      let x = lends m v size (waits w.sound v) w.venue in
      let k : u8_at (lane_part m v) count_at < 8 = (let r = w.room in omega (arith, count-is (lane_part m v), ap (λ (c : Lane). length c.wait) x.at)) in
      let ys : List ℕ = joined_bytes (lane_part m v) b in
      let fits : length ys ≡ lane_size = joined-size (lane_part m v) b x.size k w.short in
      record {
        is = lane-anew m v ys size w.venue fits ∙ ap (with_lane l v) (lane-joined (lane_part m v) b x.size k w.short x.fine ∙ ap (joins b) (sym x.at));
        size = with_size m v ys size w.venue fits;
      }

  held-arrive : (v : ℕ) (b : List ℕ) → Holds (arrive_held m v b).memory (arrive l v b).layer
  unfolding arrive_held
  held-arrive v b =
      rw (eq-eqb (length m) layer_size size)
      (arrive-by (λ a. Holds (if eqb a.number 0 then with_part m v (joined_bytes (lane_part m v) b) else m) a.layer) l v b
      (λ x n _. rw (ne_eqb x 0 n) same) (λ w. joined-held v b w))

  module _ (room : ℕ) where
    served-held : layer_sound l ≡ true → next l ≢ 4 → (head_call (lane_at l (next l)) room).returned.done ≢ 0 →
        Holds (served_bytes m (next l) room) (record { lanes = set l.lanes (next l) (advanced (lane_at l (next l)) (head_call (lane_at l (next l)) room)); last = next l })
    unfolding served_bytes with_lane
    served-held s n d =
        let k = lends-next m size (λ v _. waits s v) n in
        let x = k.1 in
        let bs : List ℕ = lane_part m (next l) in
        let r : Call = head_called bs room in
        let h : head_call (lane_at l (next l)) room ≡ r = ap (λ (c : Lane). head_call c room) x.at ∙ head-called bs room k.2 in
        let did : r.returned.done ≢ 0 = rw h at d in
        let ys : List ℕ = advanced_bytes bs r.returned.number r.returned.venue in
        let fits : length ys ≡ lane_size = advanced-size bs room x.size x.fine k.2 x.few did in
        let whole : length (with_part m (next l) ys) ≡ layer_size = with_size m (next l) ys size k.0 fits in
        record {
          is = last-anew (with_part m (next l) ys) (next l) whole
              ∙ ap (λ (y : Layer). record { lanes = y.lanes; last = next l }) (lane-anew m (next l) ys size k.0 fits)
              ∙ ap (λ (c : Lane). record { lanes = set l.lanes (next l) c; last = next l })
              (lane-advanced bs room x.size x.fine k.2 x.few did ∙ ap (λ (c : Lane). advanced c (head_call c room)) (sym x.at));
          size = length-set (with_part m (next l) ys) last_at (next l) ∙ whole;
        }

    held-turn : Holds (turn_held m room).memory (turn l room).layer
    unfolding turn_held turn_leaves idle serve
    held-turn =
        rw (eq-eqb (length m) layer_size size)
        (turn_by (λ t. Holds (if eqb t.served 4 then m else served_bytes m t.served room) t.layer) l room
        (λ _. same) (λ _ _. same) (λ _ _ _. same) (λ s n d. rw (ne_eqb (next l) 4 n) (served-held s n d)))

  held_after : (a : Asked) → Holds (memory_after m a) (after l a)
  unfolding memory_after after
  held_after (arrival v b) = held-arrive v b
  held_after (turning room) = held-turn room

-- Over every list of calls --------------------------------------------------------------------

held_all : (m : List ℕ) (list : List Asked) → length m ≡ layer_size → layer_from (memory_after_all m list) ≡ after_all (layer_from m) list
unfolding memory_after_all after_all
held_all m [] size = refl
held_all m (a ∷ list) size =
    let x = held_after m size a in
    held_all (memory_after m a) list x.size ∙ ap (λ (y : Layer). after_all y list) x.is

pub held : Held
held = record {
  first = λ m size. unfold fresh_held in (rw (eq-eqb (length m) layer_size size) fresh-held);
  next = held_all;
}
