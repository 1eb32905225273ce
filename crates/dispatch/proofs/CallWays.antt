-- An arrival and a turn upon a memory, by the ways in which each ends.
use Rattle.std.specs.Prelude.{Option, None, Some, is_some, unwrap_or, if◌then◌else◌}
use mathlib.Core.Path.{◌≡◌, refl, sym, ap, ap₂, ◌∙◌}
use mathlib.Core.Bool.{Bool, true, false, true≢false}
use mathlib.Core.Logic.{◌≢◌, inl, inr}
use mathlib.Core.List.{List, []}
use Prim.Native.Nat.{ℕ, ◌+◌, ◌*◌, ◌≤◌, ◌<◌}
use native.Mathlib.Omega.{arith}
use lib.Dec.{eqb}
use lib.ListN.{length, set, take, drop}
use lib.Seq.{get_or-take, get_or-drop}
use borrow.Author.Tests.{eq-eqb, ne_eqb, eqb-true, eqb-false}
use borrow.Rule.Slice.PartMut.{put_mid}
use Rattle.rules.specs.declared.Returned.{Returned}
use Rattle.rules.specs.Bytes.{u8_at, u32_at}
use Rattle.rules.specs.Records.{sheet}
use Rattle.rules.specs.Calls.{Call, called, ends}
use Rattle.places.proofs.Tables.{upto-length}
use Rattle.venue_bytes.specs.Held.{venue_size, venue_from}
use Rattle.engine.specs.Runs.{call_of}
use Rattle.layer.specs.Layer.{Lane, Layer, lane_at, gets_nine, layer_sound, arrive, next, head, head_call, idle, serve, turn}
use Rattle.layer.proofs.Ways.{ending, not_done, Did, does, turn_by}
use Rattle.layer.proofs.PromisesLaws.{gets-nine, each_lane, lane-wait, answered}
use Rattle.dispatch.specs.declared.TurnReturned.{TurnReturned}
use Rattle.lanes.specs.Memory.{done_at, count_at, places_at, lane_size, last_at, layer_size, place_from, lane_part, layer_from, with_part, joined_bytes, head_called, advanced_bytes}
use Rattle.lanes.specs.Checks.{layer_sound_but, to_serve}
use Rattle.dispatch.specs.Hosts.{reply_of, arrive_held, TurnReply, idle_returned, turn_reply_of, served_bytes, turn_leaves, turn_held}
use Rattle.lanes.proofs.Bytes.{part-back}
use Rattle.lanes.proofs.Figures.{waits-at}
use Rattle.lanes.proofs.Places.{waits-short}
use Rattle.lanes.proofs.ChecksLaws.{but-wait, but-sound, but-none}
use Rattle.lanes.proofs.WaitJoined.{joined-size}
use Rattle.lanes.proofs.HeadCalled.{head-called, advanced-size}
use Rattle.dispatch.proofs.Held.{Lends, lends, lends-next}

-- A lane as it is lent ------------------------------------------------------------------------

module _ (m : List ℕ) (v k : ℕ) (e : k ≡ lane_size) where
  part-is : take k (drop (lane_size * v) m) ≡ lane_part m v
  unfolding lane_part
  part-is = ap (λ (n : ℕ). take n (drop (lane_size * v) m)) e

  pub part_count : u8_at (take k (drop (lane_size * v) m)) count_at ≡ u8_at m (lane_size * v + count_at)
  unfolding u8_at
  part_count = get_or-take k (drop (lane_size * v) m) count_at 0 (omega arith) ∙ get_or-drop (lane_size * v) m count_at 0

  -- and put back
  pub anew : (ys : List ℕ) → length ys ≡ lane_size → put_mid (lane_size * v) k m ys ≡ with_part m v ys
  unfolding with_part
  anew ys f = part-back m ys (lane_size * v) k (omega arith)

-- The layer's four lanes, and its soundness ----------------------------------------------------

four : (m : List ℕ) → length (layer_from m).lanes ≡ 4
unfolding layer_from
four m = upto-length _ 0 4

pub checked-all : (m : List ℕ) (but : ℕ) (r : Bool) → r ≡ layer_sound_but but (layer_from m) → but ≡ 4 → layer_sound (layer_from m) ≡ r
checked-all m but r e f = sym (e ∙ ap (λ (b : ℕ). layer_sound_but b (layer_from m)) f ∙ but-none (layer_from m) (four m))

-- An arrival ----------------------------------------------------------------------------------

module _ (m : List ℕ) (v : ℕ) (b : List ℕ) where
  pub arrive_none : (length m ≡ layer_size → ⊥) → reply_of 9 m ≡ arrive_held m v b
  unfolding arrive_held
  arrive_none h = rw (ne_eqb (length m) layer_size h)

  module _ (size : length m ≡ layer_size) where
    refused : (x : ℕ) → (arrive (layer_from m) v b).number ≡ x → x ≢ 0 → reply_of x m ≡ arrive_held m v b
    unfolding arrive_held
    refused x e n = rw (eq-eqb (length m) layer_size size, e, ne_eqb x 0 n)

    pub arrive-unsound : layer_sound (layer_from m) ≡ false → reply_of 9 m ≡ arrive_held m v b
    arrive-unsound u = refused 9 ((answered (layer_from m) v b).nine u) (λ e. omega arith)

    module _ (s : layer_sound (layer_from m) ≡ true) where
      pub arrive-beyond : 3 < v → reply_of 18 m ≡ arrive_held m v b
      arrive-beyond h = refused 18 ((answered (layer_from m) v b).eighteen s h) (λ e. omega arith)

      module _ (h : v ≤ 3) where
        pub arrive-full : 8 ≤ u8_at m (lane_size * v + count_at) → reply_of 17 m ≡ arrive_held m v b
        arrive-full f = refused 17 ((answered (layer_from m) v b).seventeen s (omega arith) (inl (omega (arith, waits-at m v (omega arith))))) (λ e. omega arith)

        pub arrive-long : 32 < length b → reply_of 17 m ≡ arrive_held m v b
        arrive-long f = refused 17 ((answered (layer_from m) v b).seventeen s (omega arith) (inr f)) (λ e. omega arith)

        pub arrive-taken : u8_at m (lane_size * v + count_at) < 8 → length b ≤ 32 → (k : ℕ) (ys : List ℕ) → k ≡ lane_size → ys ≡ joined_bytes (take k (drop (lane_size * v) m)) b →
            reply_of 0 (put_mid (lane_size * v) k m ys) ≡ arrive_held m v b
        arrive-taken f g k ys e p =
            let x = lends m v size (lane-wait (lane_at (layer_from m) v) (each_lane (layer_from m) s v)) (omega arith) in
            let q : ys ≡ joined_bytes (lane_part m v) b = p ∙ ap (λ (z : List ℕ). joined_bytes z b) (part-is m v k e) in
            let n : u8_at (lane_part m v) count_at < 8 = (let z = ap (λ (y : List ℕ). u8_at y count_at) (part-is m v k e) in omega (arith, part_count m v k e)) in
            ap (reply_of 0) (anew m v k e ys (ap length q ∙ joined-size (lane_part m v) b x.size n g) ∙ ap (with_part m v) q) ∙ go
          where
            go : reply_of 0 (with_part m v (joined_bytes (lane_part m v) b)) ≡ arrive_held m v b
            go = unfold arrive_held in (rw (eq-eqb (length m) layer_size size, (answered (layer_from m) v b).taken s (omega arith) (omega (arith, waits-at m v (omega arith))) g))

-- A turn --------------------------------------------------------------------------------------

pub turn-none : (m : List ℕ) (room : ℕ) (z : List ℕ) → (length m ≡ layer_size → ⊥) → z ≡ sheet room [] → turn_reply_of (idle_returned 9) m z ≡ turn_held m room
unfolding turn_held
turn-none m room z h e = ap (turn_reply_of (idle_returned 9) m) e ∙ rw (ne_eqb (length m) layer_size h)

module _ (m : List ℕ) (size : length m ≡ layer_size) (room : ℕ) (z : List ℕ) where
  abbrev l : Layer
  l = layer_from m

  by : (r : TurnReturned) (x : List ℕ) → turn_reply_of r x z ≡ turn_leaves m room (turn l room) → turn_reply_of r x z ≡ turn_held m room
  unfolding turn_held
  by r x e = rw (eq-eqb (length m) layer_size size) e

  pub turn-unsound : layer_sound l ≡ false → z ≡ sheet room [] → turn_reply_of (idle_returned 9) m z ≡ turn_held m room
  unfolding turn_leaves idle
  turn-unsound u e =
      by (idle_returned 9) m
      (turn_by (λ t. turn_reply_of (idle_returned 9) m z ≡ turn_leaves m room t) l room (λ _. ap (turn_reply_of (idle_returned 9) m) e)
      (λ s _. absurd (true≢false (sym s ∙ u))) (λ s _ _. absurd (true≢false (sym s ∙ u))) (λ s _ _. absurd (true≢false (sym s ∙ u))))

  -- upon a sound layer
  sound-by : layer_sound l ≡ true → (r : TurnReturned) (x : List ℕ) → (next l ≡ 4 → turn_reply_of r x z ≡ turn_leaves m room (idle l room 0)) →
      (next l ≢ 4 → (head_call (lane_at l (next l)) room).returned.done ≡ 0 → turn_reply_of r x z ≡ turn_leaves m room (idle l room (head_call (lane_at l (next l)) room).returned.number)) →
      (next l ≢ 4 → (head_call (lane_at l (next l)) room).returned.done ≢ 0 → turn_reply_of r x z ≡ turn_leaves m room (serve l (next l) (head_call (lane_at l (next l)) room))) →
      turn_reply_of r x z ≡ turn_held m room
  sound-by s r x a b c =
      by r x (turn_by (λ t. turn_reply_of r x z ≡ turn_leaves m room t) l room (λ u. absurd (true≢false (sym s ∙ u))) (λ _. a) (λ _. b) (λ _. c))

  pub turn-idle : layer_sound l ≡ true → next l ≡ 4 → z ≡ sheet room [] → turn_reply_of (idle_returned 0) m z ≡ turn_held m room
  unfolding turn_leaves idle
  turn-idle s n e = sound-by s (idle_returned 0) m (λ _. ap (turn_reply_of (idle_returned 0) m) e) (λ o _. absurd (o n)) (λ o _. absurd (o n))

-- venue v is to be served, and all else was checked
pub record Serves (m : List ℕ) (v : ℕ) : Type 0 where
  pub size : length m ≡ layer_size
  pub checked : layer_sound_but v (layer_from m) ≡ true
  pub here : v ≡ next (layer_from m)
  pub some : v ≢ 4

-- the venue that is found
pub serving : (m : List ℕ) (v b : ℕ) (o : Option ℕ) (r : Bool) → length m ≡ layer_size → o ≡ Some v → o ≡ to_serve (layer_from m) → b ≡ unwrap_or o 4 →
    r ≡ layer_sound_but b (layer_from m) → r ≡ true → Serves m v
serving m v b o r size one told f checked sound = go (eqb (next (layer_from m)) 4) refl
  where
    e : Some v ≡ to_serve (layer_from m)
    e = sym one ∙ told

    but : b ≡ v
    but = f ∙ ap (λ (x : Option ℕ). unwrap_or x 4) one

    go : (t : Bool) → eqb (next (layer_from m)) 4 ≡ t → Serves m v
    go true q = absurd (no (e ∙ ap (λ (t : Bool). if t then None else Some (next (layer_from m))) q))
      where
        no : Some v ≡ None → ⊥
        no z = true≢false (ap is_some z)
    go false q =
        let here : v ≡ next (layer_from m) = ap (λ (o : Option ℕ). unwrap_or o 0) (e ∙ ap (λ (t : Bool). if t then None else Some (next (layer_from m))) q) in
        record {
          size = size;
          checked = ap (λ (k : ℕ). layer_sound_but k (layer_from m)) (sym but) ∙ sym checked ∙ sound;
          here = here;
          some = λ z. eqb-false (next (layer_from m)) 4 q (sym here ∙ z);
        }

-- no message waits
pub idles : (m : List ℕ) → None ≡ to_serve (layer_from m) → next (layer_from m) ≡ 4
idles m e = go (eqb (next (layer_from m)) 4) refl
  where
    go : (t : Bool) → eqb (next (layer_from m)) 4 ≡ t → next (layer_from m) ≡ 4
    go true q = eqb-true (next (layer_from m)) 4 q
    go false q = absurd (true≢false (ap is_some (sym (e ∙ ap (λ (t : Bool). if t then None else Some (next (layer_from m))) q))))

-- its lane, as it is lent
module _ (m : List ℕ) (v : ℕ) (x : Serves m v) where
  other : next (layer_from m) ≢ 4
  other q = x.some (x.here ∙ q)

  lent-next : (next (layer_from m) < 4) × Lends m (next (layer_from m)) × (0 < u8_at (lane_part m (next (layer_from m))) count_at)
  lent-next = lends-next m x.size (but-wait v (layer_from m) x.checked) other

  pub small : v < 4
  small = let h = lent-next.0 in let e = x.here in omega arith

  -- where its venue gets no 9 the layer is sound
  sound-with : gets_nine (lane_at (layer_from m) (next (layer_from m))) ≡ false → layer_sound (layer_from m) ≡ true
  sound-with g = but-sound v (layer_from m) x.checked (four m) (λ w _ e. ap (λ (i : ℕ). gets_nine (lane_at (layer_from m) i)) (e ∙ x.here) ∙ g)

  module _ (k : ℕ) (e : k ≡ lane_size) where
    abbrev lent : List ℕ
    lent = take k (drop (lane_size * v) m)

    lent_is : lent ≡ lane_part m (next (layer_from m))
    lent_is = part-is m v k e ∙ ap (lane_part m) x.here

    lends-it : Lends m (next (layer_from m))
    lends-it = lent-next.1

    pub lent-size : length lent ≡ lane_size
    lent-size = ap length lent_is ∙ lends-it.size

    pub lent-some : 0 < u8_at lent count_at
    lent-some = rw lent_is lent-next.2

    pub lent-few : u8_at lent count_at ≤ 8
    lent-few = rw lent_is lends-it.few

    pub lent-short : u8_at lent places_at ≤ 32
    lent-short = rw lent_is (waits-short (lane_part m (next (layer_from m))) 0 lends-it.fine lent-next.2)

    -- the call with the head of its wait
    module _ (room : ℕ) (r : Returned) (z : List ℕ) (call : call_of r z ≡ head_called lent room) where
      abbrev c : Lane
      c = lane_at (layer_from m) (next (layer_from m))

      is : call_of r z ≡ head_call c room
      is =
          call ∙ ap (λ (y : List ℕ). head_called y room) lent_is
          ∙ sym (ap (λ (d : Lane). head_call d room) lends-it.at ∙ head-called (lane_part m (next (layer_from m))) room lent-next.2)

      pub turn-ended : r.done ≡ 0 → turn_reply_of (idle_returned r.number) m z ≡ turn_held m room
      unfolding turn_leaves idle head_call called ends
      turn-ended d =
          let w : ℕ = next (layer_from m) in
          let f : (head_call c room).returned.done ≡ 0 = sym (ap (λ (y : Call). y.returned.done) is) ∙ d in
          let g : z ≡ sheet room [] =
          ap (λ (y : Call). y.report) (is ∙ not_done c.venue c.done room (head_call c room) (ending c.venue c.done room (head c)) f) in
          by m x.size room z (idle_returned r.number) m
          (turn_by (λ t. turn_reply_of (idle_returned r.number) m z ≡ turn_leaves m room t) (layer_from m) room
          (λ u. ap₂ (λ (n : ℕ) (y : List ℕ). turn_reply_of (idle_returned n) m y) (ap (λ (y : Call). y.returned.number) is ∙ nine u (gets_nine c) refl) g)
          (λ _ q. absurd (other q))
          (λ _ _ _. ap₂ (λ (n : ℕ) (y : List ℕ). turn_reply_of (idle_returned n) m y) (ap (λ (y : Call). y.returned.number) is) g)
          (λ _ _ n. absurd (n f)))
        where
          -- of an unsound layer it is the venue that got the 9
          nine : layer_sound (layer_from m) ≡ false → (b : Bool) → gets_nine c ≡ b → (head_call c room).returned.number ≡ 9
          nine u true e = eqb-true (head_call c room).returned.number 9 (sym (gets-nine c room (head c)) ∙ e)
          nine u false e = absurd (true≢false (sym (sound-with e) ∙ u))

      module _ (d : r.done ≢ 0) where
        pub lent-counted : u32_at lent done_at < 4294967295
        unfolding head_called
        lent-counted =
            let q : (head_called lent room).returned.done ≢ 0 = λ n. d (ap (λ (y : Call). y.returned.done) call ∙ n) in
            let h = (does (venue_from (take venue_size lent)) (u32_at lent done_at) room (head_called lent room)
            (ending (venue_from (take venue_size lent)) (u32_at lent done_at) room (place_from lent 0)) q).counted in
            omega arith

        pub turn-serves : (ys : List ℕ) → ys ≡ advanced_bytes lent r.number r.venue →
            turn_reply_of (record { number = r.number; done = r.done; written = r.written; served = v }) (set (put_mid (lane_size * v) k m ys) last_at v) z ≡ turn_held m room
        unfolding turn_leaves serve served_bytes head_call
        turn-serves ys p =
            let w : ℕ = next (layer_from m) in
            let part : List ℕ = lane_part m w in
            let a : call_of r z ≡ head_called part room = call ∙ ap (λ (y : List ℕ). head_called y room) lent_is in
            let f : (head_call c room).returned.done ≢ 0 = λ n. d (ap (λ (y : Call). y.returned.done) is ∙ n) in
            let s : layer_sound (layer_from m) ≡ true = sound-with (gets-nine c room (head c) ∙ ne_eqb (head_call c room).returned.number 9 (did f).not9) in
            let g : (head_called part room).returned.done ≢ 0 = λ n. d (ap (λ (y : Call). y.returned.done) a ∙ n) in
            let q : ys ≡ advanced_bytes part (head_called part room).returned.number (head_called part room).returned.venue =
            p ∙ ap (λ (y : List ℕ). advanced_bytes y r.number r.venue) lent_is ∙ ap (λ (y : Call). advanced_bytes part y.returned.number y.returned.venue) a in
            let h = lends-it in
            let fits : length ys ≡ lane_size = ap length q ∙ advanced-size part room h.size h.fine lent-next.2 h.few g in
            let memory : set (put_mid (lane_size * v) k m ys) last_at v ≡ served_bytes m w room =
            ap (λ (y : List ℕ). set y last_at v) (anew m v k e ys fits ∙ ap (with_part m v) q)
            ∙ ap (λ (i : ℕ). set (with_part m i (advanced_bytes part (head_called part room).returned.number (head_called part room).returned.venue)) last_at i) x.here in
            let pick : (if eqb w 4 then m else served_bytes m w room) ≡ served_bytes m w room = rw (ne_eqb w 4 other) in
            sound-by m x.size room z s _ _ (λ o. absurd (other o)) (λ _ n. absurd (f n))
            (λ _ _. ap (λ (y : Call). F y v (set (put_mid (lane_size * v) k m ys) last_at v)) is ∙ ap₂ (F (head_call c room)) x.here (memory ∙ sym pick))
          where
            did : (head_call c room).returned.done ≢ 0 → Did c.venue c.done room (head_call c room)
            did n = unfold head_call in (does c.venue c.done room _ (ending c.venue c.done room (head c)) n)

            F : Call → ℕ → List ℕ → TurnReply
            F y i b = turn_reply_of (record { number = y.returned.number; done = y.returned.done; written = y.returned.written; served = i }) b y.report
