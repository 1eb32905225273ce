-- The head of a lane's wait done by a call.
use Rattle.std.specs.Prelude.{if◌then◌else◌}
use mathlib.Core.Path.{◌≡◌, refl, sym, ap, ◌∙◌}
use mathlib.Core.Bool.{Bool, true, false}
use mathlib.Core.Logic.{◌≢◌}
use mathlib.Core.List.{List, [], ◌∷◌, ◌++◌, append_assoc}
use Prim.Native.Nat.{ℕ, zero, suc, ◌+◌, ◌-◌, ◌*◌, ◌≤◌, ◌<◌}
use native.Mathlib.Omega.{arith}
use lib.Dec.{eqb}
use lib.ListN.{length, take, drop, replicate, length-append, length-drop, length-replicate, get_or-append}
use lib.Seq.{length-take-le, take_at, drop_at, drop-append-le, drop-drop}
use borrow.Author.Tests.{eq-eqb}
use Rattle.rules.specs.declared.Venue.{Venue}
use Rattle.rules.specs.Bytes.{u8_at, u16_at, u32_at, u8, u32, bytes}
use Rattle.rules.specs.Calls.{Call, one}
use Rattle.rules.proofs.Reading.{byte, word}
use Rattle.demands.specs.Soundness.{Shaped}
use Rattle.wire.proofs.Numbers.{u8-drop, u32-here}
use Rattle.places.specs.Layout.{upto}
use Rattle.places.proofs.Tables.{upto-at, upto-same}
use Rattle.venue_bytes.specs.Held.{venue_size, venue_bytes, venue_from}
use Rattle.venue_writer.proofs.Whole.{venue-length}
use Rattle.engine.specs.Hosts.{one_hosted, leaves}
use Rattle.engine.proofs.HostsLaws.{held-shaped, held_next}
use Rattle.layer.specs.Layer.{wait_sound, head, head_call, advanced}
use Rattle.layer.proofs.Ways.{sound-for-in, sound-for-out, ending, does}
use Rattle.lanes.specs.Memory.{done_at, count_at, places_at, place_size, lane_size, message_from, place_from, lane_from, head_called, venue_part, advanced_bytes}
use Rattle.lanes.proofs.Places.{message-same, waits-short}
use Rattle.lanes.proofs.WaitJoined.{lane-eq}

-- the message at the head
pub head-called : (bs : List ℕ) (room : ℕ) → 0 < u8_at bs count_at → head_call (lane_from bs) room ≡ head_called bs room
unfolding head_call head_called head lane_from
head-called bs room h = ap (one (venue_from (take venue_size bs)) (u32_at bs done_at) room) (upto-at (place_from bs) [] 0 (u8_at bs count_at) 0 h)

u32-front : (x : ℕ) (rest : List ℕ) → x < 4294967296 → u32_at (u32 x ++ rest) 0 ≡ x
unfolding bytes u8_at u16_at u32_at
u32-front x rest h = word x h

u8-front : (x : ℕ) (rest : List ℕ) → x < 256 → u8_at (u8 x ++ rest) 0 ≡ x
unfolding bytes u8_at
u8-front x rest h = byte x h

upto_next : {A : Type 0} (f : ℕ → A) (i k : ℕ) → upto (λ (j : ℕ). f (suc j)) i k ≡ upto f (suc i) k
unfolding upto
upto_next f i zero = refl
upto_next {A} f i (suc k) = ap (λ (l : List A). f (suc i) ∷ l) (upto_next f (suc i) k)

-- the places of a wait, one place down
module _ (bs : List ℕ) (x : List ℕ) (d c : ℕ) (size : length bs ≡ lane_size) (venue : length x ≡ venue_size) where
  -- what stands after the venue
  abbrev rest : List ℕ
  rest = drop (places_at + place_size) bs ++ replicate place_size 0

  abbrev moved : List ℕ
  moved = x ++ u32 d ++ u8 c ++ drop (places_at + place_size) bs ++ replicate place_size 0

  rest-size : length (drop (places_at + place_size) bs) ≡ 7 * place_size
  rest-size = length-drop (places_at + place_size) bs ∙ omega arith

  from-venue : moved ≡ x ++ (u32 d ++ (u8 c ++ rest))
  from-venue = simp append_assoc

  from-count : moved ≡ (x ++ u32 d) ++ (u8 c ++ rest)
  from-count = simp append_assoc

  from_places : moved ≡ (x ++ u32 d ++ u8 c) ++ rest
  from_places = simp append_assoc

  before-count : length (x ++ u32 d) ≡ count_at
  unfolding bytes
  before-count = length-append x (u32 d) ∙ omega arith

  before-places : length (x ++ u32 d ++ u8 c) ≡ places_at
  unfolding bytes
  before-places = length-append (x ++ u32 d) (u8 c) ∙ omega (arith, before-count)

  pub moved-size : length moved ≡ lane_size
  moved-size = ap length from_places ∙ length-append (x ++ u32 d ++ u8 c) rest
      ∙ omega (arith, before-places, length-append (drop (places_at + place_size) bs) (replicate place_size 0), rest-size, length-replicate {A = ℕ} place_size 0)

  moved-venue : take venue_size moved ≡ x
  moved-venue = ap (take venue_size) from-venue ∙ take_at x _ venue_size venue

  moved-done : d < 4294967296 → u32_at moved done_at ≡ d
  moved-done h = u32-here done_at moved ∙ ap (λ (y : List ℕ). u32_at y 0) (ap (drop done_at) from-venue ∙ drop_at x _ done_at venue) ∙ u32-front d _ h

  moved-count : c < 256 → u8_at moved count_at ≡ c
  moved-count h =
      let z : count_at + 0 ≡ count_at = omega arith in
      ap (u8_at moved) (sym z) ∙ sym (u8-drop count_at moved 0) ∙ ap (λ (y : List ℕ). u8_at y 0) (ap (drop count_at) from-count ∙ drop_at (x ++ u32 d) _ count_at before-count) ∙ u8-front c _ h

  -- place i from where the next one was
  moved-from : (i : ℕ) → i < 7 → drop (place_size * i + places_at) moved ≡ drop (place_size * suc i + places_at) bs ++ replicate place_size 0
  moved-from i h =
      let p : place_size * i + places_at ≡ places_at + place_size * i = omega arith in
      let q : places_at + place_size + place_size * i ≡ place_size * suc i + places_at = omega arith in
      ap (λ (k : ℕ). drop k moved) p ∙ sym (drop-drop (place_size * i) places_at moved)
      ∙ ap (drop (place_size * i)) (ap (drop places_at) from_places ∙ drop_at (x ++ u32 d ++ u8 c) rest places_at before-places)
      ∙ drop-append-le (place_size * i) (drop (places_at + place_size) bs) (replicate place_size 0) (omega (arith, rest-size))
      ∙ ap (λ (y : List ℕ). y ++ replicate place_size 0) (drop-drop (place_size * i) (places_at + place_size) bs ∙ ap (λ (k : ℕ). drop k bs) q)

  moved-place : (i : ℕ) → i < 7 → u8_at bs (place_size * suc i + places_at) ≤ 32 → place_from moved i ≡ place_from bs (suc i)
  unfolding place_from
  moved-place i h short =
      let p : ℕ = place_size * suc i + places_at in
      let z : p + 0 ≡ p = omega arith in
      ap message_from (moved-from i h)
      ∙ message-same (drop p bs ++ replicate place_size 0) (drop p bs) (omega (arith, u8-drop p bs 0 ∙ ap (u8_at bs) z))
      (λ j k. unfold u8_at in (get_or-append (drop p bs) (replicate place_size 0) 0 j (omega (arith, length-drop p bs))))

  moved-wait : (n : ℕ) → suc c ≡ n → n ≤ 8 → ((i : ℕ) → i < n → u8_at bs (place_size * i + places_at) ≤ 32) → upto (place_from moved) 0 (u8_at moved count_at) ≡ drop 1 (upto (place_from bs) 0 n)
  unfolding upto
  moved-wait n e few short =
      ap (upto (place_from moved) 0) (moved-count (omega arith))
      ∙ upto-same (place_from moved) (λ (j : ℕ). place_from bs (suc j)) 0 c (λ i _ h. moved-place i (omega arith) (short (suc i) (omega arith)))
      ∙ upto_next (place_from bs) 0 c ∙ ap (λ (k : ℕ). drop 1 (upto (place_from bs) 0 k)) e

-- The lane ------------------------------------------------------------------------------------

module _ (bs : List ℕ) (room : ℕ) (size : length bs ≡ lane_size) (fine : wait_sound (lane_from bs).wait ≡ true) (some : 0 < u8_at bs count_at) (few : u8_at bs count_at ≤ 8) where
  abbrev r : Call
  r = head_called bs room

  -- the venue's bytes, as a host's call leaves them
  abbrev venue-after : List ℕ
  venue-after = venue_part bs r.returned.number r.returned.venue

  front-size : length (take venue_size bs) ≡ venue_size
  front-size = length-take-le venue_size bs (omega arith)

  venue-held : venue_from venue-after ≡ r.returned.venue
  unfolding head_called
  venue-held = sym (ap venue_from is) ∙ held_next (take venue_size bs) (u32_at bs done_at) room (place_from bs 0) front-size
    where
      is : (one_hosted (take venue_size bs) (u32_at bs done_at) room (place_from bs 0)).venue ≡ venue-after
      is = unfold one_hosted leaves venue_part in (rw (eq-eqb (length (take venue_size bs)) venue_size front-size))

  -- its bytes are as many as before
  pub venue-kept : r.returned.done ≢ 0 → length venue-after ≡ venue_size
  unfolding head_called venue_part
  venue-kept done = go (eqb r.returned.number 0)
    where
      v : Venue
      v = venue_from (take venue_size bs)

      after : Shaped r.returned.venue
      after =
          let e = ending v (u32_at bs done_at) room (place_from bs 0) in
          let k = does v (u32_at bs done_at) room r e done in
          (sound-for-out r.returned.venue (suc (u32_at bs done_at)) (k.stays (sound-for-in v (u32_at bs done_at) (held-shaped (take venue_size bs)) k.was))).0

      go : (b : Bool) → length (if b then venue_bytes r.returned.venue else take venue_size bs) ≡ venue_size
      go true = venue-length r.returned.venue
          (record {
            regular = after.regular;
            complex = after.complex;
            legging = after.legging;
            series = after.series;
            editions = after.editions;
            generations = after.generations;
          })
      go false = front-size

  pub lane-advanced : r.returned.done ≢ 0 → lane_from (advanced_bytes bs r.returned.number r.returned.venue) ≡ advanced (lane_from bs) (head_call (lane_from bs) room)
  unfolding lane_from advanced advanced_bytes
  lane-advanced done =
      let kept = venue-kept done in
      let k = does (venue_from (take venue_size bs)) (u32_at bs done_at) room r (unfold head_called in (ending (venue_from (take venue_size bs)) (u32_at bs done_at) room (place_from bs 0))) done in
      let n = k.counted in
      let o = k.once in
      let h : head_call (lane_from bs) room ≡ r = head-called bs room some in
      lane-eq _ _
      (ap venue_from (moved-venue bs venue-after _ _ size kept) ∙ venue-held ∙ ap (λ (x : Call). x.returned.venue) (sym h))
      (moved-done bs venue-after _ _ size kept (omega arith) ∙ ap (λ (x : ℕ). u32_at bs done_at + x) (sym o ∙ ap (λ (x : Call). x.returned.done) (sym h)))
      (moved-wait bs venue-after _ (u8_at bs count_at - 1) size kept (u8_at bs count_at) (omega arith) few (λ i j. waits-short bs i fine j))

  pub advanced-size : r.returned.done ≢ 0 → length (advanced_bytes bs r.returned.number r.returned.venue) ≡ lane_size
  unfolding advanced_bytes
  advanced-size done = moved-size bs venue-after _ _ size (venue-kept done)
