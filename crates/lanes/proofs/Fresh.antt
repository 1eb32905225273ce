-- The layer's bytes read back, lane by lane; and the fresh layer's.
use mathlib.Core.Path.{◌≡◌, refl, sym, ap, ◌∙◌}
use mathlib.Core.List.{List, [], ◌∷◌, ◌++◌, append_assoc}
use Prim.Native.Nat.{ℕ, zero, suc, ◌+◌, ◌-◌, ◌*◌, ◌%◌, ◌<◌}
use native.Mathlib.Omega.{arith}
use lib.ListN.{length, get_or, take, drop, replicate, length-append, length-replicate, get_or-replicate}
use lib.Seq.{take_at, drop_at, drop-drop, ext_get_or}
use borrow.Author.Tests.{eq-eqb}
use Rattle.rules.specs.Words.{fresh_venue}
use Rattle.rules.specs.Bytes.{u8_at, u16_at, u32_at, u8, bytes}
use Rattle.rules.proofs.Reading.{byte}
use Rattle.demands.proofs.Calls.{fresh-sound}
use Rattle.wire.proofs.Numbers.{u8-drop, u32-here}
use Rattle.places.specs.Layout.{upto}
use Rattle.places.proofs.Tables.{upto-length, upto-at}
use Rattle.venue_bytes.specs.Held.{venue_size, venue_bytes, venue_from, rows, Sized}
use Rattle.venue_writer.proofs.Whole.{venue-length}
use Rattle.engine.specs.Hosts.{fresh_hosted}
use Rattle.engine.proofs.HostsLaws.{held_first}
use Rattle.layer.specs.Layer.{Lane, Layer, fresh_lane, fresh_layer, lane_at}
use Rattle.lanes.specs.Memory.{done_at, count_at, lane_size, last_at, layer_size, place_from, lane_from, lane_part, lane_of, layer_from, lane_bytes, layer_bytes}
use Rattle.lanes.proofs.WaitJoined.{lane-eq}
use Rattle.lanes.proofs.Lent.{layer-eq}

-- Lanes one after another ---------------------------------------------------------------------

-- each lane's bytes are as many as a lane has
abbrev pub Whole : List Lane → Type 0
Whole ls = (i : ℕ) → i < length ls → length (lane_bytes (get_or ls i fresh_lane)) ≡ lane_size

pub lanes-length : (ls : List Lane) → Whole ls → length (rows lane_bytes ls) ≡ lane_size * length ls
unfolding rows
lanes-length [] w = refl
lanes-length (c ∷ ls) w = length-append (lane_bytes c) (rows lane_bytes ls) ∙ omega (arith, w 0 (omega arith), lanes-length ls (λ i h. w (suc i) (omega arith)))

pub lane-part : (ls : List Lane) (rest : List ℕ) → Whole ls → (i : ℕ) → i < length ls → lane_part (rows lane_bytes ls ++ rest) i ≡ lane_bytes (get_or ls i fresh_lane)
unfolding rows lane_part
lane-part [] rest w i h = absurd (omega arith)
lane-part (c ∷ ls) rest w zero h = ap (take lane_size) (append_assoc (lane_bytes c) (rows lane_bytes ls) rest) ∙ take_at (lane_bytes c) _ lane_size (w 0 (omega arith))
lane-part (c ∷ ls) rest w (suc i) h =
    let e : lane_size * suc i ≡ lane_size + lane_size * i = omega arith in
    ap (take lane_size)
    (ap (λ (k : ℕ). drop k (lane_bytes c ++ rows lane_bytes ls ++ rest)) e ∙ sym (drop-drop (lane_size * i) lane_size _)
    ∙ ap (drop (lane_size * i)) (ap (drop lane_size) (append_assoc (lane_bytes c) (rows lane_bytes ls) rest) ∙ drop_at (lane_bytes c) _ lane_size (w 0 (omega arith))))
    ∙ lane-part ls rest (λ j k. w (suc j) (omega arith)) i (omega arith)

module _ (l : Layer) (four : length l.lanes ≡ 4) (whole : Whole l.lanes) (small : l.last < 256) where
  pub layer-size : length (layer_bytes l) ≡ layer_size
  unfolding layer_bytes bytes
  layer-size = length-append (rows lane_bytes l.lanes) (u8 l.last) ∙ omega (arith, lanes-length l.lanes whole)

  pub layer-back : ((i : ℕ) → i < 4 → lane_from (lane_bytes (lane_at l i)) ≡ lane_at l i) → layer_from (layer_bytes l) ≡ l
  unfolding layer_from lane_of layer_bytes lane_at
  layer-back back =
      layer-eq _ _
      (ext_get_or fresh_lane (upto (lane_of (layer_bytes l)) 0 4) l.lanes (upto-length (lane_of (layer_bytes l)) 0 4 ∙ sym four)
      (λ i h. let j : i < 4 = omega (arith, upto-length (lane_of (layer_bytes l)) 0 4) in
      let z : 0 + i ≡ i = omega arith in
      upto-at (lane_of (layer_bytes l)) fresh_lane 0 4 i j ∙ ap (lane_of (layer_bytes l)) z ∙ ap lane_from (lane-part l.lanes (u8 l.last) whole i (omega arith)) ∙ back i j))
      last-back
    where
      last-back : u8_at (layer_bytes l) last_at ≡ l.last
      last-back = unfold u8_at layer_bytes bytes in (
          lib.Seq.get_or_at (rows lane_bytes l.lanes) (l.last % 256) [] 0 last_at (omega (arith, lanes-length l.lanes whole)) ∙ byte l.last small
          )

-- The fresh layer -----------------------------------------------------------------------------

fresh-sized : Sized fresh_venue
fresh-sized = let s = fresh-sound.venue.shaped in
    record {
      regular = s.regular;
      complex = s.complex;
      legging = s.legging;
      series = s.series;
      editions = s.editions;
      generations = s.generations;
    }

pub fresh-bytes : lane_bytes fresh_lane ≡ venue_bytes fresh_venue ++ replicate (lane_size - venue_size) 0
unfolding lane_bytes fresh_lane rows bytes
fresh-bytes = simp append_assoc

pub fresh-size : length (lane_bytes fresh_lane) ≡ lane_size
fresh-size =
    ap length fresh-bytes ∙ length-append (venue_bytes fresh_venue) (replicate (lane_size - venue_size) 0)
    ∙ omega (arith, venue-length fresh_venue fresh-sized, length-replicate {A = ℕ} (lane_size - venue_size) 0)

fresh-venue : venue_from (venue_bytes fresh_venue) ≡ fresh_venue
unfolding fresh_hosted
fresh-venue =
    let n = venue-length fresh_venue fresh-sized in
    rw (eq-eqb (length (venue_bytes fresh_venue)) venue_size n) at (held_first (venue_bytes fresh_venue) n)

fresh-back : lane_from (lane_bytes fresh_lane) ≡ fresh_lane
unfolding lane_from fresh_lane
fresh-back =
    let zeros : List ℕ = replicate (lane_size - venue_size) 0 in
    let n = venue-length fresh_venue fresh-sized in
    let after : drop venue_size (lane_bytes fresh_lane) ≡ zeros = ap (drop venue_size) fresh-bytes ∙ drop_at (venue_bytes fresh_venue) zeros venue_size n in
    let count : u8_at (lane_bytes fresh_lane) count_at ≡ 0 = sym (u8-drop venue_size (lane_bytes fresh_lane) 4) ∙ ap (λ (x : List ℕ). u8_at x 4) after ∙ unfold u8_at in (refl) in
    lane-eq _ _
    (ap venue_from (ap (take venue_size) fresh-bytes ∙ take_at (venue_bytes fresh_venue) zeros venue_size n) ∙ fresh-venue)
    (u32-here done_at (lane_bytes fresh_lane) ∙ ap (λ (x : List ℕ). u32_at x 0) after ∙ unfold u32_at u16_at u8_at in (refl))
    (ap (upto (place_from (lane_bytes fresh_lane)) 0) count ∙ unfold upto in (refl))

pub fresh-whole : Whole fresh_layer.lanes
unfolding fresh_layer
fresh-whole i h = ap (λ (c : Lane). length (lane_bytes c)) (get_or-replicate 4 i fresh_lane fresh_lane h) ∙ fresh-size

pub fresh-held : layer_from (layer_bytes fresh_layer) ≡ fresh_layer
unfolding fresh_layer lane_at
fresh-held =
    layer-back fresh_layer refl fresh-whole (omega arith)
    (λ i h. let e = get_or-replicate 4 i fresh_lane fresh_lane h in ap (λ (c : Lane). lane_from (lane_bytes c)) e ∙ fresh-back ∙ sym e)
