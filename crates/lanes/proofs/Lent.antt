-- A lane of the layer lent and put back, and the venue served last written.
use mathlib.Core.Path.{◌≡◌, sym, ap, ◌∙◌}
use mathlib.Core.Logic.{◌≢◌}
use mathlib.Core.List.{List}
use Prim.Native.Nat.{ℕ, ◌+◌, ◌*◌, ◌<◌}
use native.Mathlib.Omega.{arith}
use native.Mathlib.Decide.{dec_lt}
use lib.ListN.{length, set, length-set}
use lib.Seq.{take_at, get_or-set_same, get_or-set_other}
use Rattle.rules.specs.Bytes.{u8_at}
use Rattle.records.specs.Seen.{pasted}
use Rattle.records.proofs.SeenLaws.{pasted-from, pasted_length}
use Rattle.places.specs.Layout.{upto}
use Rattle.places.proofs.Tables.{upto-same, upto-set}
use Rattle.layer.specs.Layer.{Layer, fresh_lane, with_lane}
use Rattle.lanes.specs.Memory.{lane_size, last_at, layer_size, lane_from, lane_part, lane_of, layer_from, with_part}
use Rattle.lanes.proofs.Bytes.{byte-below, byte_above, same-part}

pub layer-eq : (a b : Layer) → a.lanes ≡ b.lanes → a.last ≡ b.last → a ≡ b
layer-eq a b p q = rw (p, q)

module _ (m : List ℕ) (v : ℕ) (bs : List ℕ) (size : length m ≡ layer_size) (small : v < 4) (fits : length bs ≡ lane_size) where
  part-size : length (with_part m v bs) ≡ layer_size
  unfolding with_part
  part-size = pasted_length m bs (lane_size * v) (omega arith) ∙ size

  pub with_size : length (with_part m v bs) ≡ layer_size
  with_size = part-size

  pub part-anew : lane_part (with_part m v bs) v ≡ bs
  unfolding lane_part with_part
  part-anew = ap (lib.ListN.take lane_size) (pasted-from m bs (lane_size * v) (omega arith)) ∙ take_at bs _ lane_size fits

  part-other : (w : ℕ) → w < 4 → w ≢ v → lane_part m w ≡ lane_part (with_part m v bs) w
  unfolding lane_part with_part
  part-other w h n =
      same-part m (pasted m (lane_size * v) bs) (lane_size * w) lane_size (omega arith) (omega (arith, pasted_length m bs (lane_size * v) (omega arith)))
      (λ i k. elim (dec_lt w v) [
        | yes q ↦ sym (byte-below m bs (lane_size * v) (omega arith) (lane_size * w + i) (omega arith))
        | no q ↦ sym (byte_above m bs (lane_size * v) (omega arith) (lane_size * w + i) (omega arith))
      ])

  pub lane-anew : layer_from (with_part m v bs) ≡ with_lane (layer_from m) v (lane_from bs)
  unfolding layer_from with_lane lane_of
  lane-anew =
      layer-eq _ _
      (upto-set (lane_of m) (lane_of (with_part m v bs)) fresh_lane v 4 small (λ w h n. ap lane_from (part-other w h n))
      ∙ ap (λ (b : List ℕ). set (upto (lane_of m) 0 4) v (lane_from b)) part-anew)
      (unfold u8_at with_part in (byte_above m bs (lane_size * v) (omega arith) last_at (omega arith)))

-- the venue served last
pub last-anew : (m : List ℕ) (x : ℕ) → length m ≡ layer_size → layer_from (set m last_at x) ≡ record { lanes = (layer_from m).lanes; last = x }
unfolding layer_from lane_of lane_part u8_at
last-anew m x size =
    layer-eq _ _
    (upto-same (lane_of (set m last_at x)) (lane_of m) 0 4 (λ w _ h. ap lane_from
    (same-part (set m last_at x) m (lane_size * w) lane_size (omega (arith, length-set m last_at x)) (omega arith)
    (λ i k. get_or-set_other m last_at (lane_size * w + i) x 0 (λ e. omega arith)))))
    (get_or-set_same m last_at x 0 (omega arith))
