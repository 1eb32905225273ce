-- A host's fresh layer.
use mathlib.Core.Path.{◌≡◌, refl, sym, ap, ◌∙◌}
use mathlib.Core.List.{List, [], ◌∷◌, ◌++◌}
use Prim.Native.Nat.{ℕ, suc, ◌+◌, ◌*◌, ◌≤◌, ◌<◌}
use native.Mathlib.Omega.{arith}
use lib.ListN.{length, get_or, set, drop, replicate}
use lib.Seq.{drop-cons, set_at}
use borrow.Author.Tests.{eq-eqb, ne_eqb}
use borrow.Rule.Slice.PartMut.{put_mid}
use Rattle.rules.specs.Bytes.{bytes}
use Rattle.records.specs.Seen.{Seen, seen, pasted}
use Rattle.records.proofs.SeenLaws.{plus-in}
use Rattle.venue_bytes.specs.Held.{rows}
use Rattle.venue_bytes.proofs.Rows.{Written, written_all, written-room, written_next}
use Rattle.layer.specs.Layer.{Lane, fresh_lane, fresh_layer}
use Rattle.lanes.specs.Memory.{lane_size, last_at, layer_size, lane_bytes, layer_bytes}
use Rattle.dispatch.specs.Hosts.{reply_of, fresh_held}
use Rattle.lanes.proofs.Bytes.{part-back}
use Rattle.lanes.proofs.Fresh.{fresh-size, fresh-whole, lanes-length}

-- each lane is the fresh one
abbrev pub fresh_row : Lane → List ℕ
fresh_row c = lane_bytes fresh_lane

abbrev pub four : List Lane
four = replicate 4 fresh_lane

pub fresh-even : (c : Lane) → length (fresh_row c) ≡ lane_size
fresh-even c = fresh-size

module _ (m₀ : List ℕ) (size : length m₀ ≡ layer_size) (m : List ℕ) (i : ℕ) (w : Written fresh_row 0 four m₀ m i) where
  pub fresh-room : length m ≡ length m₀
  fresh-room = written-room fresh_row lane_size fresh-even 0 four m₀ (omega arith) m i w

  pub fresh-next : (ys : List ℕ) (k : ℕ) → i < 4 → k ≡ lane_size → ys ≡ lane_bytes fresh_lane → Written fresh_row 0 four m₀ (put_mid (lane_size * i) k m ys) (i + 1)
  unfolding seen
  fresh-next ys k h e p =
      let n : length ys ≡ lane_size = ap length p ∙ fresh-size in
      let r = fresh-room in
      written_next fresh_row lane_size fresh-even 0 four m₀ (omega arith) m i w fresh_lane (get_or four i fresh_lane) (lane_size * i) _ h refl (omega arith)
      (part-back m ys (lane_size * i) k (omega arith) ∙ ap (pasted m (lane_size * i)) p ∙ sym (ap (λ (x : Seen). x.memory) (plus-in m (lane_bytes fresh_lane) (lane_size * i) (omega (arith, fresh-size)))))

  pub fresh-all : 4 ≤ i → reply_of 0 (set m last_at 3) ≡ fresh_held m₀
  unfolding fresh_held layer_bytes fresh_layer rows bytes pasted
  fresh-all h = rw (eq-eqb (length m₀) layer_size size) (ap (reply_of 0) go)
    where
      R : List ℕ
      R = rows lane_bytes four

      n : length R ≡ last_at
      n = unfold fresh_layer in (lanes-length four fresh-whole)

      is : m ≡ R ++ drop (0 + length R) m₀
      is = unfold rows pasted in (written_all fresh_row 0 four m₀ m i w h)

      go : set m last_at 3 ≡ R ++ (3 ∷ [])
      go =
          let k : 0 + length R ≡ last_at = omega (arith, n) in
          let rest : drop (0 + length R) m₀ ≡ get_or m₀ last_at 0 ∷ [] =
          ap (λ (j : ℕ). drop j m₀) k ∙ drop-cons m₀ last_at 0 (omega arith)
          ∙ ap (λ (y : List ℕ). get_or m₀ last_at 0 ∷ y) (lib.ListN.drop_of_length-le m₀ {i = suc last_at} (omega arith)) in
          ap (λ (y : List ℕ). set y last_at 3) (is ∙ ap (λ (y : List ℕ). R ++ y) rest) ∙ set_at R (get_or m₀ last_at 0) [] 3 last_at n

pub fresh-none : (m : List ℕ) → (length m ≡ layer_size → ⊥) → reply_of 9 m ≡ fresh_held m
unfolding fresh_held
fresh-none m h = rw (ne_eqb (length m) layer_size h)
