-- What each small function writes, as the equation of its contract.
use mathlib.Core.Path.{◌≡◌, refl, sym, ap, ap₂, ◌∙◌}
use mathlib.Core.Logic.{◌≢◌}
use mathlib.Core.List.{List, [], ◌∷◌, ◌++◌, append_assoc}
use Prim.Native.Nat.{ℕ, ◌+◌, ◌-◌, ◌*◌, ◌≤◌, ◌<◌}
use native.Mathlib.Omega.{arith}
use lib.ListN.{length, get_or, set, take, drop, replicate, length-append, length-drop, length-set, take-append-drop}
use lib.Seq.{length-take-le, take_all, take-suc, take_at, drop_at, drop-drop, set_at, paste, take-paste}
use borrow.Author.Tests.{eq-eqb, ne_eqb}
use borrow.Rule.Slice.PartMut.{put_mid}
use Rattle.rules.specs.declared.Venue.{Venue}
use Rattle.rules.specs.declared.Returned.{Returned}
use Rattle.rules.specs.Words.{fresh_venue}
use Rattle.rules.specs.Bytes.{u8_at, u32_at, u8, u32, bytes}
use Rattle.rules.specs.Calls.{one}
use Rattle.rules.proofs.Reading.{byte}
use Rattle.records.specs.Seen.{Seen, seen, pasted, ◌plus◌}
use Rattle.wire.proofs.Numbers.{u8-drop, u32-here}
use Rattle.records.proofs.SeenLaws.{plus-in, pasted_length, pasted-to, pasted_above}
use Rattle.venue_bytes.specs.Held.{venue_size, venue_bytes, venue_from}
use Rattle.engine.specs.Runs.{call_of}
use Rattle.layer.specs.Layer.{fresh_lane}
use Rattle.lanes.specs.Memory.{done_at, count_at, places_at, place_size, lane_size, place_from, place_bytes, lane_bytes, joined_bytes, head_called, venue_part, advanced_bytes}
use Rattle.lanes.proofs.Bytes.{part-back}
use Rattle.lanes.proofs.Places.{place-size}
use Rattle.lanes.proofs.Fresh.{fresh-bytes}

-- bytes written where they fit
put_in : (l m bs : List ℕ) (at end : ℕ) → seen m end ≡ seen l at plus bs → at + length bs ≤ length l → (m ≡ pasted l at bs) × (end ≡ at + length bs)
unfolding seen
put_in l m bs at end e h = (ap (λ (x : Seen). x.memory) (e ∙ plus-in l bs at h), ap (λ (x : Seen). x.at) (e ∙ plus-in l bs at h))

-- A message joins a wait ----------------------------------------------------------------------

pub place-put : (p m p1 p2 : List ℕ) (end : ℕ) → length p ≡ place_size → length m ≤ 32 → p1 ≡ set p 0 (length m) → seen p2 end ≡ seen p1 1 plus m →
    take end p2 ++ replicate (length p2 - end) 0 ≡ place_bytes m
unfolding place_bytes bytes
place-put p m p1 p2 end size short e1 e2 =
    let n1 : length p1 ≡ place_size = ap length e1 ∙ length-set p 0 (length m) ∙ size in
    let w = put_in p1 p2 m 1 end e2 (omega arith) in
    let n2 : length p2 ≡ place_size = ap length w.0 ∙ pasted_length p1 m 1 (omega arith) ∙ n1 in
    let front : take 1 p1 ≡ u8 (length m) = ap (take 1) e1 ∙ first p (length m) (omega arith) ∙ ap (λ (x : ℕ). x ∷ []) (sym (byte (length m) (omega arith))) in
    let written : take end p2 ≡ u8 (length m) ++ m = ap₂ take w.1 w.0 ∙ pasted-to p1 m 1 (omega arith) ∙ ap (λ (x : List ℕ). x ++ m) front in
    let left : length p2 - end ≡ 32 - length m = (let a = w.1 in omega arith) in
    ap₂ (λ (x : List ℕ) (k : ℕ). x ++ replicate k 0) written left
  where
    first : (l : List ℕ) (x : ℕ) → 0 < length l → take 1 (set l 0 x) ≡ x ∷ []
    first [] x h = absurd (omega arith)
    first (y ∷ l) x h = refl

pub joins-put : (bs m ys : List ℕ) (i n k : ℕ) → length m ≤ 32 → i ≡ n → n ≡ u8_at bs count_at → k ≡ place_size → ys ≡ place_bytes m →
    set (put_mid (place_size * i + places_at) k bs ys) count_at (n + 1) ≡ joined_bytes bs m
unfolding joined_bytes
joins-put bs m ys i n k short at e f g =
    let s : k ≡ length ys = f ∙ sym (ap length g ∙ place-size m short) in
    ap (λ (x : ℕ). set (put_mid (place_size * x + places_at) k bs ys) count_at (n + 1)) at
    ∙ ap (λ (x : List ℕ). set x count_at (n + 1)) (part-back bs ys (place_size * n + places_at) k s ∙ ap (pasted bs (place_size * n + places_at)) g)
    ∙ ap (λ (x : ℕ). set (pasted bs (place_size * x + places_at) (place_bytes m)) count_at (x + 1)) e

-- A lane advances -----------------------------------------------------------------------------

-- the venue after its message
module _ (bs : List ℕ) (number : ℕ) (v : Venue) where
  pub after-refused : number ≢ 0 → bs ≡ venue_part bs number v ++ drop venue_size bs
  unfolding venue_part
  after-refused n = rw (ne_eqb number 0 n) (sym (take-append-drop venue_size bs))

  pub after-accepted : (ys : List ℕ) → number ≡ 0 → ys ≡ venue_bytes v → ys ++ drop venue_size bs ≡ venue_part bs number v ++ drop venue_size bs
  unfolding venue_part
  after-accepted ys e p = rw (eq-eqb number 0 e) (ap (λ (x : List ℕ). x ++ drop venue_size bs) p)

-- its messages done
pub done-put : (bs m x : List ℕ) (end n : ℕ) → length bs ≡ lane_size → n ≡ u32_at bs done_at → x ≡ u32 (n + 1) → seen m end ≡ seen bs done_at plus x → m ≡ pasted bs done_at (u32 (u32_at bs done_at + 1))
unfolding bytes
done-put bs m x end n size e p q =
    let k : length x ≡ 4 = ap length p in
    (put_in bs m x done_at end q (omega arith)).0 ∙ ap (pasted bs done_at) (p ∙ ap (λ (y : ℕ). u32 (y + 1)) e)

-- the places one place down
abbrev others : List ℕ → List ℕ
others bs = drop (places_at + place_size) bs

module _ (bs : List ℕ) (size : length bs ≡ lane_size) (m : List ℕ) (is : m ≡ paste bs places_at (others bs) (7 * place_size)) (room : length m ≡ length bs) where
  others-size : length (others bs) ≡ 7 * place_size
  others-size = length-drop (places_at + place_size) bs ∙ omega arith

  -- then the last place is zeroed, and the count is one less
  pub moved_all : (z : List ℕ) (n : ℕ) → n ≡ u8_at bs count_at → u8_at bs count_at ≤ 8 →
      z ≡ take (places_at + 7 * place_size) m ++ replicate (length m - (places_at + 7 * place_size)) 0 →
      set z count_at (n - 1) ≡ take count_at bs ++ u8 (u8_at bs count_at - 1) ++ others bs ++ replicate place_size 0
  unfolding bytes
  moved_all z n e few q =
      let k = others-size in
      let left : length m - (places_at + 7 * place_size) ≡ place_size = omega arith in
      let whole : take (places_at + 7 * place_size) m ≡ take places_at bs ++ others bs =
      ap (take (places_at + 7 * place_size)) is
      ∙ take-paste bs places_at (others bs) (7 * place_size) (omega arith) (omega arith) ∙ ap (λ (x : List ℕ). take places_at bs ++ x) (take_all (7 * place_size) (others bs) (omega arith)) in
      let front : take places_at bs ≡ take count_at bs ++ (get_or bs count_at 0 ∷ []) = take-suc bs count_at 0 (omega arith) in
      let zeros : List ℕ = replicate place_size 0 in
      let group : (y : ℕ) → take count_at bs ++ (y ∷ []) ++ others bs ++ zeros ≡ take count_at bs ++ (y ∷ (others bs ++ zeros)) = λ y. simp append_assoc in
      let shown : z ≡ take count_at bs ++ (get_or bs count_at 0 ∷ (others bs ++ zeros)) =
      q ∙ ap₂ (λ (x : List ℕ) (j : ℕ). x ++ replicate j 0) (whole ∙ ap (λ (x : List ℕ). x ++ others bs) front) left ∙ group (get_or bs count_at 0) in
      ap₂ (λ (x : List ℕ) (y : ℕ). set x count_at (y - 1)) shown e
      ∙ set_at (take count_at bs) (get_or bs count_at 0) (others bs ++ zeros) (u8_at bs count_at - 1) count_at (length-take-le count_at bs (omega arith))
      ∙ ap (λ (x : ℕ). take count_at bs ++ (x ∷ (others bs ++ zeros))) (sym (byte (u8_at bs count_at - 1) (omega arith))) ∙ sym (group _)

-- the three one after another
module _ (bs : List ℕ) (number : ℕ) (v : Venue) (m1 : List ℕ) (size : length bs ≡ lane_size) (p1 : m1 ≡ venue_part bs number v ++ drop venue_size bs) (same : length m1 ≡ length bs) where
  abbrev x : List ℕ
  x = venue_part bs number v

  front-size : length x ≡ venue_size
  front-size = omega (arith, ap length p1, length-append x (drop venue_size bs), length-drop venue_size bs)

  rest-same : drop venue_size m1 ≡ drop venue_size bs
  rest-same = ap (drop venue_size) p1 ∙ drop_at x (drop venue_size bs) venue_size front-size

  pub done-same : u32_at m1 done_at ≡ u32_at bs done_at
  done-same = u32-here done_at m1 ∙ ap (λ (y : List ℕ). u32_at y 0) rest-same ∙ sym (u32-here done_at bs)

  module _ (m2 : List ℕ) (p2 : m2 ≡ pasted m1 done_at (u32 (u32_at m1 done_at + 1))) where
    tail-same : drop count_at m2 ≡ drop count_at bs
    unfolding bytes
    tail-same =
        ap (drop count_at) p2 ∙ pasted_above m1 (u32 (u32_at m1 done_at + 1)) done_at (omega arith)
        ∙ sym (drop-drop 4 venue_size m1) ∙ ap (drop 4) rest-same ∙ drop-drop 4 venue_size bs

    pub count_same : u8_at m2 count_at ≡ u8_at bs count_at
    count_same =
        let z : count_at + 0 ≡ count_at = omega arith in
        ap (u8_at m2) (sym z) ∙ sym (u8-drop count_at m2 0) ∙ ap (λ (y : List ℕ). u8_at y 0) tail-same ∙ u8-drop count_at bs 0 ∙ ap (u8_at bs) z

    pub advanced-put : (m3 : List ℕ) → m3 ≡ take count_at m2 ++ u8 (u8_at m2 count_at - 1) ++ drop (places_at + place_size) m2 ++ replicate place_size 0 → m3 ≡ advanced_bytes bs number v
    unfolding advanced_bytes bytes
    advanced-put m3 p3 =
        let w : List ℕ = u32 (u32_at m1 done_at + 1) in
        let front : take count_at m2 ≡ x ++ u32 (u32_at bs done_at + 1) =
        ap (take count_at) p2 ∙ pasted-to m1 w done_at (omega arith)
        ∙ ap₂ (λ (y : List ℕ) (k : ℕ). y ++ u32 (k + 1)) (ap (take done_at) p1 ∙ take_at x (drop venue_size bs) done_at front-size) done-same in
        let after : drop (places_at + place_size) m2 ≡ drop (places_at + place_size) bs =
        sym (drop-drop (1 + place_size) count_at m2) ∙ ap (drop (1 + place_size)) tail-same ∙ drop-drop (1 + place_size) count_at bs in
        p3 ∙ ap₂ (λ (y z : List ℕ). y ++ u8 (u8_at m2 count_at - 1) ++ z ++ replicate place_size 0) front after
        ∙ ap (λ (k : ℕ). x ++ u32 (u32_at bs done_at + 1) ++ u8 (k - 1) ++ drop (places_at + place_size) bs ++ replicate place_size 0) count_same

-- The call with the head ----------------------------------------------------------------------

pub called-head : (bs m z : List ℕ) (room n : ℕ) (v : Venue) (r : Returned) → v ≡ venue_from (take venue_size bs) → n ≡ u32_at bs done_at → m ≡ place_from bs 0 →
    call_of r z ≡ one v n room m → call_of r z ≡ head_called bs room
unfolding head_called
called-head bs m z room n v r p q e c = c ∙ ap₂ (λ (x : Venue) (y : ℕ). one x y room m) p q ∙ ap (one (venue_from (take venue_size bs)) (u32_at bs done_at) room) e

-- A fresh layer -------------------------------------------------------------------------------

pub fresh-put : (bs ys : List ℕ) (v : Venue) → length bs ≡ lane_size → length ys ≡ venue_size → v ≡ fresh_venue → ys ≡ venue_bytes v →
    take venue_size (ys ++ drop venue_size bs) ++ replicate (length (ys ++ drop venue_size bs) - venue_size) 0 ≡ lane_bytes fresh_lane
fresh-put bs ys v size n e p =
    let k : length (ys ++ drop venue_size bs) - venue_size ≡ lane_size - venue_size = omega (arith, length-append ys (drop venue_size bs), length-drop venue_size bs) in
    ap₂ (λ (x : List ℕ) (j : ℕ). x ++ replicate j 0) (take_at ys (drop venue_size bs) venue_size n ∙ p ∙ ap venue_bytes e) k ∙ sym fresh-bytes
