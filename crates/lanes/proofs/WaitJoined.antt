-- A message put at the end of a lane's wait.
use mathlib.Core.Path.{◌≡◌, sym, ap, ap₂, ◌∙◌}
use mathlib.Core.Bool.{true}
use mathlib.Core.Logic.{◌≢◌}
use mathlib.Core.List.{List, [], ◌∷◌, ◌++◌}
use Prim.Native.Nat.{ℕ, ◌+◌, ◌*◌, ◌≤◌, ◌<◌}
use native.Mathlib.Omega.{arith}
use native.Mathlib.Numerals.{add-one}
use lib.ListN.{length, get_or, take, drop, length-set}
use lib.Seq.{get_or-set_same, get_or-set_other}
use Rattle.rules.specs.Bytes.{u8_at, u16_at, u32_at}
use Rattle.records.specs.Seen.{pasted}
use Rattle.wire.proofs.Numbers.{u8-drop}
use Rattle.records.proofs.SeenLaws.{pasted_length}
use Rattle.places.specs.Layout.{upto}
use Rattle.places.proofs.Tables.{upto-more, upto-same}
use Rattle.venue_bytes.specs.Held.{venue_size, venue_from}
use Rattle.layer.specs.Layer.{Lane, wait_sound, joins}
use Rattle.lanes.specs.Memory.{done_at, count_at, places_at, place_size, lane_size, place_from, lane_from, place_bytes, joined_bytes}
use Rattle.lanes.proofs.Bytes.{byte-below, byte-in, same-part}
use Rattle.lanes.proofs.Places.{message-same, message-read, waits-short, place-size, place-first, place_byte}

pub lane-eq : (c d : Lane) → c.venue ≡ d.venue → c.done ≡ d.done → c.wait ≡ d.wait → c ≡ d
lane-eq c d p q r = rw (p, q, r)

module _ (bs msg : List ℕ) (size : length bs ≡ lane_size) (few : u8_at bs count_at < 8) (short : length msg ≤ 32) where
  abbrev n : ℕ
  n = u8_at bs count_at

  -- where the message goes
  abbrev at : ℕ
  at = place_size * n + places_at

  pasted-size : length (pasted bs at (place_bytes msg)) ≡ lane_size
  pasted-size = pasted_length bs (place_bytes msg) at (omega (arith, place-size msg short)) ∙ size

  pub joined-size : length (joined_bytes bs msg) ≡ lane_size
  unfolding joined_bytes
  joined-size = length-set (pasted bs at (place_bytes msg)) count_at (n + 1) ∙ pasted-size

  below : (k : ℕ) → k < at → k ≢ count_at → get_or (joined_bytes bs msg) k 0 ≡ get_or bs k 0
  unfolding joined_bytes
  below k h e = get_or-set_other (pasted bs at (place_bytes msg)) count_at k (n + 1) 0 e ∙ byte-below bs (place_bytes msg) at (omega arith) k h

  here : (k : ℕ) → k < place_size → get_or (joined_bytes bs msg) (at + k) 0 ≡ get_or (place_bytes msg) k 0
  unfolding joined_bytes
  here k h =
      get_or-set_other (pasted bs at (place_bytes msg)) count_at (at + k) (n + 1) 0 (λ e. omega arith)
      ∙ byte-in bs (place_bytes msg) at (omega arith) k (omega (arith, place-size msg short))

  counted : u8_at (joined_bytes bs msg) count_at ≡ n + 1
  unfolding joined_bytes u8_at
  counted = get_or-set_same (pasted bs at (place_bytes msg)) count_at (get_or bs count_at 0 + 1) 0 (omega (arith, pasted-size))

  venue-same : take venue_size (joined_bytes bs msg) ≡ take venue_size bs
  venue-same =
      same-part (joined_bytes bs msg) bs 0 venue_size (omega (arith, joined-size)) (omega arith)
      (λ k h. below (0 + k) (omega arith) (λ e. omega arith))

  done-same : u32_at (joined_bytes bs msg) done_at ≡ u32_at bs done_at
  unfolding u32_at u16_at u8_at
  done-same = ap₂ (λ (x y : ℕ). x + 65536 * y) (ap₂ (λ (x y : ℕ). x + 256 * y) (b 0 (omega arith)) (b 1 (omega arith))) (ap₂ (λ (x y : ℕ). x + 256 * y) (b 2 (omega arith)) (b 3 (omega arith)))
    where
      b : (i : ℕ) → i < 4 → get_or (joined_bytes bs msg) (done_at + i) 0 ≡ get_or bs (done_at + i) 0
      b i h = below (done_at + i) (omega arith) (λ e. omega arith)

  module _ (fine : wait_sound (lane_from bs).wait ≡ true) where
    place_same : (j : ℕ) → j < n → place_from (joined_bytes bs msg) j ≡ place_from bs j
    unfolding place_from
    place_same j h =
        let p : ℕ = place_size * j + places_at in
        let z : p + 0 ≡ p = omega arith in
        message-same (drop p (joined_bytes bs msg)) (drop p bs) (omega (arith, waits-short bs j fine h, u8-drop p bs 0 ∙ ap (u8_at bs) z))
        (λ i k. u8-drop p (joined_bytes bs msg) i ∙ unfold u8_at in (below (p + i) (omega arith) (λ e. omega arith)) ∙ sym (u8-drop p bs i))

    here-at : (k : ℕ) → k < place_size → u8_at (drop at (joined_bytes bs msg)) k ≡ get_or (place_bytes msg) k 0
    here-at k h = u8-drop at (joined_bytes bs msg) k ∙ unfold u8_at in (here k h)

    place-new : place_from (joined_bytes bs msg) n ≡ msg
    unfolding place_from
    place-new =
        message-read (drop at (joined_bytes bs msg)) msg (here-at 0 (omega arith) ∙ place-first msg short)
        (λ i h. let z : i + 1 ≡ 1 + i = omega arith in here-at (i + 1) (omega arith) ∙ ap (λ (k : ℕ). get_or (place_bytes msg) k 0) z ∙ place_byte msg short i h)

    wait-new : upto (place_from (joined_bytes bs msg)) 0 (u8_at (joined_bytes bs msg) count_at) ≡ upto (place_from bs) 0 n ++ (msg ∷ [])
    wait-new =
        ap (upto (place_from (joined_bytes bs msg)) 0) (counted ∙ add-one n) ∙ upto-more (place_from (joined_bytes bs msg)) n
        ∙ ap₂ (λ (x : List (List ℕ)) (y : List ℕ). x ++ (y ∷ [])) (upto-same (place_from (joined_bytes bs msg)) (place_from bs) 0 n (λ j _ h. place_same j (omega arith))) place-new

    pub lane-joined : lane_from (joined_bytes bs msg) ≡ joins msg (lane_from bs)
    unfolding lane_from joins
    lane-joined = lane-eq _ _ (ap venue_from venue-same) done-same wait-new
