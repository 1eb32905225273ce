-- A message in its place of a lane's wait.
use mathlib.Core.Path.{◌≡◌, sym, ap, ◌∙◌}
use mathlib.Core.Bool.{true}
use mathlib.Core.List.{List, [], ◌++◌}
use Prim.Native.Nat.{ℕ, ◌+◌, ◌-◌, ◌*◌, ◌≤◌, ◌<◌}
use native.Mathlib.Omega.{arith}
use lib.Dec.{leb}
use lib.ListN.{length, get_or, take, drop, replicate, length-append, length-replicate, get_or-append}
use lib.Seq.{ext_get_or, get_or-append-add, get_or-take, get_or-drop}
use borrow.Author.Tests.{leb-true}
use Rattle.rules.specs.Base.{all}
use Rattle.rules.specs.Bytes.{u8_at, u8, bytes}
use Rattle.rules.proofs.Arranging.{all-at}
use Rattle.rules.proofs.Reading.{byte}
use Rattle.rules.proofs.Tests.{and_r}
use Rattle.places.specs.Layout.{upto}
use Rattle.places.proofs.Tables.{upto-length, upto-at, upto-same}
use Rattle.layer.specs.Layer.{wait_sound}
use Rattle.lanes.specs.Memory.{count_at, places_at, place_size, message_from, place_from, lane_from, place_bytes}
use Rattle.lanes.proofs.Bytes.{part_length}
use Rattle.lanes.proofs.Figures.{place-length}

-- Read ----------------------------------------------------------------------------------------

-- a message goes by its length and its bytes
pub message-same : (x y : List ℕ) → u8_at y 0 ≤ 32 → ((i : ℕ) → i ≤ 32 → u8_at x i ≡ u8_at y i) → message_from x ≡ message_from y
unfolding message_from
message-same x y h each =
    ap (upto (λ (i : ℕ). u8_at x (i + 1)) 0) (each 0 (omega arith))
    ∙ upto-same (λ (i : ℕ). u8_at x (i + 1)) (λ (i : ℕ). u8_at y (i + 1)) 0 (u8_at y 0) (λ i _ k. each (i + 1) (omega arith))

pub message-read : (x m : List ℕ) → u8_at x 0 ≡ length m → ((i : ℕ) → i < length m → u8_at x (i + 1) ≡ get_or m i 0) → message_from x ≡ m
unfolding message_from
message-read x m e each =
    let f : ℕ → ℕ = λ (i : ℕ). u8_at x (i + 1) in
    let n : length (upto f 0 (u8_at x 0)) ≡ length m = upto-length f 0 (u8_at x 0) ∙ e in
    ext_get_or 0 (upto f 0 (u8_at x 0)) m n
    (λ i h. let z : 0 + i ≡ i = omega arith in upto-at f 0 0 (u8_at x 0) i (omega arith) ∙ ap f z ∙ each i (omega arith))

-- a message that waits is no longer than 32 bytes
pub waits-short : (bs : List ℕ) (i : ℕ) → wait_sound (lane_from bs).wait ≡ true → i < u8_at bs count_at → u8_at bs (place_size * i + places_at) ≤ 32
unfolding wait_sound lane_from
waits-short bs i s h =
    let w : List (List ℕ) = upto (place_from bs) 0 (u8_at bs count_at) in
    let z : 0 + i ≡ i = omega arith in
    let g : get_or w i [] ≡ place_from bs i = upto-at (place_from bs) [] 0 (u8_at bs count_at) i h ∙ ap (place_from bs) z in
    let t : leb (length (place_from bs i)) 32 ≡ true =
    ap (λ (x : List ℕ). leb (length x) 32) (sym g)
    ∙ all-at (λ (x : List ℕ). leb (length x) 32) [] w mathlib.Core.Path.refl (and_r (leb (length w) 8) (all (λ (x : List ℕ). leb (length x) 32) w) s) i in
    omega (arith, leb-true (length (place_from bs i)) 32 t, place-length bs i)

-- the message at the head, as it is lent to a call
pub head-lent : (bs : List ℕ) (n k : ℕ) → n ≡ u8_at bs places_at → places_at + 1 + n ≤ length bs → k ≡ n → take k (drop (places_at + 1) bs) ≡ place_from bs 0
unfolding place_from u8_at
head-lent bs n k e h f =
    sym (message-read (drop places_at bs) (take k (drop (places_at + 1) bs)) (get_or-drop places_at bs 0 0 ∙ sym e ∙ sym f ∙ sym size)
    (λ i j. get_or-drop places_at bs (i + 1) 0 ∙ ap (λ (p : ℕ). get_or bs p 0) (next i) ∙ sym (get_or-drop (places_at + 1) bs i 0) ∙ sym (get_or-take k (drop (places_at + 1) bs) i 0 (omega (arith, size)))))
  where
    size : length (take k (drop (places_at + 1) bs)) ≡ k
    size = part_length bs (places_at + 1) k (omega arith)

    next : (i : ℕ) → places_at + (i + 1) ≡ places_at + 1 + i
    next i = omega arith

-- Written -------------------------------------------------------------------------------------

module _ (m : List ℕ) (short : length m ≤ 32) where
  pub place-size : length (place_bytes m) ≡ place_size
  unfolding place_bytes bytes
  place-size =
      length-append (u8 (length m) ++ m) (replicate (32 - length m) 0) ∙ omega (arith, length-append (u8 (length m)) m, length-replicate {A = ℕ} (32 - length m) 0)

  pub place-first : get_or (place_bytes m) 0 0 ≡ length m
  unfolding place_bytes bytes
  place-first = byte (length m) (omega arith)

  pub place_byte : (i : ℕ) → i < length m → get_or (place_bytes m) (1 + i) 0 ≡ get_or m i 0
  unfolding place_bytes bytes
  place_byte i h =
      get_or-append (u8 (length m) ++ m) (replicate (32 - length m) 0) 0 (1 + i) (omega (arith, length-append (u8 (length m)) m))
      ∙ get_or-append-add (u8 (length m)) m i 0
