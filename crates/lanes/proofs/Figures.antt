-- The figures of the layer in memory.
use mathlib.Core.Path.{◌≡◌, refl, sym, ap, ap₂, ◌∙◌}
use mathlib.Core.Bool.{Bool, true, false, ◌&&◌, true≢false}
use mathlib.Core.Logic.{◌≢◌}
use mathlib.Core.List.{List, [], ◌∷◌, ◌++◌}
use Prim.Native.Nat.{ℕ, zero, suc, ◌+◌, ◌-◌, ◌*◌, ◌%◌, ◌≤◌, ◌<◌}
use native.Mathlib.Omega.{arith}
use native.Mathlib.Decide.{ℕ_discrete}
use native.Mathlib.Numerals.{add-one}
use lib.Dec.{leb}
use lib.ListN.{length, get_or, take, drop}
use lib.Seq.{get_or-take, get_or-drop}
use borrow.Author.Tests.{le-leb, lt-leb, eq-eqb, ne_eqb}
use Rattle.rules.specs.declared.Venue.{Venue}
use Rattle.rules.specs.Base.{all}
use Rattle.rules.specs.Bytes.{u8_at, u32_at}
use Rattle.rules.proofs.Arranging.{all-at}
use Rattle.rules.proofs.Tests.{and_l, and_r, and-false}
use Rattle.wire.proofs.Numbers.{u8-drop}
use Rattle.places.specs.Layout.{upto}
use Rattle.places.proofs.Tables.{upto-length, upto-at, upto-more}
use Rattle.layer.specs.Layer.{Lane, fresh_lane, lane_at, wait_sound, waiting, first_waiting, next}
use Rattle.venue_bytes.specs.Held.{venue_size, venue_from}
use Rattle.layer.proofs.Ways.{ready}
use Rattle.layer.proofs.PromisesLaws.{gets_none}
use Rattle.lanes.specs.Memory.{done_at, count_at, places_at, place_size, lane_size, last_at, message_from, place_from, lane_from, lane_part, lane_of, layer_from}
use Rattle.std.specs.Prelude.{Option, None, Some}
use Rattle.lanes.specs.Checks.{to_serve, lane_sound_but, of_four, layer_sound_but}

-- Four of them --------------------------------------------------------------------------------

pub four-at : (f : ℕ → Bool) → of_four f ≡ true → (i : ℕ) → i < 4 → f i ≡ true
unfolding of_four
four-at f e zero h = and_l (f 0) (f 1 && (f 2 && f 3)) e
four-at f e (suc zero) h = and_l (f 1) (f 2 && f 3) (and_r (f 0) (f 1 && (f 2 && f 3)) e)
four-at f e (suc (suc zero)) h = and_l (f 2) (f 3) (and_r (f 1) (f 2 && f 3) (and_r (f 0) (f 1 && (f 2 && f 3)) e))
four-at f e (suc (suc (suc zero))) h = and_r (f 2) (f 3) (and_r (f 1) (f 2 && f 3) (and_r (f 0) (f 1 && (f 2 && f 3)) e))
four-at f e (suc (suc (suc (suc i)))) h = absurd (omega arith)

pub four-in : (f : ℕ → Bool) → ((i : ℕ) → i < 4 → f i ≡ true) → of_four f ≡ true
unfolding of_four
four-in f each = rw (each 0 (omega arith), each 1 (omega arith), each 2 (omega arith), each 3 (omega arith))

-- A wait --------------------------------------------------------------------------------------

abbrev short : List ℕ → Bool
short m = leb (length m) 32

pub place-length : (bs : List ℕ) (i : ℕ) → length (place_from bs i) ≡ u8_at bs (place_size * i + places_at)
unfolding place_from message_from
place-length bs i =
    let e : place_size * i + places_at + 0 ≡ place_size * i + places_at = omega arith in
    upto-length _ 0 (u8_at (drop (place_size * i + places_at) bs) 0) ∙ u8-drop (place_size * i + places_at) bs 0 ∙ ap (u8_at bs) e

all_snoc : {A : Type 0} (f : A → Bool) (l : List A) (x : A) → all f l ≡ true → f x ≡ true → all f (l ++ (x ∷ [])) ≡ true
unfolding all
all_snoc f [] x a b = rw b
all_snoc f (y ∷ l) x a b = rw (and_l (f y) (all f l) a, all_snoc f l x (and_r (f y) (all f l) a) b)

-- the first i messages of a lane's wait are short enough
pub record Short (bs : List ℕ) (i : ℕ) : Type 0 where
  pub is : all short (upto (place_from bs) 0 i) ≡ true

pub short_none : (bs : List ℕ) → Short bs 0
unfolding upto all
short_none bs = record { is = refl }

pub short-next : (bs : List ℕ) (i x : ℕ) → Short bs i → x ≡ u8_at bs (place_size * i + places_at) → x ≤ 32 → Short bs (i + 1)
short-next bs i x s e h = record {
  is = rw (add-one, upto-more (place_from bs) i) (all_snoc short (upto (place_from bs) 0 i) (place_from bs i) s.is (le-leb (length (place_from bs i)) 32 (omega (arith, place-length bs i))));
}

module _ (bs : List ℕ) (n : ℕ) (count : n ≡ u8_at bs count_at) where
  wait-is : wait_sound (lane_from bs).wait ≡ (leb n 8 && all short (upto (place_from bs) 0 n))
  unfolding wait_sound lane_from
  wait-is = rw (← count, upto-length (place_from bs) 0 n)

  pub wait-many : 8 < n → false ≡ wait_sound (lane_from bs).wait
  wait-many h = sym (wait-is ∙ rw (lt-leb n 8 h))

  pub wait-long : (i x : ℕ) → i < n → x ≡ u8_at bs (place_size * i + places_at) → 32 < x → false ≡ wait_sound (lane_from bs).wait
  wait-long i x h e k = sym (wait-is ∙ ap (λ (b : Bool). leb n 8 && b) (go (all short (upto (place_from bs) 0 n)) refl) ∙ and-false (leb n 8))
    where
      long : short (get_or (upto (place_from bs) 0 n) i []) ≡ false
      long = let z : 0 + i ≡ i = omega arith in rw (upto-at (place_from bs) [] 0 n i h, z) (lt-leb (length (place_from bs i)) 32 (omega (arith, place-length bs i)))

      go : (b : Bool) → all short (upto (place_from bs) 0 n) ≡ b → b ≡ false
      go true q = absurd (true≢false (sym (all-at short [] (upto (place_from bs) 0 n) refl q i) ∙ long))
      go false q = refl

  pub wait-fine : (i : ℕ) → n ≤ 8 → Short bs i → i ≡ n → true ≡ wait_sound (lane_from bs).wait
  wait-fine i h s e = sym (wait-is ∙ rw (le-leb n 8 h, ← e) s.is)

-- The venue to serve --------------------------------------------------------------------------

module _ (m : List ℕ) where
  pub lane-of : (v : ℕ) → v < 4 → lane_at (layer_from m) v ≡ lane_of m v
  unfolding lane_at layer_from
  lane-of v h = upto-at (lane_of m) fresh_lane 0 4 v h ∙ ap (lane_of m) (omega arith)

  pub waits-at : (v : ℕ) → v < 4 → length (lane_at (layer_from m) v).wait ≡ u8_at m (lane_size * v + count_at)
  waits-at v h = ap (λ (c : Lane). length c.wait) (lane-of v h) ∙ go
    where
      go : length (lane_of m v).wait ≡ u8_at m (lane_size * v + count_at)
      go = unfold lane_of lane_from lane_part u8_at in (
          upto-length _ 0 (get_or (take lane_size (drop (lane_size * v) m)) count_at 0)
          ∙ get_or-take lane_size (drop (lane_size * v) m) count_at 0 (omega arith) ∙ get_or-drop (lane_size * v) m count_at 0
          )

  -- where a search from v with the tries left stands for the whole
  pub record Searching (v i : ℕ) : Type 0 where
    pub few : i ≤ 4
    pub small : v < 4
    pub is : first_waiting (layer_from m) (4 - i) v ≡ next (layer_from m)

  pub search-start : (x v : ℕ) → x ≡ u8_at m last_at → v ≡ (x + 1) % 4 → Searching v 0
  unfolding next layer_from
  search-start x v e f = record { few = omega arith; small = omega arith; is = ap (first_waiting (layer_from m) 4) (f ∙ ap (λ (k : ℕ). (k + 1) % 4) e) }

  module _ (v i x : ℕ) (s : Searching v i) (h : i < 4) (e : x ≡ u8_at m (lane_size * v + count_at)) where
    tries : 4 - i ≡ suc (3 - i)
    tries = omega arith

    pub search-found : x ≢ 0 → v ≡ next (layer_from m)
    search-found n = sym (ap (λ (k : ℕ). first_waiting (layer_from m) k v) tries ∙ go) ∙ s.is
      where
        go : first_waiting (layer_from m) (suc (3 - i)) v ≡ v
        go = unfold first_waiting waiting in (rw (ne_eqb (length (lane_at (layer_from m) v).wait) 0 (λ z. n (omega (arith, waits-at v s.small)))))

    pub search-next : (w : ℕ) → x ≡ 0 → w ≡ (v + 1) % 4 → Searching w (i + 1)
    search-next w z f =
        let k : 3 - i ≡ 4 - (i + 1) = omega arith in
        record {
          few = omega arith;
          small = omega arith;
          is = ap₂ (first_waiting (layer_from m)) (sym k) f ∙ sym go ∙ sym (ap (λ (j : ℕ). first_waiting (layer_from m) j v) tries) ∙ s.is;
        }
      where
        go : first_waiting (layer_from m) (suc (3 - i)) v ≡ first_waiting (layer_from m) (3 - i) ((v + 1) % 4)
        go = unfold first_waiting waiting in (rw (eq-eqb (length (lane_at (layer_from m) v).wait) 0 (waits-at v s.small ∙ sym e ∙ z)))

  pub search-none : (v i : ℕ) → Searching v i → 4 ≤ i → 4 ≡ next (layer_from m)
  unfolding first_waiting
  search-none v i s h = let z : 4 - i ≡ 0 = (let f = s.few in omega arith) in ap (λ (k : ℕ). first_waiting (layer_from m) k v) (sym z) ∙ s.is

-- the venue that is found, or none
pub waits_for : (m : List ℕ) (v : ℕ) → v < 4 → v ≡ next (layer_from m) → Some v ≡ to_serve (layer_from m)
waits_for m v h e = ap Some e ∙ sym (rw (ne_eqb (next (layer_from m)) 4 (λ z. omega arith)) refl)

pub waits_none : (m : List ℕ) → 4 ≡ next (layer_from m) → ◌≡◌ {A = Option ℕ} None (to_serve (layer_from m))
waits_none m e = sym (rw (eq-eqb (next (layer_from m)) 4 (sym e)) refl)

-- A lane, and all of them ---------------------------------------------------------------------

module _ (bs : List ℕ) (but v : ℕ) (w : Bool) (e : w ≡ wait_sound (lane_from bs).wait) where
  pub lane-waits : w ≡ false → false ≡ lane_sound_but but v (lane_from bs)
  unfolding lane_sound_but
  lane-waits f = rw (← e, f)

  pub lane-passed : w ≡ true → v ≡ but → true ≡ lane_sound_but but v (lane_from bs)
  unfolding lane_sound_but
  lane-passed f g = rw (← e, f, eq-eqb v but g)

  pub lane-checked : (x : Venue) (d : ℕ) (r : Bool) → w ≡ true → v ≢ but → x ≡ venue_from (take venue_size bs) → d ≡ u32_at bs done_at → r ≡ ready x d → r ≡ lane_sound_but but v (lane_from bs)
  unfolding lane_sound_but
  lane-checked x d r f n g h q = q ∙ ap₂ ready g h ∙ sym (rw (← e, f, ne_eqb v but n) (gets_none (lane_from bs) ∙ unfold lane_from in (refl)))

module _ (m : List ℕ) (but : ℕ) where
  -- lane v of the layer
  abbrev passes : ℕ → Bool
  passes v = lane_sound_but but v (lane_at (layer_from m) v)

  -- lane i, as it is lent
  pub lent : (i a k : ℕ) (r : Bool) → a ≡ lane_size * i → k ≡ lane_size → i < 4 → r ≡ lane_sound_but but i (lane_from (take k (drop a m))) → r ≡ passes i
  lent i a k r p q h e =
      e ∙ ap (lane_sound_but but i) (ap₂ (λ (x y : ℕ). lane_from (take y (drop x m))) p q ∙ unfold lane_of lane_part in (sym (lane-of m i h)))

  -- the first i lanes pass
  pub record Passed (i : ℕ) : Type 0 where
    pub is : (j : ℕ) → j < i → passes j ≡ true

  pub passed_none : Passed 0
  passed_none = record { is = λ j h. absurd (omega arith) }

  pub passed-next : (i : ℕ) → Passed i → passes i ≡ true → Passed (i + 1)
  passed-next i w e = record {
    is = λ j h. elim (ℕ_discrete j i) [
      | yes z ↦ ap passes z ∙ e
      | no z ↦ w.is j (omega arith)
    ];
  }

  pub lane-fails : (i : ℕ) → i < 4 → passes i ≡ false → false ≡ layer_sound_but but (layer_from m)
  unfolding layer_sound_but
  lane-fails i h e = sym (ap (λ (b : Bool). leb (layer_from m).last 3 && b) (go (of_four passes) refl) ∙ and-false (leb (layer_from m).last 3))
    where
      go : (b : Bool) → of_four passes ≡ b → b ≡ false
      go true f = absurd (true≢false (sym (four-at passes f i h) ∙ e))
      go false f = refl

  pub last-fails : 3 < get_or m last_at 0 → false ≡ layer_sound_but but (layer_from m)
  unfolding layer_sound_but layer_from u8_at
  last-fails h = rw (lt-leb (get_or m last_at 0) 3 h)

  pub all_pass : (i : ℕ) → get_or m last_at 0 ≤ 3 → Passed i → 4 ≤ i → true ≡ layer_sound_but but (layer_from m)
  unfolding layer_sound_but
  all_pass i h w e = sym (rw (le-leb (layer_from m).last 3 last, four-in passes (λ j k. w.is j (omega arith))))
    where
      last : (layer_from m).last ≤ 3
      last = unfold layer_from u8_at in (h)
