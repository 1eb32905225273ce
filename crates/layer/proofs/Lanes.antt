-- A lane put into the layer, and the venue that a turn serves.
use Rattle.std.specs.Prelude.{if◌then◌else◌}
use mathlib.Core.Path.{◌≡◌, refl, sym, ap, ◌∙◌}
use mathlib.Core.Bool.{Bool, true, false, true≢false}
use mathlib.Core.Logic.{◌≢◌}
use mathlib.Core.List.{List, [], ◌∷◌}
use Prim.Native.Nat.{ℕ, zero, suc, ◌+◌, ◌-◌, ◌%◌, ◌≤◌, ◌<◌}
use native.Mathlib.Omega.{arith}
use native.Mathlib.Decide.{ℕ_discrete}
use lib.Dec.{leb}
use lib.ListN.{length, set}
use lib.Seq.{get_or-set_same, get_or-set_other}
use borrow.Author.Tests.{leb-true, ne_eqb}
use Rattle.rules.specs.Base.{all}
use Rattle.rules.proofs.Arranging.{all-at, all_in}
use Rattle.rules.proofs.Tests.{and_l, and_r}
use Rattle.layer.specs.Layer.{Lane, Layer, fresh_lane, lane_at, lane_sound, layer_sound, waiting, first_waiting, next, head}

-- A lane anew ---------------------------------------------------------------------------------

pub lane-same : (l : Layer) (v last : ℕ) (c : Lane) → v < length l.lanes → lane_at (record { lanes = set l.lanes v c; last = last }) v ≡ c
unfolding lane_at
lane-same l v last c h = get_or-set_same l.lanes v c fresh_lane h

pub lane-other : (l : Layer) (v w last : ℕ) (c : Lane) → w ≢ v → lane_at (record { lanes = set l.lanes v c; last = last }) w ≡ lane_at l w
unfolding lane_at
lane-other l v w last c h = get_or-set_other l.lanes v w c fresh_lane h

-- what each lane keeps where one is put anew
pub each_set : (P : Lane → Type 0) (l : Layer) (v last : ℕ) (c : Lane) → v < length l.lanes → P c → ((w : ℕ) → P (lane_at l w)) → (w : ℕ) →
    P (lane_at (record { lanes = set l.lanes v c; last = last }) w)
each_set P l v last c h p each w =
    elim (ℕ_discrete w v) [
      | yes e ↦ rw (e, lane-same l v last c h) p
      | no e ↦ rw (lane-other l v w last c e) (each w)
    ]

-- A wait --------------------------------------------------------------------------------------

pub waiting-some : (c : Lane) (m : List ℕ) (others : List (List ℕ)) → c.wait ≡ m ∷ others → waiting c ≡ true
unfolding waiting
waiting-some c m others e = rw (ne_eqb (length c.wait) 0 (λ z. (let k : length c.wait ≡ suc (length others) = ap length e in omega arith)))

waiting_none : (c : Lane) → c.wait ≡ [] → waiting c ≡ false
unfolding waiting
waiting_none c e = rw e

pub head-is : (c : Lane) (m : List ℕ) (others : List (List ℕ)) → c.wait ≡ m ∷ others → head c ≡ m
unfolding head
head-is c m others e = rw e

-- The venue that is served --------------------------------------------------------------------

-- so many venues lie between, going round
unfoldable pub ahead : (from v : ℕ) → ℕ
ahead from v = (v + 4 - from) % 4

pub ahead-few : (from v : ℕ) → ahead from v < 4
unfolding ahead
ahead-few from v = omega arith

-- one venue on, unless it is v itself
pub ahead-next : (from v : ℕ) → from < 4 → v < 4 → from ≢ v → ahead ((from + 1) % 4) v + 1 ≡ ahead from v
unfolding ahead
ahead-next from v h k n = omega arith

-- one that has a message waiting, or 4
pub first-waiting : (l : Layer) (tries from : ℕ) → from < 4 → (first_waiting l tries from ≢ 4) → (first_waiting l tries from < 4) × (waiting (lane_at l (first_waiting l tries from)) ≡ true)
unfolding first_waiting
first-waiting l zero from h n = absurd (n refl)
first-waiting l (suc tries) from h n = go (waiting (lane_at l from)) refl n (λ m. first-waiting l tries ((from + 1) % 4) (omega arith) m)
  where
    go : (b : Bool) → waiting (lane_at l from) ≡ b → (if b then from else first_waiting l tries ((from + 1) % 4)) ≢ 4 →
        (first_waiting l tries ((from + 1) % 4) ≢ 4 → (first_waiting l tries ((from + 1) % 4) < 4) × (waiting (lane_at l (first_waiting l tries ((from + 1) % 4))) ≡ true)) →
        let w : ℕ = if b then from else first_waiting l tries ((from + 1) % 4) in (w < 4) × (waiting (lane_at l w) ≡ true)
    go true e n' ih = (h, e)
    go false e n' ih = ih n'

pub next-some : (l : Layer) → next l ≢ 4 → (next l < 4) × (waiting (lane_at l (next l)) ≡ true)
unfolding next
next-some l n = first-waiting l 4 _ (omega arith) n

-- where v waits, the venue served is v or lies before it
pub first-near : (l : Layer) (v tries from : ℕ) → waiting (lane_at l v) ≡ true → v < 4 → from < 4 → ahead from v < tries →
    (first_waiting l tries from < 4) × (ahead (first_waiting l tries from) v ≤ ahead from v)
unfolding first_waiting
first-near l v zero from w h k d = absurd (omega arith)
first-near l v (suc tries) from w h k d = go (waiting (lane_at l from)) refl (λ p. first-near l v tries ((from + 1) % 4) w h (omega arith) p)
  where
    go : (b : Bool) → waiting (lane_at l from) ≡ b →
        (ahead ((from + 1) % 4) v < tries → (first_waiting l tries ((from + 1) % 4) < 4) × (ahead (first_waiting l tries ((from + 1) % 4)) v ≤ ahead ((from + 1) % 4) v)) →
        let u : ℕ = if b then from else first_waiting l tries ((from + 1) % 4) in (u < 4) × (ahead u v ≤ ahead from v)
    go true e ih = (k, omega arith)
    go false e ih =
        elim (ℕ_discrete from v) [
          | yes z ↦ absurd (true≢false (sym w ∙ ap (λ (x : ℕ). waiting (lane_at l x)) (sym z) ∙ e))
          | no z ↦ let j = ahead-next from v k h z in let p = ih (omega arith) in let q = p.1 in (p.0, omega arith)
        ]

-- none waits, and 4 is next
pub none-next : (l : Layer) → ((v : ℕ) → v < 4 → (lane_at l v).wait ≡ []) → next l ≡ 4
none-next l none = elim (ℕ_discrete (next l) 4) [
  | yes e ↦ e
  | no n ↦ let s = next-some l n in absurd (true≢false (sym s.1 ∙ waiting_none (lane_at l (next l)) (none (next l) s.0)))
]

pub next-none : (l : Layer) → next l ≡ 4 → (v : ℕ) → v < 4 → (lane_at l v).wait ≡ []
unfolding next
next-none l e v h = go (lane_at l v).wait refl
  where
    near : waiting (lane_at l v) ≡ true → first_waiting l 4 ((l.last + 1) % 4) < 4
    near w = (first-near l v 4 ((l.last + 1) % 4) w h (omega arith) (ahead-few ((l.last + 1) % 4) v)).0

    go : (w : List (List ℕ)) → (lane_at l v).wait ≡ w → w ≡ []
    go [] z = refl
    go (m ∷ others) z = absurd (let k = near (waiting-some (lane_at l v) m others z) in omega arith)

-- A sound layer -------------------------------------------------------------------------------

pub sound-last : (l : Layer) → layer_sound l ≡ true → l.last < 4
unfolding layer_sound
sound-last l s = let h = leb-true l.last 3 (and_l (leb l.last 3) (all lane_sound l.lanes) s) in omega arith

pub sound-lane : (l : Layer) → lane_sound fresh_lane ≡ true → layer_sound l ≡ true → (v : ℕ) → lane_sound (lane_at l v) ≡ true
unfolding layer_sound lane_at
sound-lane l f s v = all-at lane_sound fresh_lane l.lanes f (and_r (leb l.last 3) (all lane_sound l.lanes) s) v

pub layer-sound : (l : Layer) → l.last < 4 → ((v : ℕ) → lane_sound (lane_at l v) ≡ true) → layer_sound l ≡ true
unfolding layer_sound lane_at
layer-sound l h each = rw (borrow.Author.Tests.le-leb l.last 3 (omega arith), all_in lane_sound fresh_lane l.lanes each)
