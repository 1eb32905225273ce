-- The checks but one, and the layer's soundness.
use mathlib.Core.Path.{◌≡◌, refl, sym, ap, ◌∙◌}
use mathlib.Core.Bool.{Bool, true, false, not, ◌||◌, true≢false}
use Prim.Native.Nat.{ℕ, ◌<◌}
use native.Mathlib.Omega.{arith}
use native.Mathlib.Decide.{dec_lt, ℕ_discrete}
use lib.Dec.{eqb, leb}
use lib.ListN.{length, get_or-eq_default}
use borrow.Author.Tests.{ne_eqb, leb-true, le-leb}
use Rattle.rules.proofs.Tests.{and_l, and_r}
use Rattle.layer.specs.Layer.{Lane, Layer, fresh_lane, lane_at, gets_nine, wait_sound, lane_sound, layer_sound}
use Rattle.layer.proofs.Lanes.{sound-last, layer-sound}
use Rattle.layer.proofs.PromisesLaws.{each_lane, fresh-lane}
use Rattle.lanes.specs.Checks.{lane_sound_but, of_four, layer_sound_but}
use Rattle.lanes.proofs.Figures.{four-at, four-in}

or-last : (a : Bool) → (a || true) ≡ true
or-last true = refl
or-last false = refl

-- a sound lane passes
sound-passes : (but v : ℕ) (c : Lane) → lane_sound c ≡ true → lane_sound_but but v c ≡ true
unfolding lane_sound lane_sound_but
sound-passes but v c s = rw (and_l (wait_sound c.wait) (not (gets_nine c)) s, and_r (wait_sound c.wait) (not (gets_nine c)) s, or-last (eqb v but))

-- one that passes is sound where its venue gets no 9
passes-sound : (but v : ℕ) (c : Lane) → lane_sound_but but v c ≡ true → (v ≡ but → gets_nine c ≡ false) → lane_sound c ≡ true
unfolding lane_sound lane_sound_but
passes-sound but v c p g =
    rw (and_l (wait_sound c.wait) (eqb v but || not (gets_nine c)) p)
    (elim (ℕ_discrete v but) [
      | yes e ↦ rw (g e)
      | no n ↦ rw (ne_eqb v but n) at (and_r (wait_sound c.wait) (eqb v but || not (gets_nine c)) p)
    ])

module _ (but : ℕ) (l : Layer) where
  pub sound-but : layer_sound l ≡ true → layer_sound_but but l ≡ true
  unfolding layer_sound_but
  sound-but s =
      let h = sound-last l s in
      rw (le-leb l.last 3 (omega arith), four-in (λ v. lane_sound_but but v (lane_at l v)) (λ v _. sound-passes but v (lane_at l v) (each_lane l s v)))

  -- so where the checks fail, it is unsound
  pub fails-unsound : layer_sound_but but l ≡ false → layer_sound l ≡ false
  fails-unsound f = go (layer_sound l) refl
    where
      go : (b : Bool) → layer_sound l ≡ b → b ≡ false
      go true s = absurd (true≢false (sym (sound-but s) ∙ f))
      go false s = refl

  module _ (p : layer_sound_but but l ≡ true) where
    passes : (v : ℕ) → v < 4 → lane_sound_but but v (lane_at l v) ≡ true
    passes v h = unfold layer_sound_but in (four-at (λ w. lane_sound_but but w (lane_at l w)) (and_r (leb l.last 3) (of_four (λ w. lane_sound_but but w (lane_at l w))) p) v h)

    pub but-wait : (v : ℕ) → v < 4 → wait_sound (lane_at l v).wait ≡ true
    but-wait v h = unfold lane_sound_but in (and_l (wait_sound (lane_at l v).wait) (eqb v but || not (gets_nine (lane_at l v))) (passes v h))

    pub but-sound : length l.lanes ≡ 4 → ((v : ℕ) → v < 4 → v ≡ but → gets_nine (lane_at l v) ≡ false) → layer_sound l ≡ true
    but-sound four g =
        layer-sound l last (λ v. elim (dec_lt v 4) [
          | yes h ↦ passes-sound but v (lane_at l v) (passes v h) (g v h)
          | no h ↦ unfold lane_at in (ap lane_sound (get_or-eq_default l.lanes fresh_lane {n = v} (omega arith)) ∙ fresh-lane)
        ])
      where
        last : l.last < 4
        last = unfold layer_sound_but in (
            let h = leb-true l.last 3 (and_l (leb l.last 3) (of_four (λ w. lane_sound_but but w (lane_at l w))) p) in omega arith
            )

-- with 4 all venues are asked after
pub but-none : (l : Layer) → length l.lanes ≡ 4 → layer_sound_but 4 l ≡ layer_sound l
but-none l four = go (layer_sound_but 4 l) refl
  where
    go : (b : Bool) → layer_sound_but 4 l ≡ b → b ≡ layer_sound l
    go true p = sym (but-sound 4 l p four (λ v h e. absurd (omega arith)))
    go false p = sym (fails-unsound 4 l p)
