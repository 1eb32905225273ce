-- What is asked of the layer before a call that asks after one venue itself, so that no venue is checked twice; and which venue that is at a turn.
use Rattle.std.specs.Prelude.{Option, None, Some, Bool, not, ◌&&◌, ◌||◌, ℕ, eqb, leb, if◌then◌else◌}
use Rattle.layer.specs.Layer.{Lane, Layer, lane_at, gets_nine, wait_sound, next}

-- the figures of lane v are in range, and its venue gets no 9 unless it is `but`
unfoldable pub lane_sound_but : (but v : ℕ) → Lane → Bool
lane_sound_but but v c = wait_sound c.wait && (eqb v but || not (gets_nine c))

unfoldable pub of_four : (ℕ → Bool) → Bool
of_four f = f 0 && (f 1 && (f 2 && f 3))

-- with 4 this is `layer_sound`
unfoldable pub layer_sound_but : (but : ℕ) → Layer → Bool
layer_sound_but but l = leb l.last 3 && of_four (λ v. lane_sound_but but v (lane_at l v))

-- the venue whose message a turn does; none where no message waits
abbrev pub to_serve : Layer → Option ℕ
to_serve l = if eqb (next l) 4 then None else Some (next l)
