-- The witness, by computation.
use mathlib.Core.Path.{refl}
use Rattle.rules.specs.Opened.{opened-rules}
use Rattle.layer.specs.Layer.{fresh_lane, fresh_layer, lane_at, with_lane, gets_nine, wait_sound, lane_sound, layer_sound, refusal_of, joins, arrive}
use Rattle.layer.specs.Layer.{waiting, first_waiting, next, head, head_call, ended, idle, advanced, serve, turn, after, after_all}
use Rattle.layer.specs.Promises.{tells, told_by}
use Rattle.layer.specs.Witness.{Witness, numbers, served_by, session, eight, beyond, with_third, long, crowded, unsound, dated, busy}

pub witness : Witness
unfolding opened-rules fresh_lane fresh_layer lane_at with_lane gets_nine wait_sound lane_sound layer_sound refusal_of joins arrive waiting first_waiting next
    head head_call ended idle advanced serve turn after after_all tells told_by numbers served_by session eight beyond with_third long crowded unsound
    dated busy
witness = record { numbered = refl; served = refl; told = refl; counts = refl; full = refl; nine = refl; follows = refl }
