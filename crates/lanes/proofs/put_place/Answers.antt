-- `lanes::put_place` meets its contract.
use mathlib.Core.Path.{refl, ◌∙◌}
use lib.ListN.{length, length-set}
use Rattle.lanes.proofs.MemoryLaws.{place-put}
use Rattle.lanes.proofs.put_place.Goals as goal

pub shape_of-place : goal.shape_of-place
shape_of-place c = c.zero_from.auto.out
    ∙ c.put-end.auto.out ∙ length-set c.args.place.now 0 (length c.args.message.now)

pub returns : goal.returns
returns c = c.zero_from.ensures ∙ place-put c.args.place.now
    c.args.message.now _ c.put-end.new.out c.put-end.result c.requires.whole c.requires.short refl c.put-end.ensures
