-- `places::mask_of` meets its contract.
use Rattle.places.proofs.Masks.{mask-read}
use Rattle.places.proofs.mask_of.Goals as goal

pub returns : goal.returns
returns c = mask-read _ c.requires.marked
