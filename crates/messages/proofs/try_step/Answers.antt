-- `messages::try_step` meets its contract.
use native.Mathlib.Omega.{arith}
use Rattle.places.specs.Layout.{venue_of}
use Rattle.messages.proofs.Trying.{tries-roomy}
use Rattle.messages.proofs.try_step.Goals as goal

pub returns : goal.returns
returns c = tries-roomy (venue_of c.args.numbers.now) c.args.number c.args.message.now _ _ _ _ _ c.requires.sound (omega arith)
    c.step.ensures
