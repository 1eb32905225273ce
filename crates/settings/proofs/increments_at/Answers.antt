-- `settings::increments_at` meets its contract.
use Rattle.settings.proofs.increments_at.Goals as goal

pub returns : goal.returns
returns c = cc
