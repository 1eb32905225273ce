-- `cross_makers::is_reversed` meets its contract.
use mathlib.Core.Path.{sym, ◌∙◌}
use Rattle.rules.specs.Complex.{reversed}
use Rattle.cross_makers.proofs.is_reversed.Goals as goal

pub returns-then-legs_face : goal.returns-then-legs_face
unfolding reversed
returns-then-legs_face c = rw (sym c.legs_face.ensures ∙ c.if-legs_face.true)

pub returns : goal.returns
unfolding reversed
returns c = rw (sym c.legs_face.ensures ∙ c.if-legs_face.false) c.legs_face-2.ensures
