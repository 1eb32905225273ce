-- `sound_places::places_sound` meets its contract.
use mathlib.Core.Path.{sym, ◌∙◌}
use mathlib.Core.Bool.{◌&&◌}
use Rattle.rules.specs.Base.{all}
use Rattle.rules.specs.Sound.{listed_in_range, complexes_sound}
use Rattle.rules.proofs.Tests.{and_in}
use Rattle.sound_places.specs.Checked.{regulars_from, complexes_from, kept_sound, places_sound}
use Rattle.sound_places.proofs.Passes.{out_of_range, out-of-last, first-fails, second-fails, last-decides}
use Rattle.sound_places.proofs.places_sound.Goals as goal

pub returns-then-not-regulars_sound : goal.returns-then-not-regulars_sound
unfolding places_sound
returns-then-not-regulars_sound c = let v = c.args.v in let r = regulars_from v.last 0 v.regular in
    first-fails (r && complexes_sound v) (all listed_in_range v.series) (kept_sound v)
    (out_of_range r (complexes_sound v) (sym c.regulars_sound.ensures ∙ c.if-not-regulars_sound.true))

pub returns-then-not-complexes_sound : goal.returns-then-not-complexes_sound
unfolding places_sound complexes_sound complexes_from
returns-then-not-complexes_sound c = let v = c.args.v in let r = regulars_from v.last 0 v.regular in
    first-fails (r && complexes_sound v) (all listed_in_range v.series) (kept_sound v)
    (out-of-last r (complexes_sound v) (sym c.complexes_sound.ensures ∙ c.if-not-complexes_sound.true))

pub returns-then-not-series_sound : goal.returns-then-not-series_sound
unfolding places_sound all
returns-then-not-series_sound c = let v = c.args.v in
    let r = regulars_from v.last 0 v.regular in second-fails (r && complexes_sound v) (all listed_in_range v.series) (kept_sound v)
    (sym c.series_sound.ensures ∙ c.if-not-series_sound.true)

pub returns : goal.returns
unfolding places_sound complexes_sound complexes_from all
returns c = let v = c.args.v in
    let r = regulars_from v.last 0 v.regular in c.kept_sound.ensures ∙ last-decides (r && complexes_sound v) (all listed_in_range v.series)
    (kept_sound v) (and_in r (complexes_sound v) (sym c.regulars_sound.ensures
    ∙ c.if-not-regulars_sound.false)
    (sym c.complexes_sound.ensures ∙ c.if-not-complexes_sound.false))
    (sym c.series_sound.ensures ∙ c.if-not-series_sound.false)
