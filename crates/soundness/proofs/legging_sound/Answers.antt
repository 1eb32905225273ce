-- `soundness::legging_sound` meets its contract.
use mathlib.Core.Path.{sym, ap, ◌∙◌}
use Prim.Native.Nat.{◌/◌, ◌%◌}
use Rattle.rules.specs.Standing.{verdict, stands}
use Rattle.rules.specs.Sound.{legging_sound}
use Rattle.places.specs.Layout.{venue_of}
use Rattle.soundness.specs.Checked.{legging_in_range, has_home}
use Rattle.sound_places.proofs.Passes.{first-fails, second-fails, third-fails, last-decides}
use Rattle.places.proofs.Parts.{legging-at}
use Rattle.soundness.proofs.Beside.{sound-free, sound-held}
use Rattle.soundness.proofs.legging_sound.Goals as goal

pub returns-then-l-eq0 : goal.returns-then-l-eq0
returns-then-l-eq0 c = let v = venue_of c.args.numbers.now in let n = c.args.n in
    let l = c.legging_at-l.result in c.blank_legging.ensures ∙ sound-free v n l c.if-l-eq0.true
    ∙ ap (legging_sound v n) c.legging_at-l.ensures

pub returns-then-not-legging_in_range : goal.returns-then-not-legging_in_range
returns-then-not-legging_in_range c = let v = venue_of c.args.numbers.now in let n = c.args.n in
    let l = c.legging_at-l.result in first-fails (legging_in_range l) (has_home v l (n / 2) (n % 2))
    (stands (verdict v n l)) (sym c.legging_in_range.ensures ∙ c.if-not-legging_in_range.true) ∙ sound-held v n l
    c.if-l-eq0.false ∙ ap (legging_sound v n) c.legging_at-l.ensures

pub returns-then-not-has_home : goal.returns-then-not-has_home
returns-then-not-has_home c = let v = venue_of c.args.numbers.now in
    let n = c.args.n in let l = c.legging_at-l.result in
    second-fails (legging_in_range l) (has_home v l (n / 2) (n % 2)) (stands (verdict v n l))
    (sym c.has_home.ensures ∙ c.if-not-has_home.true) ∙ sound-held v n l c.if-l-eq0.false
    ∙ ap (legging_sound v n) c.legging_at-l.ensures

pub returns-in_default : goal.returns-in_default
unfolding stands
returns-in_default c = let v = venue_of c.args.numbers.now in let n = c.args.n in
    let l = c.legging_at-l.result in
    third-fails (legging_in_range l) (has_home v l (n / 2) (n % 2)) (stands (verdict v n l))
    (ap stands ((sym (c.judge.ensures ∙ ap (verdict v n)
    (legging-at c.args.numbers.now n c.requires.place
    ∙ sym c.legging_at-l.ensures))) ∙ c.in_default.is))
    ∙ sound-held v n l c.if-l-eq0.false ∙ ap (legging_sound v n)
    c.legging_at-l.ensures

pub returns : goal.returns
unfolding stands
returns c = let v = venue_of c.args.numbers.now in let n = c.args.n in
    let l = c.legging_at-l.result in
    sym (ap stands ((sym (c.judge.ensures ∙ ap (verdict v n)
    (legging-at c.args.numbers.now n c.requires.place
    ∙ sym c.legging_at-l.ensures))) ∙ c.in-Stands.is))
    ∙ last-decides (legging_in_range l) (has_home v l (n / 2) (n % 2)) (stands (verdict v n l))
    (sym c.legging_in_range.ensures ∙ c.if-not-legging_in_range.false)
    (sym c.has_home.ensures ∙ c.if-not-has_home.false) ∙ sound-held v n l
    c.if-l-eq0.false ∙ ap (legging_sound v n)
    c.legging_at-l.ensures
