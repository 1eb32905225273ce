-- `venue_numbers::load_book` meets its contract.
use mathlib.Core.Path.{◌≡◌, refl, sym, ap, subst, ◌∙◌}
use native.Mathlib.Omega.{arith}
use lib.ListN.{length}
use Rattle.std.proofs.lemmas.List.{get_or_read_under}
use Rattle.venue_numbers.proofs.Loaded.{laying-first, laying-next, free-after, past_end}
use Rattle.venue_numbers.proofs.load_book.Goals as goal

pub loop-i-init : goal.loop-i-init
loop-i-init g c = laying-first _ _ _ _ _ _ c.requires.rows _ _ c.told-numbers

pub returns-then-not-is_held : goal.returns-then-not-is_held
returns-then-not-is_held g c =
    let is = get_or_read_under c.args.l.now c.loop-i.i _ c.index-l-i.result g.T.Order.free c.index-l-i.is c.loop-i-test.true refl in
    record {
      laying = c.loop-i.invariant;
      few = omega (arith, c.loop-i-test.true, c.requires.many);
      rest = free-after _ _ _ _ _ c.requires.placed (ap g.T.Order.holds (sym is) ∙ sym c.is_held.ensures ∙ c.if-not-is_held.true);
    }

pub loop-i-preserved : goal.loop-i-preserved
loop-i-preserved g c =
    let is = get_or_read_under c.args.l.now c.loop-i.i _ c.index-l-i.result g.T.Order.free c.index-l-i.is c.loop-i-test.true refl in
    let held = sym c.is_held.ensures ∙ c.if-not-is_held.false in
    laying-next _ _ _ _ _ _ c.requires.rows _ _ _ _ c.loop-i.invariant _ _ (omega (arith, c.loop-i-test.true, c.requires.many)) is held c.write.ensures.put
    (c.write.ensures.back (subst g.T.Order.asked (sym is) (c.requires.placed.asked c.loop-i.i (ap g.T.Order.holds (sym is) ∙ held))))

pub returns : goal.returns
returns g c =
    let all : c.loop-i.i ≡ length c.args.l.now = omega (arith, c.loop-i-test.false, c.loop-i.auto.i-end) in
    record {
      laying = rw all at c.loop-i.invariant;
      few = omega (arith, c.requires.many);
      rest = past_end g.T.Order.free c.args.l.now (length c.args.l.now) (omega arith);
    }
