-- `cross_makers::can_cross` meets its contract.
use mathlib.Core.Path.{ap, ◌∙◌}
use native.Mathlib.Omega.{arith}
use lib.IntN.{nat_abs}
use Rattle.rules.specs.Prices.{in_band}
use Rattle.rules.specs.Complex.{respects_legs}
use Rattle.rules.proofs.Machine.{back}
use Rattle.cross_makers.proofs.Candidates.{off, on, cross-free, cross-aside, cross-apart, cross-out, cross-far, cross-above, cross-last}
use Rattle.cross_makers.proofs.can_cross.Goals as goal

pub returns-then-m-eq0 : goal.returns-then-m-eq0
returns-then-m-eq0 c = cross-free _ c.args.c c.args.m c.if-m-eq0.true

pub returns-then-not-is_reversed : goal.returns-then-not-is_reversed
returns-then-not-is_reversed c = cross-aside _ c.args.c c.args.m c.if-m-eq0.false
    (off _ _ c.is_reversed.ensures c.if-not-is_reversed.true-raw)

pub returns-then-not-limits_meet : goal.returns-then-not-limits_meet
returns-then-not-limits_meet c = cross-apart _ c.args.c c.args.m
    c.if-m-eq0.false (on _ _ c.is_reversed.ensures c.if-not-is_reversed.false-raw)
    (off _ _ c.limits_meet.ensures c.if-not-limits_meet.true-raw)

pub taken_at-by_taker-requires : goal.taken_at-by_taker-requires
taken_at-by_taker-requires c = let p = c.requires in record { right = p.right; legs = p.legs }

pub in_band-requires : goal.in_band-requires
in_band-requires c =
    let p = c.requires in
    let u = c.net_against-paid in
    record {
      taken = c.taken_at-by_taker.ensures;
      legs = p.legs;
      bound = omega (arith, ap nat_abs (back {z = u.result} (record { sfits = u.type_inv })), u.ensures.1);
      figures = p.right.marked.figures;
    }

pub returns-then-not-in_band : goal.returns-then-not-in_band
returns-then-not-in_band c =
    let a = c.args in
    let u = c.net_against-paid in
    cross-out _ a.c a.m c.if-m-eq0.false
    (on _ _ c.is_reversed.ensures
    c.if-not-is_reversed.false-raw)
    (on _ _ c.limits_meet.ensures c.if-not-limits_meet.false-raw)
    (off _ _ (c.in_band.ensures ∙ ap (in_band _ a.c) (back {z = u.result} (record { sfits = u.type_inv }) ∙ u.ensures.0)) c.if-not-in_band.true-raw)

pub taken_at-by_maker-requires : goal.taken_at-by_maker-requires
taken_at-by_maker-requires c = let p = c.requires in
    record { right = p.right; legs = p.others }

pub in_band-requires-2 : goal.in_band-requires-2
in_band-requires-2 c =
    let p = c.requires in
    let w = c.limit_of-limit in
    record {
      taken = c.taken_at-by_maker.ensures;
      legs = p.others;
      bound = omega (arith, ap nat_abs (back {z = w.result} (record { sfits = w.type_inv })), w.ensures.1);
      figures = p.right.marked.figures;
    }

pub returns-then-not-in_band-2 : goal.returns-then-not-in_band-2
returns-then-not-in_band-2 c =
    let a = c.args in
    let u = c.net_against-paid in
    let w = c.limit_of-limit in
    cross-far _ a.c a.m c.if-m-eq0.false
    (on _ _ c.is_reversed.ensures
    c.if-not-is_reversed.false-raw)
    (on _ _ c.limits_meet.ensures
    c.if-not-limits_meet.false-raw)
    (on _ _ (c.in_band.ensures ∙ ap (in_band _ a.c)
    (back {z = u.result} (record { sfits = u.type_inv }) ∙ u.ensures.0)) c.if-not-in_band.false-raw)
    (off _ _ (c.in_band-2.ensures ∙ ap (in_band _ a.m) (back {z = w.result} (record { sfits = w.type_inv }) ∙ w.ensures.0)) c.if-not-in_band-2.true-raw)

pub returns-then-not-respects_legs : goal.returns-then-not-respects_legs
returns-then-not-respects_legs c =
    let a = c.args in
    let u = c.net_against-paid in
    let w = c.limit_of-limit in
    cross-above _ a.c a.m
    c.if-m-eq0.false
    (on _ _ c.is_reversed.ensures
    c.if-not-is_reversed.false-raw)
    (on _ _ c.limits_meet.ensures
    c.if-not-limits_meet.false-raw)
    (on _ _ (c.in_band.ensures ∙ ap (in_band _ a.c)
    (back {z = u.result} (record { sfits = u.type_inv }) ∙ u.ensures.0)) c.if-not-in_band.false-raw)
    (on _ _ (c.in_band-2.ensures ∙ ap (in_band _ a.m) (back {z = w.result} (record { sfits = w.type_inv }) ∙ w.ensures.0)) c.if-not-in_band-2.false-raw)
    (off _ _ (c.respects_legs.ensures _ c.taken_at-by_taker.ensures
    ∙ ap (respects_legs _ a.c) (back {z = u.result} (record { sfits = u.type_inv }) ∙ u.ensures.0)) c.if-not-respects_legs.true-raw)

pub returns : goal.returns
returns c =
    let a = c.args in
    let u = c.net_against-paid in
    let w = c.limit_of-limit in
    cross-last _ a.c a.m
    c.if-m-eq0.false
    (on _ _ c.is_reversed.ensures c.if-not-is_reversed.false-raw)
    (on _ _ c.limits_meet.ensures
    c.if-not-limits_meet.false-raw)
    (on _ _ (c.in_band.ensures ∙ ap (in_band _ a.c)
    (back {z = u.result} (record { sfits = u.type_inv }) ∙ u.ensures.0)) c.if-not-in_band.false-raw)
    (on _ _ (c.in_band-2.ensures ∙ ap (in_band _ a.m) (back {z = w.result} (record { sfits = w.type_inv }) ∙ w.ensures.0)) c.if-not-in_band-2.false-raw)
    (on _ _ (c.respects_legs.ensures _
    c.taken_at-by_taker.ensures ∙ ap (respects_legs _ a.c)
    (back {z = u.result} (record { sfits = u.type_inv }) ∙ u.ensures.0)) c.if-not-respects_legs.false-raw) _
    (c.respects_legs-2.ensures _ c.taken_at-by_maker.ensures ∙ ap (respects_legs _ a.m) (back {z = w.result} (record { sfits = w.type_inv }) ∙ w.ensures.0))
