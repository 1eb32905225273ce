-- `engine::one_message` meets its contract.
use mathlib.Core.Path.{◌≡◌, sym, ◌∙◌}
use mathlib.Core.Bool.{true, ◌&&◌}
use Prim.Native.Nat.{suc, ◌<◌}
use native.Mathlib.Omega.{arith}
use Rattle.rules.specs.Sound.{sound, follows}
use Rattle.rules.proofs.Tests.{and_l}
use Rattle.places.specs.Layout.{Loaded}
use Rattle.soundness.proofs.ReadyFor.{unready, ready-last, ready-next}
use Rattle.engine.proofs.OneCallLaws.{laid-sound, one-unready, one-no-number, one-no-room, one-done}
use Rattle.engine.proofs.one_message.Goals as goal

pub returns-then-not-load_sound : goal.returns-then-not-load_sound
returns-then-not-load_sound c = c.end_call.ensures
    ∙ one-unready c.args.venue c.args.before _ c.args.message.now
    (sym (unready c.args.venue c.args.before c.load_sound.new.numbers
    (sym c.load_sound.ensures.answer ∙ c.if-not-load_sound.true)).answer)

pub returns-then-before-eq4294967295 : goal.returns-then-before-eq4294967295
returns-then-before-eq4294967295 c = let t = c.if-not-load_sound.false in let last = c.if-before-eq4294967295.true in
    c.end_call-then-before-eq4294967295.ensures ∙ one-no-number c.args.venue c.args.before _ c.args.message.now
    (sym (ready-last c.args.venue c.args.before _ (sym c.load_sound.ensures.answer ∙ t) (c.load_sound.ensures.loaded t) last).answer) last

pub returns-then-not-follows_kept : goal.returns-then-not-follows_kept
returns-then-not-follows_kept c = let t = c.if-not-load_sound.false in c.end_call-then-not-follows_kept.ensures
    ∙ one-unready c.args.venue c.args.before _ c.args.message.now
    (sym (ready-next c.args.venue c.args.before _ (sym c.load_sound.ensures.answer ∙ t) (c.load_sound.ensures.loaded t) _
    c.follows_kept.ensures).answer ∙ c.if-not-follows_kept.true)

pub step-r-requires : goal.step-r-requires
step-r-requires c =
    let stands : Loaded c.args.venue
    c.load_sound.new.numbers = let t = c.if-not-load_sound.false in c.load_sound.ensures.loaded t in
    let passed : (sound c.args.venue && follows
    (suc c.args.before)
    c.args.venue) ≡ true = let t = c.if-not-load_sound.false in
    sym (ready-next c.args.venue c.args.before _ (sym c.load_sound.ensures.answer ∙ t) (c.load_sound.ensures.loaded t) _ c.follows_kept.ensures).answer
    ∙ c.if-not-follows_kept.false in
    let l = stands in
    record { dense = l.dense; sound = laid-sound _ _ (and_l _ _ passed) l.venue }

pub returns-then-report-written : goal.returns-then-report-written
returns-then-report-written c =
    let stands : Loaded c.args.venue
    c.load_sound.new.numbers = let t = c.if-not-load_sound.false in c.load_sound.ensures.loaded t in
    let passed : (sound c.args.venue && follows
    (suc c.args.before)
    c.args.venue) ≡ true = let t = c.if-not-load_sound.false in
    sym (ready-next c.args.venue c.args.before _ (sym c.load_sound.ensures.answer ∙ t) (c.load_sound.ensures.loaded t) _ c.follows_kept.ensures).answer
    ∙ c.if-not-follows_kept.false in
    let numbered : c.args.before < 4294967295 = omega arith in
    c.end_call-then-report-written.ensures ∙ one-no-room c.args.venue c.args.before c.args.message.now _ c.step-r.new.numbers
    c.args.report.now c.step-r.new.out c.step-r.result
    passed
    stands.venue
    numbered c.step-r.ensures
    (omega arith)

pub returns : goal.returns
returns c =
    let stands : Loaded c.args.venue
    c.load_sound.new.numbers = let t = c.if-not-load_sound.false in c.load_sound.ensures.loaded t in
    let passed : (sound c.args.venue && follows
    (suc c.args.before)
    c.args.venue) ≡ true = let t = c.if-not-load_sound.false in
    sym (ready-next c.args.venue c.args.before _ (sym c.load_sound.ensures.answer ∙ t) (c.load_sound.ensures.loaded t) _ c.follows_kept.ensures).answer
    ∙ c.if-not-follows_kept.false in
    let numbered : c.args.before < 4294967295 = omega arith in
    one-done c.args.venue c.args.before
    c.args.message.now _ c.step-r.new.numbers c.args.report.now c.step-r.new.out c.step-r.result
    passed
    stands.venue
    numbered
    c.step-r.ensures _ _ (omega arith) c.zero_from.ensures c.venue_of-after.ensures
