use mathlib.Core.Path.{◌∙◌, ap}
use Prim.Native.Nat.{ℕ}
use Rattle.rules.specs.Calls.{run}
use Rattle.short_sessions.specs.Values.{places_of}
use Rattle.short_sheets.specs.Short.{messages_of}
use Rattle.short_sheets.proofs.Texts.{short-enough, text-stands}
use Rattle.short_sheets.proofs.put_session.Goals as goal

pub returns : goal.returns
returns c = text-stands _ (short-enough c.args.s) c.requires.places _ _ _ _ _ _ c.requires.text
    (c.run_session.ensures
    ∙ ap (λ (n : ℕ). (run n (messages_of (places_of c.args.s))).report) c.requires.report)
    c.put_places-at.ensures c.put_sheet.ensures
