-- `set_writer::write_set` meets its contract.
use mathlib.Core.Path.{◌≡◌, sym, ap, ◌∙◌}
use mathlib.Core.Bool.{true, ◌&&◌}
use Prim.Native.Nat.{suc}
use native.Mathlib.Omega.{arith}
use borrow.Author.Rules.{rules}
use Rattle.rules.specs.declared.Venue.{Venue}
use Rattle.rules.specs.Sound.{sound, follows}
use Rattle.sets.specs.Set.{set_of, joined}
use Rattle.set_parts.specs.SetMemory.{set_memory, ◌adds◌}
use Rattle.set_parts.proofs.SetMemoryLaws.{adds_same}
use Rattle.set_writer.proofs.SavingLaws.{not_carried, no_room, all-written}
use Rattle.set_writer.proofs.write_set.Goals as goal

pub returns-then-not-load_ready : goal.returns-then-not-load_ready
returns-then-not-load_ready c = c.refuse.ensures ∙ not_carried
    c.args.venue c.args.number c.args.memory.now
    (sym c.load_ready.ensures.answer ∙ c.if-not-load_ready.true)

pub put_set-written-requires : goal.put_set-written-requires
put_set-written-requires c = (c.load_ready.ensures.loaded c.if-not-load_ready.false).dense

pub returns-then-memory-written : goal.returns-then-memory-written
returns-then-memory-written c =
    let put : set_memory c.put_set-written.new.out c.put_set-written.result ≡ set_memory
    c.args.memory.now 0 adds joined
    (set_of c.args.number
    c.args.venue) = adds_same _ _ _ _ c.put_set-written.ensures
    (ap (λ (v : Venue). joined (set_of c.args.number v))
    (c.load_ready.ensures.loaded c.if-not-load_ready.false).venue) in
    let passed : (sound c.args.venue && follows (suc c.args.number)
    c.args.venue) ≡ true = sym c.load_ready.ensures.answer ∙ c.if-not-load_ready.false in
    c.refuse-then-memory-written.ensures ∙ no_room _ _ _
    passed _ _
    put (omega arith)

pub returns : goal.returns
returns c =
    let put : set_memory c.put_set-written.new.out c.put_set-written.result ≡ set_memory
    c.args.memory.now 0 adds joined
    (set_of c.args.number
    c.args.venue) = adds_same _ _ _ _ c.put_set-written.ensures
    (ap (λ (v : Venue). joined (set_of c.args.number v))
    (c.load_ready.ensures.loaded c.if-not-load_ready.false).venue) in
    let passed : (sound c.args.venue && follows (suc c.args.number)
    c.args.venue) ≡ true = sym c.load_ready.ensures.answer ∙ c.if-not-load_ready.false in
    all-written _ _ _ passed _ _
    put (omega arith) _ c.zero_from.ensures
