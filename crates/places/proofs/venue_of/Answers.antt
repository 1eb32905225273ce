-- `places::venue_of` meets its contract.
use mathlib.Core.Path.{ap, ◌∙◌}
use Prim.Native.Nat.{ℕ}
use Rattle.rules.specs.Words.{no_regular, no_complex}
use Rattle.places.specs.Layout.{regular_in, complex_in, in_use, venue_of}
use Rattle.places.proofs.Parts.{venue-is}
use Rattle.places.proofs.Tables.{whole}
use Rattle.places.proofs.venue_of.Goals as goal

pub returns : goal.returns
unfolding venue_of
returns c =
    venue-is _ _
    (c.read_table.ensures ∙ ap (λ (n : ℕ). in_use (regular_in c.args.numbers.now) no_regular n 128) c.regulars_used.ensures.0)
    (c.read_table-2.ensures ∙ ap (λ (n : ℕ). in_use (complex_in c.args.numbers.now) no_complex n 32) c.complexes_used.ensures.0)
    (c.read_table-3.ensures ∙ whole _ _ 16)
    (c.read_table-4.ensures ∙ whole _ _ 8) (c.read_table-5.ensures ∙ whole _ _ 32) (c.read_table-6.ensures ∙ whole _ _ 8)
    c.last_id.ensures c.reached_id.ensures
