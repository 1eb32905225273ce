use mathlib.Core.Path.{◌∙◌, ap, sym}
use borrow.Author.Rules.{rules}
use Rattle.short_sessions.specs.Held.{moved}
use Rattle.short_sessions.proofs.Holding.{four_bytes, holds-none, moved_on, none_after}
use Rattle.short_sessions.proofs.advance.Goals as goal

pub returns-in_err-s : goal.returns-in_err-s
returns-in_err-s c = rw c.from_residual.ensures (holds-none _ _ (sym c.in_err-s.ensures))

pub returns-in_err-t : goal.returns-in_err-t
returns-in_err-t c = rw c.from_residual-in_err-t.ensures (none_after _ _ _ (sym c.in_ok-s.ensures) (sym c.in_err-t.ensures))

pub copy_from_slice-requires : goal.copy_from_slice-requires
copy_from_slice-requires c = let four = four_bytes _ _ _ c.in_ok-s.ensures in search rules

pub returns : goal.returns
returns c = ap (moved _) (c.copy_from_slice.ensures.after ∙ c.bytes_of.ensures) ∙ moved_on _ _ _ _ (sym c.in_ok-s.ensures) (sym c.in_ok-t.ensures)
