use Rattle.std.proofs.Common.{ℕ, List, [], None, Some}
use Rattle.std.specs.declared.option.Option.{Option}
use Rattle.std.specs.Io.KnownBytes.{Appends}
use Rattle.std.proofs.KnownBytes.{Appends-trans}
use Rattle.sheet.specs.Streams.{PrintsInput}
use Rattle.std.proofs.lemmas.Result.{on_ok_weaker}
use Rattle.sheet.proofs.Errors.{done_kept}
use Rattle.sheet.proofs.print_named.Goals as goal

under-heading : (heading : List ℕ) (unread a b d : Option (List ℕ)) → Appends a b heading → PrintsInput [] unread b d → PrintsInput heading unread a d
under-heading heading None a b d x y = tt
under-heading heading (Some bytes) a b d x y = Appends-trans a b d heading _ x y

pub returns : goal.returns
returns g c = on_ok_weaker c.print_input.result (under-heading _ _ _ _ _ (done_kept _ c.in_ok-map_err.ensures.variant c.print_name.ensures)) c.print_input.ensures
