-- `c_api::put_settings` meets its contract.
use mathlib.Core.Path.{◌≡◌}
use native.Mathlib.Omega.{arith}
use lib.ListN.{length}
use Rattle.engine.specs.Hosts.{settings_bytes}
use Rattle.c_api.proofs.SettingsTold.{put_both}
use borrow.Author.Rules.{rules}
use Rattle.c_api.proofs.put_settings.Goals as goal

pub returns : goal.returns
unfolding settings_bytes
returns c = let n : length c.args.s.increments ≡
    8 = search rules in put_both _ _ _ _ _ _ _ (omega arith) c.put-at.ensures
    c.put.ensures
