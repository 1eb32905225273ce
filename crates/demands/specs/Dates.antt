-- Document 02 (d): the settings tell what held when. "desks that read an old sheet must know what held when".
use Rattle.std.specs.Prelude.{◌≡◌, List, [], ◌∷◌, map, ℕ, ◌≤◌, take}
use Rattle.rules.specs.declared.Settings.{Settings}
use Rattle.rules.specs.declared.Venue.{Venue}
use Rattle.rules.specs.Words.{fresh_venue}
use Rattle.rules.specs.Settings.{percentage, figure_now}
use Rattle.rules.specs.Calls.{settings}
use Rattle.demands.specs.Demand.{Later, Opening, calls, opening}
use Rattle.demands.specs.Truth.{leaves}

-- the settings that the rules read upon a venue
unfoldable pub settings_now : Venue → Settings
settings_now v = record { number = 0; increments = map (figure_now v) (0 ∷ 1 ∷ 2 ∷ 3 ∷ 4 ∷ 5 ∷ 6 ∷ 7 ∷ []); percent = figure_now v percentage }

-- after any list of calls, the settings told of the venue at a message number are those that the rules read when that message had been done
abbrev pub Dates : Type 0
Dates = (o : Opening) (cs : List Later) (number : ℕ) →
    let s = calls (opening o) cs in
    number ≤ s.done → settings s.venue number ≡ settings_now (leaves fresh_venue 0 (take number s.messages))
