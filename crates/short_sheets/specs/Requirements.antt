-- What the functions require, each part by its name.
use Rattle.std.specs.Prelude.{◌≡◌, List, ℕ, ◌≤◌, length}
use Rattle.short_sessions.specs.Sessions.{Within}
use Rattle.short_sessions.specs.Values.{places_of}
use Rattle.short_sessions.specs.declared.Session.{Session}
use Rattle.short_sheets.specs.Short.{room}
use Rattle.short_sheets.specs.Short.{most_text}

-- messages of the list, and room for their bytes
pub record MessagesRoom (s : Session) (o : List ℕ) : Type 0 where
  pub places : Within 12 (places_of s)
  pub bytes : 63 ≤ length o

-- messages of the list, and room for their sheet and its text
pub record SessionRoom (s : Session) (r t : List ℕ) : Type 0 where
  pub places : Within 12 (places_of s)
  pub report : length r ≡ room
  pub text : most_text ≤ length t
