use mathlib.Core.Path.{ap}
use Rattle.text.specs.Typing.{◌types◌}
use Rattle.short_sessions.specs.Values.{places_of}
use Rattle.short_sheets.specs.Short.{places_line}
use Rattle.short_sheets.proofs.put_places.Goals as goal

pub returns-in-Empty : goal.returns-in-Empty
unfolding places_line ◌types◌
returns-in-Empty c = rw (ap places_of c.in-Empty.is) c.put.ensures

pub returns-in-One : goal.returns-in-One
unfolding places_line ◌types◌
returns-in-One c = rw (ap places_of c.in-One.is, ← c.printed.ensures) c.put_fields.ensures

pub returns-in-Two : goal.returns-in-Two
unfolding places_line ◌types◌
returns-in-Two c = rw (
  ap places_of c.in-Two.is,
  ← c.printed-in-Two-2.ensures,
  ← c.printed-in-Two.ensures,
)
    c.put_fields-in-Two.ensures

pub returns-in-Three : goal.returns-in-Three
unfolding places_line ◌types◌
returns-in-Three c = rw (
  ap places_of c.in-Three.is,
  ← c.printed-in-Three-3.ensures,
  ← c.printed-in-Three-2.ensures,
  ← c.printed-in-Three.ensures,
) c.put_fields-in-Three.ensures
