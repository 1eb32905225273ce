use mathlib.Core.Path.{ap, subst}
use Rattle.short_sessions.specs.Sessions.{Within}
use Rattle.short_sessions.specs.Values.{places_of}
use Rattle.short_sheets.proofs.SessionMessages.{of_none, of_one, of_three, of_two}
use Rattle.short_sheets.proofs.put_messages.Goals as goal

pub put_message-requires : goal.put_message-requires
unfolding Within
put_message-requires c = (subst (Within 12) (ap places_of c.in-One.is) c.requires.places).0

pub put_message-at-requires : goal.put_message-at-requires
unfolding Within
put_message-at-requires c = (subst (Within 12) (ap places_of c.in-Two.is) c.requires.places).0

pub put_message-requires-in-Two : goal.put_message-requires-in-Two
unfolding Within
put_message-requires-in-Two c = (subst (Within 12) (ap places_of c.in-Two.is)
    c.requires.places).1.0

pub put_message-at-requires-in-Three : goal.put_message-at-requires-in-Three
unfolding Within
put_message-at-requires-in-Three c = (subst (Within 12) (ap places_of c.in-Three.is) c.requires.places).0

pub put_message-at-requires-in-Three-2 : goal.put_message-at-requires-in-Three-2
unfolding Within
put_message-at-requires-in-Three-2 c = (subst (Within 12) (ap places_of c.in-Three.is)
    c.requires.places).1.0

pub put_message-requires-in-Three : goal.put_message-requires-in-Three
unfolding Within
put_message-requires-in-Three c = (subst (Within 12)
    (ap places_of c.in-Three.is)
    c.requires.places).1.1.0

pub returns-in-Empty : goal.returns-in-Empty
returns-in-Empty c = of_none _ _ (ap places_of c.in-Empty.is) c.requires.bytes

pub returns-in-One : goal.returns-in-One
returns-in-One c = of_one _ _ c.requires.bytes _ (ap places_of c.in-One.is) c.requires.places _ _
    c.put_message.ensures

pub returns-in-Two : goal.returns-in-Two
returns-in-Two c = of_two _ _ c.requires.bytes _ _ (ap places_of c.in-Two.is)
    c.requires.places _ _ _ _ c.put_message-at.ensures c.put_message-in-Two.ensures

pub returns-in-Three : goal.returns-in-Three
returns-in-Three c = of_three _ _ c.requires.bytes _ _ _
    (ap places_of c.in-Three.is)
    c.requires.places _ _ _ _ _ _ c.put_message-at-in-Three.ensures
    c.put_message-at-in-Three-2.ensures c.put_message-in-Three.ensures
