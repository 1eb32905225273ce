-- What the bytes of a message bring.
use Rattle.std.specs.Prelude.{◌≡◌, true}
use Rattle.rules.specs.declared.Regular.{Regular}
use Rattle.rules.specs.declared.Message.{Message}
use Rattle.rules.specs.declared.Message.TheVariants.{Order}
use Rattle.rules.specs.Sound.{shows_fully}

-- an order that a message brings shows what it should: so is every one that bytes bring (rules, `Showing.message-fully`)
unfoldable pub Shows : Message → Type 0
Shows m = (o : Regular) → m ≡ Order o → shows_fully o ≡ true
