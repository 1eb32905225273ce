-- Proofs of the statements of specs/, in the order in which each file uses the ones before it:
--
--   NegativeWitness  wrong sheets that the claims refuse
--   TellsLaws   `Tells v e`: the records of the effect e upon v tell the venue that it leaves, and each is as claimed at its moment
--   Placing     removals and generation, which change legging places alone
--   Lessening   to lessen the order of an id is to fill its place; ids are apart
--   Passing     what no trade passes over, by who takes
--   TradeTells  trades and pairs
--   Arriving    an order that arrives: its trades and its hits
--   Touching    what touch leaves for the legging in
--   CrossTells  crosses, which respect the legs
--   Working     a complex order at work, and sweeps
--   Performing  every accepted message
--   Sheets      the theorems replays and no-better-passed-over
--   Witness     the claims are not empty
pub mod NegativeWitness
pub mod TellsLaws
pub mod Placing
pub mod Lessening
pub mod Passing
pub mod TradeTells
pub mod Arriving
pub mod Touching
pub mod CrossTells
pub mod Working
pub mod Performing
pub mod Sheets
pub mod Witness
