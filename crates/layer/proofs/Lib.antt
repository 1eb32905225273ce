-- Proofs of the statements of specs/, in the order in which each file uses the ones before it:
--
--   Ways        a one-message call, an arrival and a turn, each by the ways in which it ends
--   Lanes       a lane put into the layer, and the venue that a turn serves
--   PromisesLaws  gets-nine, fresh-layer, layer-stays-sound, never-nine, room-enough, answered, unchanged
--   Fairness    fair
--   Order       ordered
--   Returning   returns
--   Apart       each-apart, each-holds, fresh-left
--   Witness     the claims are not empty
pub mod Ways
pub mod Lanes
pub mod PromisesLaws
pub mod Fairness
pub mod Order
pub mod Returning
pub mod Apart
pub mod Witness
