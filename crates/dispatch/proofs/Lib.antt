-- Laws of the calls upon the layer in memory; the statements of specs/Hosts are proved in Held.
--
--   Held       the calls upon a memory are those upon the layer that it holds: held
--   CallWays   an arrival and a turn, by the ways in which each ends
--   FreshLayer  a host's fresh layer
pub mod Held
pub mod CallWays
pub mod FreshLayer
