-- The short sessions from a list of messages, and what holds of them; the values and the memory that hold them.
pub mod Sessions
pub mod Values
pub mod Held
pub mod Trials
