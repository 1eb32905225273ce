-- The set of a venue and its message number (Set), what it promises (Promises), and sets as bytes (Trials).
pub mod Set
pub mod Promises
pub mod Opened
pub mod Trials
