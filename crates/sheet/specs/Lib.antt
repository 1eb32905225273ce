-- What is printed, and where the printing stands between two messages.
pub mod Sheet
pub mod Streams
pub mod Requirements
