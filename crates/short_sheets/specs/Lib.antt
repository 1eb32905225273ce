-- The fixed list, the sessions from it, and what is printed.
pub mod Short
pub mod Requirements
