-- The sheet as text: a record's line, and lines typed into a lent slice.
pub mod Lines
pub mod Typing
pub mod Widths
