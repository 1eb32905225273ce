pub mod TypingLaws
pub mod Sheets
pub mod WidthsLaws
