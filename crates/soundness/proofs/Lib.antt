pub mod Beside
pub mod CheckedLaws
pub mod ReadyFor
