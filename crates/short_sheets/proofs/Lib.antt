pub mod Listed
pub mod SessionRuns
pub mod SessionMessages
pub mod Texts
pub mod ShortLaws
pub mod Printing
