pub mod Texts
pub mod SheetLaws
pub mod Errors
