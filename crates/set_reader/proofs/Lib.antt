pub mod ReturnedLaws
