pub mod RefusalFound
pub mod EditionsLaws
pub mod Passing
