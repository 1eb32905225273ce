pub mod Fronts
pub mod OrderLaws
pub mod Walks
