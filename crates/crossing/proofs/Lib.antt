pub mod CrossLaws
pub mod Touches
