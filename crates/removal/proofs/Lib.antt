pub mod RemovalLaws
pub mod Loops
