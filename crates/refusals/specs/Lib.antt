pub mod Editions
pub mod Requirements
