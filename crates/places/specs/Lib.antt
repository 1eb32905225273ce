pub mod Offsets
pub mod Layout
pub mod Requirements
