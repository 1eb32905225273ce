pub mod Setting
pub mod Entering
