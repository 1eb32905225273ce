pub mod Entering
pub mod Ranged
