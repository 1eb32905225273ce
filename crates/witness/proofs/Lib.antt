pub mod Witness
pub mod Longer
