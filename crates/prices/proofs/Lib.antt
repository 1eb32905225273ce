pub mod Prices
pub mod Ranked
