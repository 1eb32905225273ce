pub mod Loaded
pub mod FreshNumbers
