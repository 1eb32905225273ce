pub mod Listing
pub mod Following
pub mod SessionsLeft
pub mod Holding
