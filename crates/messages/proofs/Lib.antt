pub mod Dispatching
pub mod Trying
