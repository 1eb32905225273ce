pub mod Limits
pub mod Candidates
pub mod Keys
