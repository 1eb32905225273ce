-- What a host sees of the calls.
pub mod Hosts
pub mod Requirements
