-- The layer as bytes (Memory), and what is checked before a call that checks one venue itself (Checks).
pub mod Memory
pub mod Checks
pub mod Requirements
