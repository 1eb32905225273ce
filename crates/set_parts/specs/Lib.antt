pub mod SetMemory
pub mod Parts
