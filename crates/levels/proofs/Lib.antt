pub mod Scans
pub mod Scanning
pub mod LevelWithOrder
pub mod LevelChanges
pub mod Sides
pub mod GridLaws
pub mod LevelsKept
