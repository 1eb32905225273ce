pub mod Stores
pub mod Gaps
pub mod Closed
pub mod Figures
pub mod GenerationsPut
pub mod Again
