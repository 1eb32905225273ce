pub mod SetMemoryLaws
pub mod PartsLaws
