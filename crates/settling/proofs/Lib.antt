pub mod PartsLaws
pub mod CausesFound
