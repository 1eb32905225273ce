pub mod FeedsLaws
pub mod ListsLaws
