-- The trials that rules leaves to this crate, so that an edit of a rule is not asked for all of them; and the filing's own examples.
pub mod Trials
pub mod Filing
