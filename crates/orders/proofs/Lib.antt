pub mod OrderLaws
pub mod CancelLaws
