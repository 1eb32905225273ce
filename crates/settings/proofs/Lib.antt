pub mod ForcedLaws
