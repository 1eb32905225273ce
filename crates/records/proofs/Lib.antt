pub mod Fields
pub mod SeenLaws
pub mod StageLaws
pub mod NextLaws
