pub mod PicksLaws
pub mod FirstPlace
pub mod Unmet
pub mod Earliest
pub mod Ranking
pub mod Masks
