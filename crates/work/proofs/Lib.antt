pub mod LegInLaws
pub mod WorkLaws
