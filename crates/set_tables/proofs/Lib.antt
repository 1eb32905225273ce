pub mod Ordered
pub mod Parted
pub mod TableFilled
pub mod ToldLaws
