pub mod RisingLaws
pub mod SweepLaws
pub mod RoundLaws
