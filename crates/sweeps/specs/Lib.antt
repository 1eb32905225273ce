pub mod Rising
pub mod Round
pub mod Requirements
