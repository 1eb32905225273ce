pub mod Feeds
pub mod Lists
pub mod Requirements
