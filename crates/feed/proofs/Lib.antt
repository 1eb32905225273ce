pub mod Handing
pub mod Sending
pub mod Cursors
pub mod FeedRuns
pub mod Ahead
pub mod StopLaws
