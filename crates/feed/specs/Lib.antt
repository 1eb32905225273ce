-- Request (k) of document 02: the definitions (Feed), lines of one list (Sent), what stopped the handing out (Stops), and all of it at work (Trials). For the
-- contracts of the code: what is left of the lines from a position on (Cursors), and the call message by message (Turns).
pub mod Feed
pub mod Sent
pub mod Stops
pub mod Trials
pub mod Cursors
pub mod Turns
pub mod Requirements
