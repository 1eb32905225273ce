-- What the bytes of a lent slice come to: what is written of it, a venue beside it, and a record found in it.
pub mod Seen
pub mod Stage
pub mod Next
