-- Proofs of the statements of specs/, in the order in which each file uses the ones before it:
--
--   Lists       laws of lists of records, and of rows that rise
--   Counts      few enough of each part, both ways
--   Rows        a row of records in a memory, both ways
--   Records     each record of a set, its kind and length, and what it tells
--   Held        the held places of an arranged book
--   Parts       the part of a set that a record is of
--   PartsKept   what is kept of a row of parts
--   Fine        each record of a set: its part, its mark, its place
--   Merging     the resting orders of both books in one row
--   Slots       legging orders by place
--   Numbers     generations by series
--   Carried     a venue that may be carried
--   Written     the set of such a venue is a set
--   ReadBack    reading what was written
--   Most        the most bytes of a set
--   Cutting     a day that is cut by sets
--   Spelled     the bytes of a record from what is read at its places
--   Pieces      a row in order is its pieces one after another
--   PartsRead   each record that is read, by its part
--   Again       the parts of the set of the venue that a set tells
--   WriteBack   writing what was read
--   ReadSound   what is read is sound
pub mod Lists
pub mod Counts
pub mod Rows
pub mod Records
pub mod Held
pub mod Parts
pub mod PartsKept
pub mod Fine
pub mod Merging
pub mod Slots
pub mod Numbers
pub mod Carried
pub mod Written
pub mod ReadBack
pub mod Most
pub mod Cutting
pub mod Spelled
pub mod Pieces
pub mod PartsRead
pub mod Again
pub mod WriteBack
pub mod ReadSound
