-- The definitions that the contracts of `scan` cite, and what they mean of a stream of cells.
pub mod Rows
pub mod Marks
pub mod DataMarks
pub mod Ids
pub mod Streams
