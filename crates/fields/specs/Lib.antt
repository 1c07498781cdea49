-- A row of cells as a ring, and the fields on it.
pub mod Rings
pub mod Ids
pub mod DataMarks
pub mod Rounds
