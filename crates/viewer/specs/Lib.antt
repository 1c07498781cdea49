-- The viewer: the search for a sector on one side, what comes of it on two, and what a sector is in document 01's words.
pub mod Sectors
pub mod Views
pub mod Plain
