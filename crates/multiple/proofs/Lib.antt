-- A multiple read ends at the first bad record, or with Record Not Found where all were good.
pub mod Cells
pub mod Searches
pub mod Ended
pub mod Multiple
pub mod OneRecord
pub mod Broken
