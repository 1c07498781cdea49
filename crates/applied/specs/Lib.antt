-- What the demands come to on given machines and tracks.
pub mod Refusals
pub mod Pictures
pub mod FirstCalls
pub mod Sector
pub mod NotFound
pub mod Window
pub mod Broken
pub mod OldMarks
pub mod March
