-- The demands, each put to use.
pub mod Conditions
pub mod HighCells
pub mod Refusals
pub mod Pictures
pub mod Commands
pub mod FirstCalls
pub mod Sector
pub mod NotFound
pub mod OneId
pub mod Window
pub mod ReadSectors
pub mod Broken
pub mod OldMarks
pub mod AllCalls
pub mod LeavesDr
pub mod Unread
pub mod March
