-- Lost Data exactly when, in reads and in writes, and never silently; and the laws that this stands on.
pub mod DrCalls
pub mod Since
pub mod NeverSilently
pub mod Kept
pub mod Begun
pub mod Exactly
pub mod ReadCourse
pub mod ReadTurns
pub mod LostInRead
pub mod WriteCourse
pub mod WriteTurns
pub mod LostInWrite
