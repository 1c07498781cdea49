-- Demand 2, a Write Sector that nobody serves, and the lemmas that they stand on.
pub mod RoundPlaces
pub mod WrittenMarks
pub mod SectorField
pub mod OneMark
pub mod OldIds
pub mod WriteActs
pub mod WriteStages
pub mod WrittenField
pub mod WrittenTrack
pub mod WriteSession
pub mod NextCommand
pub mod ReadSession
pub mod Demand2
pub mod ByItself
pub mod WriteCourse
pub mod LateWrite
