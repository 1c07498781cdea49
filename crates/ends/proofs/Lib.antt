-- Every command ends, and the lemmas that it stands on.
pub mod Left
pub mod Moments
pub mod Falls
pub mod SteadyDr
pub mod Drains
pub mod Hunting
pub mod FiveRounds
pub mod Begun
pub mod TypeOne
pub mod Settled
pub mod Sectors
pub mod Ends
