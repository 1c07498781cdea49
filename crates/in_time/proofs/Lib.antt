-- Demand 3, the lemmas that it stands on, and scenes that it speaks of.
pub mod Hits
pub mod Underway
pub mod Demand3
pub mod Scenes
pub mod NoMatch
pub mod Sharp
