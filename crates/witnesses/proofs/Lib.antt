-- Sessions that demand 2 speaks of, scenes that demand 3 speaks of, and what they say of them.
pub mod Walks
pub mod LastBusy
pub mod Polling
pub mod ServesAll
pub mod Plans
pub mod Planned
pub mod ReadBytes
pub mod Runs
pub mod Sessions
pub mod Scenes
pub mod LateWrites
pub mod Multiples
