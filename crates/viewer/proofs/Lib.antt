-- What the proofs of `viewer` share, and what the viewer hands back in document 01's words: `Views`.
pub mod Search
pub mod Sectors
pub mod Views
