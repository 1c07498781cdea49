-- Demand 1, and the lemmas that it stands on.
pub mod Refusals
pub mod Demand1
pub mod Pictures
pub mod PicturesTaken
pub mod Viewer
pub mod Viewed
