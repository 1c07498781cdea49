-- What the functions of `list` print, what they do to the buffer of the input, a step from picture to picture, and all steps.
pub mod Lines
pub mod Listing
pub mod Plain
pub mod Input
pub mod Steps
pub mod Runs
