-- Theorems about the calls, and about the machines that grow from power-on by them.
pub mod Valid
pub mod Cases
pub mod AsGiven
pub mod OneCell
pub mod Fixed
pub mod Sides
pub mod Runs
pub mod Counts
pub mod Within
pub mod StatusBits
pub mod Samples
pub mod EmptyTrack
pub mod Reached
