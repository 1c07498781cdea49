-- The machines that the program tries `Refusal.Machine` with, and what the calls give for them.
pub mod Counts
pub mod Calls
