-- What the proofs of `list` share, and that its listing is complete.
pub mod Lengths
pub mod Rounds
pub mod Stepping
pub mod Running
pub mod Copied
pub mod Complete
pub mod Marks
pub mod Pictures
