-- One byte time: what begins in it, and what the activity does then.
pub mod Turns
