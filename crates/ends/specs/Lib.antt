-- Every command ends.
pub mod Ends
