-- Laws of deeds for the crates above.
pub mod Apart
