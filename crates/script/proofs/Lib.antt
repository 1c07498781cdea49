-- Laws of the script's lines, for the crates above.
pub mod Taking
pub mod LineEnds
pub mod ReadBack
