-- Request b.
pub mod Multiple
