-- The acts that a byte time can have, and the laws over them for the crates above.
pub mod Acts
pub mod Within
