-- Definitions that several crates share.
pub mod Bits
pub mod Laid
