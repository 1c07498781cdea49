-- The definitions that the contracts of `registers` cite.
pub mod Rings
pub mod Status
pub mod Registers
