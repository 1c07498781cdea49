-- The definitions that the contracts of `formatting` cite.
pub mod Formatting
