-- The definitions that the contracts of `stepping` cite.
pub mod Stepping
