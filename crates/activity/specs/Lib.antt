-- The definitions that the contracts of `activity` cite, and those above build with.
pub mod Acts
pub mod Limits
