-- The definitions that the contracts of `accepting` cite.
pub mod Accepting
