-- The definitions that the contracts of `transfer` cite.
pub mod Transfers
