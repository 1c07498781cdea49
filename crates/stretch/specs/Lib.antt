-- The definitions that the contracts of `stretch` cite.
pub mod Stretches
