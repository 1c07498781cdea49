-- The definitions that the contracts of `effects` cite.
pub mod Effects
