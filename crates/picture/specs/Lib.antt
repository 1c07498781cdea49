-- The definitions that the contracts of `picture` cite.
pub mod Kinds
pub mod Layout
pub mod Reader
