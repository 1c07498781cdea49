-- The definitions that the contracts of `reading` cite.
pub mod Reading
