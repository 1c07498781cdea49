-- The definitions that the contracts of `crc` cite.
pub mod Crc
pub mod Table
