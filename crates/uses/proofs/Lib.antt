-- Every use is a host.
pub mod Calls
pub mod EveryUse
pub mod QuietUse
pub mod Statuses
pub mod Heads
pub mod Endings
pub mod Over
pub mod Decoding
pub mod SectorReads
pub mod Multiples
pub mod ShownMarks
pub mod Sessions
pub mod Bytes
pub mod Serves
