-- What the demands that speak of a command under a host share.
pub mod Hosts
pub mod Tracks
pub mod Scenes
pub mod Bytes
