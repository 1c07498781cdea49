-- What a command byte is, what its bits ask for, and the times and lengths that codes choose.
pub mod Commands
pub mod Bits
pub mod Times
pub mod Sizes
pub mod Orders
