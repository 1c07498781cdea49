-- The laws of `stretch`.
pub mod Clearing
pub mod Opening
pub mod Reaching
pub mod Stretching
pub mod Passing
