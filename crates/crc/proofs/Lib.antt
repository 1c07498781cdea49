-- What the proofs of `crc` share, and its laws for the crates above.
pub mod Xor
pub mod Linear
pub mod Laws
pub mod Cases
pub mod Words
