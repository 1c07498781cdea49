-- What the proofs of `transfer` share, and its laws for the crates above.
pub mod Transferring
