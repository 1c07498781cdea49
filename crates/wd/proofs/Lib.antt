-- What the proofs of `wd` share, and its laws for the crates above.
pub mod LoadNumbers
pub mod Valid
pub mod Runs
pub mod Stretches
pub mod Transferred
