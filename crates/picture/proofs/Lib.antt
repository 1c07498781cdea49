-- What the proofs of `picture` share, and the laws of pictures.
pub mod Verdicts
pub mod Laws
pub mod Padding
