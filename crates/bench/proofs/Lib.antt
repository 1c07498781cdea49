-- What the proofs of `bench` share.
pub mod Laws
