-- Lemmas that the proofs of every crate share.
pub mod Cases
pub mod Arms
pub mod Laid
