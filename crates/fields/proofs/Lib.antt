-- What the proofs of `fields` share, and its laws for the crates above: `Rings`, `Ids` and `DataMarks`.
pub mod Rings
pub mod Steps
pub mod First
pub mod Shift
pub mod Ids
pub mod DataMarks
