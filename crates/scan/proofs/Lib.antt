-- What the proofs of `scan` share, and its laws for the crates above: `Rows`, `Marks`, `DataMarks` and `Ids`.
pub mod Rows
pub mod Preset
pub mod Marks
pub mod DataMarks
pub mod IdRun
pub mod IdParts
pub mod IdSound
pub mod IdComplete
pub mod Ids
