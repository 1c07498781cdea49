-- Lost Data.
pub mod LostData
