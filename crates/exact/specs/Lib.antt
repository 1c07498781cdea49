-- Demand 2, and a Write Sector that nobody serves.
pub mod Demand2
pub mod LateWrite
