-- The three demands and the accident of March, each one theorem.
pub mod Demand1
pub mod Demand2
pub mod Demand3
pub mod March
