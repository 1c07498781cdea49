-- Demand 2 as a host sees it.
pub mod Served
