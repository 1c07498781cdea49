-- What the theorems about one call, one run and the machines grown from power-on speak of.
pub mod Growth
pub mod Sides
pub mod ByteTimes
pub mod Limits
pub mod Cases
