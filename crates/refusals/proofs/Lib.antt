-- What the crates above prove with outcomes.
pub mod Outcomes
