-- Each public call has one answer.
pub mod Determined
