-- What it is to have one answer.
pub mod Answers
