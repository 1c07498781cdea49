-- Laws that the functions' proofs cite, and the cases that are proved.
pub mod Cases
pub mod StepTimes
pub mod Tables
