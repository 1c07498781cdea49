-- What the functions of `bench` give.
pub mod Numbers
pub mod Rows
pub mod States
