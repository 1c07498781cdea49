-- What a caller knows of its calls, and what any number of them come to.
pub mod CallContracts
pub mod Uses
pub mod Courses
pub mod Sessions
pub mod Multiples
pub mod ShownMarks
