-- What a Read Sector shows of the data mark that it met.
pub mod ShownMarks
